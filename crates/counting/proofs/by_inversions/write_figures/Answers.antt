-- `counting::by_inversions::write_figures` meets its contract.
-- Assumes nothing.
use native.Mathlib.Omega.{arith}
use Prim.Native.Nat.{ℕ, ◌+◌, ◌*◌}
use mathlib.Core.Path.{◌≡◌, ap, ap₂, ◌∙◌}
use mathlib.Core.List.{List}
use lib.ListN.{length}
use Rattle.word.specs.Ceilings.{ENTRIES}
use Rattle.word.specs.Inversions.{figure_count}
use Rattle.text_page.specs.Page.{overlay}
use Rattle.count_entry.proofs.FrameLaws.{framed_fits}
use Rattle.counting.proofs.FigureTableLaws.{framed, need_is, need_small, root_read, figures_read, table_cleared}
use borrow.Author.Rules.{rules}
use Rattle.counting.proofs.by_inversions.write_figures.Goals as goal

pub slice_bounds-write_root-end : goal.slice_bounds-write_root-end
slice_bounds-write_root-end c =
    let l : length c.args.m.places ≡ ENTRIES + 1 = (let o = c.well_formed in search rules) in
    search (rules, l)

pub fill_rows-requires : goal.fill_rows-requires
fill_rows-requires c =
    let w = c.write_plan-root in
    let a = c.args in
    let g = c.requires.0 in
    (framed a.patterns a.scheme a.m a.table.now a.results.now g w.new.sheet w.ensures.sheet, g.small, c.requires.1)

pub write_root-requires : goal.write_root-requires
write_root-requires c =
    let filled = c.fill_rows in
    let w = c.write_plan-root in
    let a = c.args in
    let len : length filled.new.table ≡ length a.table.now = search rules in
    root_read a.patterns a.scheme a.m a.table.now a.results.now c.requires.0 w.new.sheet w.ensures.sheet w.result
    w.ensures.root filled.new.table len

pub figure_count-requires : goal.figure_count-requires
figure_count-requires c = omega (arith, c.requires.0.small)

pub need-requires : goal.need-requires
need-requires c =
    let w = c.write_plan-root in
    let a = c.args in
    framed_fits w.new.sheet a.m.places a.m.frame
    (framed a.patterns a.scheme a.m a.table.now a.results.now c.requires.0 w.new.sheet w.ensures.sheet)

pub overflow_mul-figure_count : goal.overflow_mul-figure_count
overflow_mul-figure_count c =
    let product : let f = c.args.m.frame in c.figure_count.result * c.need.result ≡ figure_count f.last * (f.rows * f.width) =
    ap₂ ◌*◌ c.figure_count.ensures c.need.ensures in
    let w = c.write_plan-root in
    let a = c.args in
    omega (
      arith,
      product,
      need_small a.patterns a.scheme a.m a.table.now a.results.now c.requires.0 w.new.sheet w.ensures.sheet,
    )

pub clear-requires : goal.clear-requires
clear-requires c =
    let product : let f = c.args.m.frame in c.figure_count.result * c.need.result ≡ figure_count f.last * (f.rows * f.width) =
    ap₂ ◌*◌ c.figure_count.ensures c.need.ensures in
    let filled = c.fill_rows in
    let w = c.write_plan-root in
    let a = c.args in
    let len : length filled.new.table ≡ length a.table.now = search rules in
    omega (
      arith,
      product,
      need_is a.patterns a.scheme a.m a.table.now a.results.now c.requires.0 w.new.sheet w.ensures.sheet,
      c.requires.0.room,
      len,
    )

pub returns : goal.returns
returns c =
    let product : let f = c.args.m.frame in c.figure_count.result * c.need.result ≡ figure_count f.last * (f.rows * f.width) =
    ap₂ ◌*◌ c.figure_count.ensures c.need.ensures in
    let cleaned = c.clear in
    let wrote = c.write_root in
    let filled = c.fill_rows in
    let w = c.write_plan-root in
    let a = c.args in
    let g = c.requires.0 in
    let len : length filled.new.table ≡ length a.table.now = search rules in
    let o = framed a.patterns a.scheme a.m a.table.now a.results.now g w.new.sheet w.ensures.sheet in
    record {
      table = cleaned.ensures ∙
          table_cleared a.patterns a.scheme a.m a.table.now a.results.now g w.new.sheet w.ensures.sheet w.result
          w.ensures.root filled.new.table len (filled.ensures o) _ product;
      results = wrote.ensures ∙
          ap (λ (x : List ℕ). overlay 0 x a.results.now)
          (figures_read a.patterns a.scheme a.m a.table.now a.results.now g w.new.sheet w.ensures.sheet w.result
          w.ensures.root filled.new.table len (filled.ensures o));
    }

pub write_plan-root-requires : goal.write_plan-root-requires
write_plan-root-requires c = (c.requires.0.formed, (search rules))
