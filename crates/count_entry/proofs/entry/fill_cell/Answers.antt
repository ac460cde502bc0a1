-- `count_entry::entry::fill_cell` meets its contract.
-- Assumes nothing.
use native.Mathlib.Omega.{arith}
use Prim.Native.Nat.{◌+◌}
use mathlib.Core.Path.{ap, ◌∙◌}
use lib.ListN.{take}
use Rattle.cell.specs.Cell.{total}
use Rattle.spacing.specs.RankLaws.{rank_bound}
use Rattle.spacing.specs.PascalLaws.{binomial_small}
use Rattle.count_plan.specs.Layout.{length_at}
use Rattle.count_cursor.specs.Cursor.{spacing_of}
use Rattle.count_entry.proofs.FrameLaws.{index_small, size, work_fits, work_gaps, work_low, work_length, work_total, cell_walked}
use Rattle.count_entry.proofs.entry.fill_cell.Goals as goal

pub gaps_of-gaps-requires : goal.gaps_of-gaps-requires
gaps_of-gaps-requires c =
    let a = c.args in
    let q = c.requires.0 in
    (index_small a.sheet.now a.places.now a.f a.c q, q.framed.of.long)

pub overflow_add-w : goal.overflow_add-w
overflow_add-w c =
    let a = c.args in
    let q = c.requires.0 in
    let s = q.framed.of.s in
    let w = c.work_of-w in
    let g = c.gaps_of-gaps in
    omega (
      arith,
      work_low a.sheet.now a.places.now a.f a.c q w.result w.ensures g.result.now g.ensures,
      q.at.ranked,
      rank_bound (spacing_of s a.c) (length_at s a.c.entry) a.c.row q.at.cell.wide q.at.cell.whole,
      binomial_small a.c.row (length_at s a.c.entry) (omega (arith, q.low, q.framed.small)),
    )

pub fill_one-requires : goal.fill_one-requires
fill_one-requires c =
    let a = c.args in
    let q = c.requires.0 in
    let w = c.work_of-w in
    let g = c.gaps_of-gaps in
    let k = work_length a.sheet.now a.places.now a.f a.c q w.result w.ensures g.result.now g.ensures in
    let here = size a.sheet.now a.places.now a.f a.c q in (
      work_fits a.sheet.now a.places.now a.f a.c q w.result w.ensures g.result.now g.ensures,
      work_gaps a.sheet.now a.places.now a.f a.c q w.result w.ensures g.result.now g.ensures,
      omega (
        arith,
        ap (λ m. total (take (m + 1) a.c.spacing)) (k ∙ here),
        q.at.cell.whole,
        work_total a.sheet.now a.places.now a.f a.c q w.result w.ensures g.result.now g.ensures,
        here,
      ),
      c.requires.1,
    )

pub returns : goal.returns
returns c =
    let a = c.args in
    let w = c.work_of-w in
    let g = c.gaps_of-gaps in
    λ q.
    let k = work_length a.sheet.now a.places.now a.f a.c q w.result w.ensures g.result.now g.ensures in
    c.fill_one.ensures ∙
    cell_walked a.sheet.now a.places.now a.f a.c q w.result w.ensures g.result.now g.ensures
    a.table.now _ (ap (λ m. take (m + 1) a.c.spacing) (k ∙ size a.sheet.now a.places.now a.f a.c q))
