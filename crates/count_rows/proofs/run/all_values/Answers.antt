-- `count_rows::run::all_values` meets its contract.
-- Assumes nothing.
use native.Mathlib.Numerals.{add-one}
use native.Mathlib.Omega.{arith}
use Prim.Native.Nat.{◌+◌, ◌*◌, ◌≤◌}
use mathlib.Core.Path.{◌≡◌, refl, ap, ap₂, ◌∙◌, subst}
use lib.ListN.{length}
use Rattle.forms.specs.SchemeMemory.{scheme_in}
use Rattle.count_plan.specs.Layout.{rows_of}
use Rattle.count_walk.specs.Content.{single}
use Rattle.count_walk.proofs.SolutionLaws.{single_sound}
use Rattle.count_walk.specs.Walk.{count_makes}
use Rattle.count_rows.specs.Run.{cleared, ValuesTo}
use Rattle.count_rows.specs.RunLaws.{values_start, values_more, walked_cleared}
use Rattle.count_entry.proofs.FrameLaws.{framed_fits}
use Rattle.count_cursor.specs.RowLaws.{rows_none, rows_more, rows_end}
use Rattle.count_rows.proofs.RowLaws.{root_has, root_read}
use borrow.Author.Rules.{rules}
use Rattle.count_rows.proofs.run.all_values.Goals as goal

pub loop-j-init : goal.loop-j-init
loop-j-init c =
    let a = c.args in (
      refl,
      λ o. rows_none single single_sound (count_makes o.of.P) (rows_of (scheme_in o.of.s)) a.f.last o.of.s a.table.now,
      λ o. values_start o.framed.of.P a.f.last o.framed.of.s a.root a.table.now,
    )

pub fill_row-requires : goal.fill_row-requires
fill_row-requires c = (c.requires.0.framed, c.requires.0.framed.small, omega arith, c.requires.2)

pub root_cell-cell-requires : goal.root_cell-cell-requires
root_cell-cell-requires c = omega (arith, c.requires.0.framed.small)

pub value_in-x-requires : goal.value_in-x-requires
value_in-x-requires c =
    let a = c.args in
    let o = c.requires.0 in
    let l = c.loop-j in
    let r = c.root_cell-cell in
    let low : l.j ≤ a.f.last = omega arith in (
      record {
        framed = o.framed;
        cell = root_has o.framed.of.P a.f.last o.framed.of.s a.root l.j o.root_is r.result r.ensures.0
            r.ensures.1 r.ensures.2 low;
      },
      c.requires.2,
    )

pub offset_bounds-counts-j : goal.offset_bounds-counts-j
offset_bounds-counts-j c = omega (arith, c.requires.0.framed.small)

pub bounds-counts-j : goal.bounds-counts-j
bounds-counts-j c = omega (arith, c.requires.0.framed.small)

pub overflow_add-j-end : goal.overflow_add-j-end
overflow_add-j-end c = omega (arith, c.requires.0.framed.small)

pub loop-j-preserved : goal.loop-j-preserved
loop-j-preserved c =
    let a = c.args in
    let l = c.loop-j in
    let r = c.root_cell-cell in
    let U = c.fill_row.new.table in
    let len : length c.fill_row.new.table ≡ length l.table = search rules in
    let low : l.j ≤ a.f.last = omega arith in (
      len ∙ l.invariant.0,
      λ o. rows_more single single_sound (count_makes o.of.P) (rows_of (scheme_in o.of.s)) a.f.last o.of.s l.j
          a.table.now l.table U (l.invariant.1 o)
          (c.fill_row.ensures o),
      λ o.
          let filled = rows_end single single_sound (count_makes o.framed.of.P) (rows_of (scheme_in o.framed.of.s)) a.f.last
          o.framed.of.s (l.j + 1) l.j a.table.now U refl
          (rows_more single single_sound (count_makes o.framed.of.P) (rows_of (scheme_in o.framed.of.s)) a.f.last
          o.framed.of.s l.j a.table.now l.table U (l.invariant.1 o.framed)
          (c.fill_row.ensures o.framed)) in
          values_more o.framed.of.P a.f.last o.framed.of.s a.root a.table.now l.j c.value_in-x.result l.counts
          (omega (arith, o.framed.small))
          (root_read o.framed.of.P a.f.last o.framed.of.s a.root l.j o.root_is r.result r.ensures.0
          r.ensures.1 r.ensures.2 a.table.now U c.value_in-x.result filled
          (c.value_in-x.ensures (record {
            framed = o.framed;
            cell = root_has o.framed.of.P a.f.last o.framed.of.s a.root l.j o.root_is r.result r.ensures.0
                r.ensures.1 r.ensures.2 low;
          }))) (l.invariant.2 o),
    )

pub need-requires : goal.need-requires
need-requires c =
    let a = c.args in
    framed_fits a.sheet.now a.places.now a.f c.requires.0.framed

pub clear-requires : goal.clear-requires
clear-requires c = omega (arith, c.need.ensures, c.requires.1, c.loop-j.invariant.0)

pub shape_of-table : goal.shape_of-table
shape_of-table c =
    let l = c.loop-j in
    let len : length c.clear.new.table ≡ length l.table = search rules in
    len ∙ l.invariant.0

pub returns : goal.returns
returns c =
    let a = c.args in
    let l = c.loop-j in
    let o = c.requires.0.framed in
    let end : l.j ≡ a.f.last + 1 = omega arith in record {
      values = λ q. subst (λ m. ValuesTo q.framed.of.P a.f.last q.framed.of.s a.root a.table.now m l.counts)
          (end ∙ add-one a.f.last) (l.invariant.2 q);
      table = c.clear.ensures ∙ ap (λ m. cleared m l.table) c.need.ensures ∙
          ap (cleared (a.f.rows * a.f.width))
          (rows_end single single_sound (count_makes o.of.P) (rows_of (scheme_in o.of.s)) a.f.last o.of.s l.j
          a.f.last a.table.now l.table end (l.invariant.1 o)) ∙
          walked_cleared single single_sound (count_makes o.of.P) (rows_of (scheme_in o.of.s)) a.f.last o.of.s a.f.last
          (a.f.rows * a.f.width) a.table.now (omega arith) (omega arith) (omega (arith, ap₂ ◌*◌ o.rows_are o.width_is));
    }
