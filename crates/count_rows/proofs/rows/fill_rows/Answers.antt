-- `count_rows::rows::fill_rows` meets its contract.
-- Assumes nothing.
use native.Mathlib.Omega.{arith}
use mathlib.Core.Path.{◌≡◌, refl, ◌∙◌}
use lib.ListN.{length}
use Rattle.forms.specs.SchemeMemory.{scheme_in}
use Rattle.count_plan.specs.Layout.{rows_of}
use Rattle.count_cursor.specs.RowLaws.{rows_none, rows_more, rows_end}
use borrow.Author.Rules.{rules}
use Rattle.count_rows.proofs.rows.fill_rows.Goals as goal

pub loop-i-init : goal.loop-i-init
loop-i-init g c =
    let a = c.args in (
      refl,
      λ o. rows_none (g.P.Pass.content a.f.last) (g.met.P.Pass.sound a.f.last) (g.P.Pass.makes o.of.P) (rows_of (scheme_in o.of.s)) a.f.last
          o.of.s a.table.now,
    )

pub fill_row-requires : goal.fill_row-requires
fill_row-requires g c = (c.requires.0, c.requires.1, omega (arith, c.requires.2), c.requires.3)

pub overflow_add-i-end : goal.overflow_add-i-end
overflow_add-i-end g c = omega (arith, c.requires.2, c.requires.0.small)

pub loop-i-preserved : goal.loop-i-preserved
loop-i-preserved g c =
    let a = c.args in
    let l = c.loop-i in
    let len : length c.fill_row.new.table ≡ length l.table = search rules in (
      len ∙ l.invariant.0,
      λ o. rows_more (g.P.Pass.content a.f.last) (g.met.P.Pass.sound a.f.last) (g.P.Pass.makes o.of.P)
          (rows_of (scheme_in o.of.s)) a.f.last o.of.s l.i
          a.table.now l.table c.fill_row.new.table
          (l.invariant.1 o)
          (c.fill_row.ensures o),
    )

pub shape_of-table : goal.shape_of-table
shape_of-table g c = c.loop-i.invariant.0

pub returns : goal.returns
returns g c =
    let a = c.args in
    let l = c.loop-i in
    λ o. rows_end (g.P.Pass.content a.f.last) (g.met.P.Pass.sound a.f.last) (g.P.Pass.makes o.of.P)
    (rows_of (scheme_in o.of.s)) a.f.last o.of.s l.i a.j
    a.table.now l.table (omega arith) (l.invariant.1 o)
