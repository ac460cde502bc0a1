-- `count_rows::run::last_value` meets its contract.
-- Assumes nothing.
use native.Mathlib.Omega.{arith}
use Prim.Native.Nat.{◌*◌}
use mathlib.Core.Path.{ap, ap₂, ◌∙◌}
use Rattle.forms.specs.SchemeMemory.{scheme_in}
use Rattle.count_plan.specs.Layout.{rows_of}
use Rattle.count_walk.specs.Content.{single}
use Rattle.count_walk.proofs.SolutionLaws.{single_sound}
use Rattle.count_walk.specs.Walk.{count_makes}
use Rattle.count_rows.specs.Run.{cleared}
use Rattle.count_rows.specs.RunLaws.{walked_cleared}
use Rattle.count_entry.proofs.FrameLaws.{framed_fits}
use Rattle.count_rows.proofs.RowLaws.{root_has, root_read}
use Rattle.count_rows.proofs.run.last_value.Goals as goal

pub value_in-x-requires : goal.value_in-x-requires
value_in-x-requires c =
    let a = c.args in
    let o = c.requires.0 in
    let r = c.root_cell-cell in (
      record {
        framed = o.framed;
        cell = root_has o.framed.of.P a.f.last o.framed.of.s a.root a.f.last o.root_is r.result
            r.ensures.0 r.ensures.1 r.ensures.2 (omega arith);
      },
      c.requires.2,
    )

pub need-requires : goal.need-requires
need-requires c =
    let a = c.args in
    framed_fits a.sheet.now a.places.now a.f c.requires.0.framed

pub returns : goal.returns
returns c =
    let a = c.args in
    let o = c.requires.0.framed in
    let r = c.root_cell-cell in
    let filled = c.fill_rows in record {
      value = λ q.
          root_read q.framed.of.P a.f.last q.framed.of.s a.root a.f.last q.root_is r.result r.ensures.0
          r.ensures.1 r.ensures.2 a.table.now filled.new.table c.value_in-x.result (filled.ensures q.framed)
          (c.value_in-x.ensures (record {
            framed = q.framed;
            cell = root_has q.framed.of.P a.f.last q.framed.of.s a.root a.f.last q.root_is r.result
                r.ensures.0 r.ensures.1 r.ensures.2 (omega arith);
          }));
      table = c.clear.ensures ∙ ap (λ m. cleared m filled.new.table) c.need.ensures ∙
          ap (cleared (a.f.rows * a.f.width)) (filled.ensures o) ∙
          walked_cleared single single_sound (count_makes o.of.P) (rows_of (scheme_in o.of.s)) a.f.last o.of.s a.f.last
          (a.f.rows * a.f.width) a.table.now (omega arith) (omega arith) (omega (arith, ap₂ ◌*◌ o.rows_are o.width_is));
    }
