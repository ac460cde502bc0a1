-- `count_answer::measure::measured` meets its contract: n, then the number of cells.
-- Assumes nothing.
use native.Mathlib.Omega.{arith}
use Prim.Native.Nat.{◌*◌}
use mathlib.Core.Path.{◌≡◌, sym, ap, ◌∙◌}
use Rattle.std.specs.Prelude.{Err}
use Rattle.forms.specs.SchemeMemory.{scheme_in}
use Rattle.count_plan.specs.Layout.{need_of}
use Rattle.count_answer.proofs.CountLaws.{length_refused, table_refused, table_serves}
use Rattle.count_answer.proofs.MeasureLaws.{frame_fits, frame_need}
use Rattle.count_answer.proofs.measure.measured.Goals as goal
use Rattle.count_answer.proofs.measure.measured.Goals.{After-layout_of-layout}

-- the layout needs what the scheme needs
needed : (c : After-layout_of-layout) → let f = c.layout_of-layout.result.frame in
    f.rows * f.width ≡ need_of c.args.n (scheme_in c.args.scheme)
needed c =
    let m = c.layout_of-layout in
    frame_need c.args.n c.args.scheme m.result.places m.ensures.placed m.result.frame m.ensures.framed

pub returns-then-n-gt-LENGTH : goal.returns-then-n-gt-LENGTH
returns-then-n-gt-LENGTH c =
    let a = c.args in
    ap Err c.at.ensures ∙ sym (length_refused (scheme_in a.scheme) a.n a.cells (omega arith))

pub need-requires : goal.need-requires
need-requires c =
    let m = c.layout_of-layout in
    frame_fits c.args.n c.args.scheme m.result.places m.ensures.placed m.result.frame m.ensures.framed c.requires.0

pub returns-then-cells-need : goal.returns-then-cells-need
returns-then-cells-need c =
    let a = c.args in
    let q = needed (goal.at.returns-then-cells-need c).After-layout_of-layout in
    ap Err c.at-then-cells-need.ensures ∙
    sym (table_refused (scheme_in a.scheme) a.n a.cells (omega arith) (omega (arith, c.need.ensures, q)))

pub returns : goal.returns
returns c =
    let a = c.args in
    let q = needed (goal.at.returns c).After-layout_of-layout in
    (sym (table_serves (scheme_in a.scheme) a.n a.cells (omega arith) (omega (arith, c.need.ensures, q))), c.layout_of-layout.ensures)
