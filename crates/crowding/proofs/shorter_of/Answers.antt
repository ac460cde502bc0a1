-- `crowding::shorter_of` meets its contract: by the cases of what is there.
-- Assumes nothing.
use mathlib.Core.Path.{sym, ap, ◌∙◌}
use native.Mathlib.Omega.{arith}
use Rattle.crowding.specs.Crowding.{shorter}
use Rattle.crowding.proofs.PatternLaws.{shorter_none, shorter_zero, shorter_min}
use Rattle.crowding.proofs.shorter_of.Goals as goal

pub returns-then-a-eq0 : goal.returns-then-a-eq0
returns-then-a-eq0 c = let a = c.args in (shorter_none a.a a.b c.if-a-eq0.true, omega arith)

pub returns-then-b-eq0 : goal.returns-then-b-eq0
returns-then-b-eq0 c =
    let a = c.args in
    (sym (ap (shorter a.a) c.if-b-eq0.true ∙ shorter_zero a.a), omega arith)

pub returns : goal.returns
returns c =
    let a = c.args in
    let e = shorter_min a.a a.b c.if-a-eq0.false c.if-b-eq0.false in
    (omega arith, omega arith)
