-- `crowding::is_monotone` meets its contract: the digits are monotone if those from the index
-- on are.
-- Assumes nothing.
use mathlib.Core.Path.{sym, ◌∙◌}
use native.Mathlib.Omega.{arith}
use Rattle.crowding.proofs.PatternLaws.{digits_pass, digits_fail, digits_end}
use Rattle.crowding.proofs.is_monotone.Goals as goal

pub returns-then-not-is_before : goal.returns-then-not-is_before
returns-then-not-is_before c =
    let a = c.args in
    let l = c.loop-i in
    sym (l.invariant ∙ digits_fail a.up a.digits.now l.i (omega arith) (omega arith) (sym c.is_before.ensures ∙ c.if-not-is_before.true))

pub loop-i-preserved : goal.loop-i-preserved
loop-i-preserved c =
    let a = c.args in
    let l = c.loop-i in
    l.invariant ∙ digits_pass a.up a.digits.now l.i (omega arith) (omega arith) (sym c.is_before.ensures ∙ c.if-not-is_before.false)

pub returns : goal.returns
returns c =
    let a = c.args in
    let l = c.loop-i in
    sym (l.invariant ∙ digits_end a.up a.digits.now l.i (omega arith) (omega arith))
