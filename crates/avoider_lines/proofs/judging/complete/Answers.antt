-- `avoider_lines::judging::complete` meets its contract: the second line, then the third.
-- Assumes nothing.
use native.Mathlib.Omega.{arith}
use Rattle.avoider_lines.specs.TwoLineLaws.{second_missing, third_begun, ends_decide}
use Rattle.avoider_lines.proofs.judging.complete.Goals as goal

pub returns-then-lines-eq0 : goal.returns-then-lines-eq0
returns-then-lines-eq0 c = second_missing c.args.lines c.if-lines-eq0.true

pub returns-then-lines-gt0 : goal.returns-then-lines-gt0
returns-then-lines-gt0 c = third_begun c.args.lines c.if-lines-eq0.false (omega (arith, c.if-lines-gt0.true))

pub returns : goal.returns
returns c = ends_decide c.args.lines c.if-lines-eq0.false c.if-lines-gt0.false
