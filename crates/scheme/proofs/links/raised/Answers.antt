-- `scheme::links::raised` meets its contract: the two ways of stepping over a.
-- Assumes nothing.
use native.Mathlib.Omega.{arith}
use Rattle.word.specs.BumpLaws.{bump_below, bump_above}
use Rattle.scheme.proofs.links.raised.Goals as goal

pub returns-then-y-a : goal.returns-then-y-a
returns-then-y-a c = omega (arith, bump_below c.args.a c.args.y (omega arith))

pub returns-else-y-a : goal.returns-else-y-a
returns-else-y-a c = omega (arith, bump_above c.args.a c.args.y (omega arith))
