-- `scheme::links::lowered` meets its contract: the two ways of closing the gap at v.
-- Assumes nothing.
use native.Mathlib.Omega.{arith}
use Rattle.word.specs.BumpLaws.{unbump_below, unbump_above}
use Rattle.scheme.proofs.links.lowered.Goals as goal

pub returns-then-y-v : goal.returns-then-y-v
returns-then-y-v c = omega (arith, unbump_below c.args.v c.args.y (omega arith))

pub returns-else-y-v : goal.returns-else-y-v
returns-else-y-v c = omega (arith, unbump_above c.args.v c.args.y (omega arith))
