-- `crowding::outermost` meets its contract: by the direction.
-- Assumes nothing.
use mathlib.Core.Path.{refl}
use native.Mathlib.Omega.{arith}
use Rattle.crowding.specs.Crowding.{bound}
use Rattle.crowding.proofs.outermost.Goals as goal

pub returns-then-up : goal.returns-then-up
unfolding bound
returns-then-up c = rw c.if-up.true refl

pub returns-else-up : goal.returns-else-up
unfolding bound
returns-else-up c = rw c.if-up.false (omega arith)
