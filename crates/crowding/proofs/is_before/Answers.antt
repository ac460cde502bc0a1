-- `crowding::is_before` meets its contract: by the direction.
-- Assumes nothing.
use mathlib.Core.Path.{refl}
use Rattle.crowding.specs.Crowding.{precedes}
use Rattle.crowding.proofs.is_before.Goals as goal

pub returns-then-up : goal.returns-then-up
unfolding precedes
returns-then-up c = rw c.if-up.true refl

pub returns-else-up : goal.returns-else-up
unfolding precedes
returns-else-up c = rw c.if-up.false refl
