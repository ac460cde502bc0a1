-- The invariant of the loop of `crowding::next_ends`.
use mathlib.Core.Path.{◌≡◌}
use lib.ListN.{length, get_or}
use Rattle.crowding.specs.Crowding.{next_ends}
use Rattle.crowding.specs.Followers.{Holds}
use Rattle.crowding.proofs.next_ends.Given as goal

abbrev pub invariant-loop-l : goal.invariant-loop-l
invariant-loop-l l = Holds l.l (next_ends l.up l.x (λ k. get_or l.ends k 0)) l.next × (length l.next ≡ 8)
