-- The invariant of the loop of `crowding::count_following`.
use Prim.Native.Nat.{◌+◌, ◌≤◌}
use mathlib.Core.Path.{◌≡◌}
use lib.ListN.{drop}
use Rattle.crowding.specs.Followers.{following}
use Rattle.crowding.proofs.count_following.Given as goal

abbrev pub invariant-loop-value : goal.invariant-loop-value
invariant-loop-value l =
    (following l.up l.x l.unused ≡ l.count + following l.up l.x (drop l.value-index l.unused)) × (l.count ≤ l.value-index)
