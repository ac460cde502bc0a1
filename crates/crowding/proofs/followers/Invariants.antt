-- The invariant of the loop of `crowding::followers`.
use mathlib.Core.Path.{◌≡◌}
use lib.ListN.{length}
use Rattle.crowding.specs.Followers.{followers_of, Holds}
use Rattle.crowding.proofs.followers.Given as goal

abbrev pub invariant-loop-l : goal.invariant-loop-l
invariant-loop-l l = Holds l.l (followers_of l.up l.n l.entries l.unused) l.counts × (length l.counts ≡ 8)
