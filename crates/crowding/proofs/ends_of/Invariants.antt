-- The invariant of the loop of `crowding::ends_of`.
use lib.ListN.{take}
use Rattle.crowding.specs.Crowding.{ends}
use Rattle.crowding.specs.Followers.{Holds}
use Rattle.crowding.proofs.ends_of.Given as goal

abbrev pub invariant-loop-x : goal.invariant-loop-x
invariant-loop-x l = Holds l.k (ends l.up l.n (take l.x-index l.entries)) l.ends
