-- The invariant of the loop of `spacing::walk::rank_after`.
use Prim.Native.Nat.{◌+◌}
use mathlib.Core.List.{[]}
use lib.ListN.{take}
use Rattle.spacing.proofs.RankWalkLaws.{Walk}
use Rattle.spacing.proofs.walk.rank_after.Given as goal

abbrev pub invariant-loop-t : goal.invariant-loop-t
invariant-loop-t l = Walk (take (l.k + 1) l.g) l.k [] l.start l.z l.count l.rank l.t
