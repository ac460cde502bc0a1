-- The invariant of the loop of `spacing::walk::rank_without`.
use Prim.Native.Nat.{◌+◌}
use lib.ListN.{take}
use Rattle.spacing.specs.Flagged.{flagged}
use Rattle.spacing.proofs.RankWalkLaws.{Walk}
use Rattle.spacing.proofs.walk.rank_without.Given as goal

abbrev pub invariant-loop-v : goal.invariant-loop-v
invariant-loop-v l = Walk (take (l.k + 1) l.g) l.k (flagged l.gone l.k) 0 l.z l.count l.rank l.v
