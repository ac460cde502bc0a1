-- The invariant of the loop of `count_step::cells::child_sum`.
use Prim.Native.Nat.{◌+◌}
use lib.ListN.{take}
use Rattle.count_step.proofs.SumLaws.{Coming, Summing}
use Rattle.count_step.specs.Step.{LARGEST}
use Rattle.count_step.proofs.cells.child_sum.Given as goal

abbrev pub invariant-loop-i : goal.invariant-loop-i
invariant-loop-i l =
    Coming (Summing LARGEST l.table l.links (take (l.k + 1) l.g) l.sum) l.links (take (l.k + 1) l.g) l.k
    l.above l.below l.z l.i
