-- The invariant of the loop of `count_step::cells::part_sum`.
use Prim.Native.Nat.{◌+◌}
use Rattle.count_step.proofs.SumLaws.{Part}
use Rattle.count_step.specs.Step.{LARGEST}
use Rattle.count_step.proofs.cells.part_sum.Given as goal

abbrev pub invariant-loop-z : goal.invariant-loop-z
invariant-loop-z l = Part LARGEST l.table l.at l.col l.first l.n (l.first + l.n) l.sum l.z
