-- The measures of the cycle of calls {cell, next_sum}, and the invariant of the loop. The measure
-- is twice the number that falls at each cell, for the sum one less.
use Prim.Native.Nat.{◌-◌, ◌≤◌}
use Rattle.count_step.specs.Step.{LARGEST}
use Rattle.count_plain.proofs.CellLaws.{measure_of, SumTo}
use Rattle.count_plain.proofs.evaluation.+cell_next_sum.Given as goal

abbrev pub decreases-cell : goal.decreases-cell
decreases-cell l = measure_of l.sheet.now l.e l.t

abbrev pub decreases-next_sum : goal.decreases-next_sum
decreases-next_sum l = measure_of l.sheet.now l.e l.t - 1

abbrev pub invariant-next_sum-loop-q : goal.invariant-next_sum-loop-q
invariant-next_sum-loop-q l = (l.sum ≤ LARGEST) × SumTo l.sheet l.e l.g l.t l.q l.sum
