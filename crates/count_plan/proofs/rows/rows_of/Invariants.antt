-- The invariant of the loop of `count_plan::rows::rows_of`.
use Rattle.count_plan.specs.LayoutLaws.{LargestFrom}
use Rattle.count_plan.proofs.rows.rows_of.Given as goal

abbrev pub invariant-loop-i : goal.invariant-loop-i
invariant-loop-i l = LargestFrom l.s l.i l.most
