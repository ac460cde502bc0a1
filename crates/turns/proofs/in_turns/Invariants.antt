-- The invariant and the measure of the loop of `turns::in_turns`.
use Prim.Native.Nat.{◌-◌, ◌≤◌}
use Rattle.turns.proofs.in_turns.Given as goal

abbrev pub invariant-loop-budget : goal.invariant-loop-budget
invariant-loop-budget l = 1 ≤ l.budget

abbrev pub decreases-loop-budget : goal.decreases-loop-budget
decreases-loop-budget l = 1099511627776 - l.budget
