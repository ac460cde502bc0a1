-- The invariant of the loop of `spacing::walk::next_cell`.
use mathlib.Core.Path.{◌≡◌}
use Rattle.spacing.proofs.RankWalkLaws.{Zeros}
use Rattle.spacing.proofs.walk.next_cell.Given as goal

abbrev pub invariant-loop-i : goal.invariant-loop-i
invariant-loop-i l = (l.g ≡ l.initial.g) × Zeros l.initial.g l.i
