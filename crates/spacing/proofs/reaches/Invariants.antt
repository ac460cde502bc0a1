-- The invariant of the loop of `spacing::reaches`.
use mathlib.Core.Path.{◌≡◌}
use lib.ListN.{drop}
use Rattle.cell.specs.Cell.{at_least}
use Rattle.spacing.proofs.reaches.Given as goal

abbrev pub invariant-loop-p : goal.invariant-loop-p
invariant-loop-p l = at_least l.g l.b ≡ at_least (drop l.p l.g) (drop l.p l.b)
