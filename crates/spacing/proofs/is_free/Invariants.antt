-- The invariant of the loop of `spacing::is_free`.
use Prim.Native.Nat.{◌+◌}
use mathlib.Core.Path.{◌≡◌}
use lib.ListN.{take}
use Rattle.cell.specs.Cell.{free}
use Rattle.forms.specs.GapRows.{gaps_of}
use Rattle.spacing.proofs.SpacingMemory.{free_from}
use Rattle.spacing.proofs.is_free.Given as goal

abbrev pub invariant-loop-j : goal.invariant-loop-j
invariant-loop-j l = free (gaps_of l.gaps (l.k + 1) l.n) (take (l.k + 1) l.g) ≡ free_from l.gaps (l.k + 1) l.n (take (l.k + 1) l.g) l.j
