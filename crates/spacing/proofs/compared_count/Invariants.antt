-- The invariant of the loop of `spacing::compared_count`.
use Prim.Native.Nat.{suc, ◌+◌}
use mathlib.Core.Path.{◌≡◌}
use Rattle.word.specs.Lists.{each, row}
use Rattle.cell.specs.Cell.{free, vectors}
use Rattle.forms.specs.GapRows.{gaps_of}
use Rattle.spacing.proofs.SpacingCount.{passing, from_total}
use Rattle.spacing.proofs.compared_count.Given as goal

abbrev pub invariant-loop-t : goal.invariant-loop-t
invariant-loop-t l =
    l.count + from_total (free (gaps_of l.gaps (l.k + 1) l.n)) l.k l.m l.t ≡
    passing (free (gaps_of l.gaps (l.k + 1) l.n)) (each (vectors (suc l.k)) (row 0 l.m))
