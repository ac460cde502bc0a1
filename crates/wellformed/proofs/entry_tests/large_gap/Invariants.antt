-- The invariant of the loop of `wellformed::entry_tests::large_gap`.
use Prim.Native.Nat.{◌+◌, ◌≤◌}
use mathlib.Core.Path.{◌≡◌}
use lib.ListN.{drop}
use lib.Dec.{ltb}
use Rattle.word.specs.Ceilings.{COMPONENTS, TOTAL}
use Rattle.scheme.specs.WellFormed.{large_gap}
use Rattle.forms.specs.SchemeMemory.{padded, gap_in}
use Rattle.cell.specs.Cell.{total}
use Rattle.wellformed.proofs.entry_tests.large_gap.Given as goal

abbrev pub invariant-loop-i : goal.invariant-loop-i
invariant-loop-i l =
    (l.sum ≤ TOTAL) × (l.n ≤ COMPONENTS) × (l.n ≡ l.b.width) ×
    (large_gap (gap_in l.b) ≡ ltb TOTAL (l.sum + total (drop l.i (padded l.n l.b.parts))))
