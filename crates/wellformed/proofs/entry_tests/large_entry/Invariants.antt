-- The invariant of the loop of `wellformed::entry_tests::large_entry`.
use Prim.Native.Nat.{◌≤◌}
use mathlib.Core.Path.{◌≡◌}
use Rattle.word.specs.Ceilings.{GAPS}
use Rattle.scheme.specs.WellFormed.{large_gap, large_entry}
use Rattle.forms.specs.SchemeMemory.{entry_in}
use Rattle.word.specs.Lists.{any}
use Rattle.scheme.specs.TestLaws.{from}
use Rattle.forms.specs.SchemeMemory.{gap_at}
use Rattle.wellformed.proofs.entry_tests.large_entry.Given as goal

abbrev pub invariant-loop-j : goal.invariant-loop-j
invariant-loop-j l = (l.n ≤ GAPS) × (large_entry (entry_in l.e) ≡ any large_gap (from (gap_at l.e) l.n l.j))
