-- The invariant of the loop of `wellformed::entry_tests::has_twin_gaps`.
use mathlib.Core.Path.{◌≡◌}
use Rattle.scheme.specs.WellFormed.{repeats}
use Rattle.forms.specs.SchemeMemory.{entry_in}
use Rattle.scheme.specs.TestLaws.{from}
use Rattle.forms.specs.SchemeMemory.{gap_at}
use Rattle.wellformed.proofs.entry_tests.has_twin_gaps.Given as goal

abbrev pub invariant-loop-j : goal.invariant-loop-j
invariant-loop-j l = repeats (entry_in l.e).gaps ≡ repeats (from (gap_at l.e) l.n l.j)
