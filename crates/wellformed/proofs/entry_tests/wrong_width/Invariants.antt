-- The invariant of the loop of `wellformed::entry_tests::wrong_width`.
use mathlib.Core.Path.{◌≡◌}
use Rattle.scheme.specs.WellFormed.{wrong_width}
use Rattle.forms.specs.SchemeMemory.{entry_in}
use Rattle.word.specs.Lists.{any}
use Rattle.scheme.specs.TestLaws.{from}
use Rattle.forms.specs.SchemeMemory.{gap_at}
use Rattle.wellformed.proofs.EntryTestLaws.{other_width}
use Rattle.wellformed.proofs.entry_tests.wrong_width.Given as goal

abbrev pub invariant-loop-j : goal.invariant-loop-j
invariant-loop-j l = wrong_width (entry_in l.e) ≡ any (other_width l.e) (from (gap_at l.e) l.n l.j)
