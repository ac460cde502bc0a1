-- The invariant of the loop of `wellformed::entry_tests::stands_from`.
use mathlib.Core.Path.{◌≡◌}
use Rattle.forms.specs.SchemeMemory.{gap_in}
use Rattle.word.specs.Lists.{any}
use Rattle.cell.specs.Basis.{same}
use Rattle.scheme.specs.TestLaws.{from}
use Rattle.forms.specs.SchemeMemory.{gap_at}
use Rattle.wellformed.proofs.entry_tests.stands_from.Given as goal

abbrev pub invariant-loop-j : goal.invariant-loop-j
invariant-loop-j l =
    any (same (gap_in l.b)) (from (gap_at l.e) l.n l.start) ≡ any (same (gap_in l.b)) (from (gap_at l.e) l.n l.j)
