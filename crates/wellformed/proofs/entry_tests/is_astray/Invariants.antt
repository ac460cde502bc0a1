-- The invariant of the loop of `wellformed::entry_tests::is_astray`.
use mathlib.Core.Path.{◌≡◌}
use lib.ListN.{drop}
use Rattle.scheme.specs.WellFormed.{astray}
use Rattle.wellformed.proofs.entry_tests.is_astray.Given as goal

abbrev pub invariant-loop-t : goal.invariant-loop-t
invariant-loop-t l = astray l.k 0 l.positions ≡ astray l.k l.last (drop l.t l.positions)
