-- The invariant of the loop of `set_tests::first_twin`.
use mathlib.Core.Path.{◌≡◌}
use mathlib.Core.List.{[]}
use Rattle.scheme.specs.WellFormed.{first_twin, listed}
use Rattle.forms.specs.SchemeMemory.{patterns_in}
use Rattle.scheme.specs.TestOrder.{place_in}
use Rattle.scheme.specs.TestLaws.{twin_from}
use Rattle.set_tests.proofs.first_twin.Given as goal

abbrev pub invariant-loop-i : goal.invariant-loop-i
invariant-loop-i l = first_twin listed 0 [] (patterns_in l.s) ≡ twin_from listed (place_in l.s) l.s.count l.i
