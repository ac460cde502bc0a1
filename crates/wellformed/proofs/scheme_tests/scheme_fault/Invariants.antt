-- The invariant of the loop of `wellformed::scheme_tests::scheme_fault`.
use Rattle.wellformed.proofs.PassLaws.{Pass}
use Rattle.wellformed.proofs.scheme_tests.scheme_fault.Given as goal

abbrev pub invariant-loop-i : goal.invariant-loop-i
invariant-loop-i l = Pass l.s l.found l.codes l.i
