-- The invariant of the loop of `spacing::binomials::binomials`.
use Rattle.spacing.specs.Pascal.{PascalTo}
use Rattle.spacing.proofs.binomials.binomials.Given as goal

abbrev pub invariant-loop-n : goal.invariant-loop-n
invariant-loop-n l = PascalTo l.n 0 l.b
