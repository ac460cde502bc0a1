-- The invariant of the loop of `spacing::binomials::fill_row`.
use Rattle.spacing.specs.Pascal.{PascalTo}
use Rattle.spacing.proofs.binomials.fill_row.Given as goal

abbrev pub invariant-loop-k : goal.invariant-loop-k
invariant-loop-k l = PascalTo l.n l.k l.b
