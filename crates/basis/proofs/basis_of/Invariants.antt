-- The invariant of the loop of `basis::basis_of`.
use Rattle.basis.proofs.BasisWalk.{Gathered}
use Rattle.basis.proofs.basis_of.Given as goal

abbrev pub invariant-loop-p : goal.invariant-loop-p
invariant-loop-p l = Gathered l.patterns l.items l.n l.p-index
