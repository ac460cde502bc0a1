-- The invariant of the loop of `forms::codes::code_of`.
use Rattle.forms.proofs.CodeWalk.{Coding}
use Rattle.forms.proofs.codes.code_of.Given as goal

abbrev pub invariant-loop-j : goal.invariant-loop-j
invariant-loop-j l = Coding l.digits l.j l.code
