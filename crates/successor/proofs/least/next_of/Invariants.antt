-- The invariant of the loop of `successor::least::next_of`.
use lib.ListN.{take}
use Rattle.forms.specs.SetMemory.{held_in}
use Rattle.successor.specs.StepLaws.{NoneAfter}
use Rattle.successor.proofs.least.next_of.Given as goal

abbrev pub invariant-loop-i : goal.invariant-loop-i
invariant-loop-i l = NoneAfter (held_in l.patterns) l.n (take l.n l.word) (take l.i l.word)
