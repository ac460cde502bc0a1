-- The invariant of the loop of `successor::values::least_value`.
use lib.ListN.{take}
use Rattle.forms.specs.SetMemory.{held_in}
use Rattle.successor.specs.Values.{NoneBetween}
use Rattle.successor.proofs.values.least_value.Given as goal

abbrev pub invariant-loop-value : goal.invariant-loop-value
invariant-loop-value l = NoneBetween (held_in l.patterns) l.values.n (take l.i l.word) l.values.low l.value
