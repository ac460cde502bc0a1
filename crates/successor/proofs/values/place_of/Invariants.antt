-- The invariant of the loop of `successor::values::place_of`.
use mathlib.Core.Path.{◌≡◌}
use lib.ListN.{take, drop}
use Rattle.word.specs.Word.{has}
use Rattle.successor.proofs.values.place_of.Given as goal

abbrev pub invariant-loop-j : goal.invariant-loop-j
invariant-loop-j l = has l.value (drop l.i (take l.n l.word)) ≡ has l.value (drop l.j (take l.n l.word))
