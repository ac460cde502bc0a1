-- The invariant of the loop of `successor::least::in_a_row`.
use mathlib.Core.Path.{◌≡◌}
use lib.ListN.{length, take}
use Rattle.word.specs.Ceilings.{WORD}
use Rattle.word.specs.Lists.{one_to}
use Rattle.successor.proofs.least.in_a_row.Given as goal

abbrev pub invariant-loop-i : goal.invariant-loop-i
invariant-loop-i l = (take l.i l.word ≡ one_to l.i) × (length l.word ≡ WORD)
