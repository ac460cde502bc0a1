-- The invariant of the loop of `containment::earliest_in`.
use mathlib.Core.Path.{◌≡◌}
use lib.ListN.{drop}
use Rattle.word.specs.Earliest.{earliest_from, earliest}
use Rattle.forms.specs.SetMemory.{held_in}
use Rattle.containment.proofs.earliest_in.Given as goal

abbrev pub invariant-loop-i : goal.invariant-loop-i
invariant-loop-i l = earliest (held_in l.patterns) l.w ≡ earliest_from l.i (held_in (drop l.i l.patterns)) l.w
