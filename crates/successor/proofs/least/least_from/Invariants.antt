-- The invariant of the loop of `successor::least::least_from`.
use mathlib.Core.Path.{◌≡◌}
use lib.ListN.{take}
use Rattle.forms.specs.SetMemory.{held_in}
use Rattle.successor.specs.Values.{Avoider, least_from}
use Rattle.successor.proofs.least.least_from.Given as goal

abbrev pub invariant-loop-i : goal.invariant-loop-i
invariant-loop-i l =
    Avoider (held_in l.patterns) l.n (take l.n l.best) ×
    (least_from (held_in l.patterns) l.n (take l.k l.initial.best) ≡ least_from (held_in l.patterns) l.n (take l.i l.best))
