-- The invariant of the loop of `appending::pairs_with`.
use mathlib.Core.Path.{◌≡◌}
use lib.ListN.{take, drop}
use Rattle.word.specs.Lists.{all}
use Rattle.forms.specs.SetMemory.{held_in}
use Rattle.appending.specs.Pairs.{pair_allowed}
use Rattle.appending.proofs.pairs_with.Given as goal

abbrev pub invariant-loop-i : goal.invariant-loop-i
invariant-loop-i l =
    all (pair_allowed (held_in l.patterns) (take l.len l.word) l.b) (drop l.len (take l.at l.word)) ≡
    all (pair_allowed (held_in l.patterns) (take l.len l.word) l.b) (drop l.i (take l.at l.word))
