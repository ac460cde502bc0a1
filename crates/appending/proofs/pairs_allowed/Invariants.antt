-- The invariant of the loop of `appending::pairs_allowed`.
use mathlib.Core.Path.{◌≡◌}
use lib.ListN.{take, drop}
use Rattle.forms.specs.SetMemory.{held_in}
use Rattle.appending.specs.Pairs.{pairs_behind, all_pairs}
use Rattle.appending.proofs.pairs_allowed.Given as goal

abbrev pub invariant-loop-at : goal.invariant-loop-at
invariant-loop-at l =
    all_pairs (held_in l.patterns) (take l.len l.word) (drop l.len (take l.n l.word)) ≡
    pairs_behind (held_in l.patterns) (take l.len l.word) (drop l.len (take l.at l.word))
    (drop l.at (take l.n l.word))
