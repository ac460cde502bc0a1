-- The invariant of the loop of `placing::placing::pairs_fit`.
use mathlib.Core.Path.{◌≡◌}
use lib.ListN.{take, drop}
use Rattle.word.specs.Vocabulary.{fits}
use Rattle.placing.proofs.placing.pairs_fit.Given as goal

abbrev pub invariant-loop-j : goal.invariant-loop-j
invariant-loop-j l =
    fits (take l.s l.head) l.x (take l.s l.chosen) l.a ≡ fits (drop l.j (take l.s l.head)) l.x (drop l.j (take l.s l.chosen)) l.a
