-- The invariant of the loop of `word::permutation::is_permutation`.
use mathlib.Core.Path.{◌≡◌}
use lib.ListN.{length, drop}
use Rattle.word.specs.Word.{is_perm}
use Rattle.word.proofs.Listed.{listed}
use Rattle.word.proofs.permutation.is_permutation.Given as goal

abbrev pub invariant-loop-i : goal.invariant-loop-i
invariant-loop-i l = is_perm l.s ≡ listed (length l.s) (drop l.i l.s)
