-- The invariant of the loop of `completion::is_begun`.
use mathlib.Core.Path.{◌≡◌}
use mathlib.Core.Bool.{true}
use lib.ListN.{take}
use Rattle.completion.specs.Completion.{begun}
use Rattle.completion.proofs.is_begun.Given as goal

abbrev pub invariant-loop-i : goal.invariant-loop-i
invariant-loop-i l = begun l.n (take l.i l.word) ≡ true
