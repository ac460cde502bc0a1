-- The invariant of the loop of `basis::longest_length`.
use Prim.Native.Nat.{◌≤◌, max}
use mathlib.Core.Path.{◌≡◌}
use lib.ListN.{drop}
use Rattle.word.specs.Word.{longest}
use Rattle.forms.specs.SetMemory.{held_in}
use Rattle.basis.proofs.longest_length.Given as goal

abbrev pub invariant-loop-pattern : goal.invariant-loop-pattern
invariant-loop-pattern l = (longest (held_in l.patterns) ≡ max l.m (longest (held_in (drop l.pattern-index l.patterns)))) × (l.m ≤ 8)
