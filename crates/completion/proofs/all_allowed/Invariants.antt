-- The invariant and the measure of the loop of `completion::all_allowed`.
use mathlib.Core.Path.{◌≡◌}
use lib.ListN.{take}
use Rattle.word.specs.Lists.{all}
use Rattle.forms.specs.SetMemory.{held_in}
use Rattle.completion.specs.Completion.{allowed, all_allowed}
use Rattle.completion.proofs.Values.{values}
use Rattle.completion.proofs.all_allowed.Given as goal

abbrev pub invariant-loop-next : goal.invariant-loop-next
invariant-loop-next l =
    all_allowed (held_in l.patterns) l.n (take l.len l.word) ≡
    all (allowed (held_in l.patterns) (take l.len l.word)) (values l.next l.n)
