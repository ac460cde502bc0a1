-- The measure of the recursion `completion::goes_on`, how many entries are still to come, and the
-- invariant of its loop.
use Rattle.std.proofs.Common.{◌-◌, ◌≡◌, take}
use Rattle.word.specs.Lists.{any}
use Rattle.forms.specs.SetMemory.{held_in}
use Rattle.completion.specs.Completion.{completable, goes_on}
use Rattle.completion.proofs.Values.{values}
use Rattle.completion.proofs.+goes_on.Given as goal

abbrev pub decreases-goes_on : goal.decreases-goes_on
decreases-goes_on l = l.n - l.len

abbrev pub invariant-loop-v : goal.invariant-loop-v
invariant-loop-v l =
    completable (held_in l.patterns) l.n (take l.len l.word) ≡
    any (goes_on (held_in l.patterns) l.n (take l.len l.word)) (values l.v l.n)
