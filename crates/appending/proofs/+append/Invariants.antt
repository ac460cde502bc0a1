-- The measure of the recursion `appending::append`, how many values are still to come, and the
-- invariant of its loop.
use Prim.Native.Nat.{◌-◌}
use Rattle.forms.specs.SetMemory.{held_in}
use Rattle.appending.specs.AppendingLaws.{Tries}
use Rattle.appending.proofs.+append.Given as goal

abbrev pub decreases-append : goal.decreases-append
decreases-append l = l.limits.n - l.len

abbrev pub invariant-loop-j : goal.invariant-loop-j
invariant-loop-j l = Tries (held_in l.patterns) l.limits.n l.fn.word l.len l.j l.w
