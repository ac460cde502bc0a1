-- The measure of the recursion `insertion::put_in`, how many values are still to be put in, and the
-- invariant and the measure of its loop.
use Prim.Native.Nat.{◌-◌}
use mathlib.Core.Path.{◌≡◌}
use Rattle.std.specs.Prelude.{is_none}
use Rattle.forms.specs.SetMemory.{held_in}
use Rattle.insertion.specs.InsertionLaws.{Turns}
use Rattle.insertion.proofs.+put_in.Given as goal

abbrev pub decreases-put_in : goal.decreases-put_in
decreases-put_in l = l.span.n - l.len

abbrev pub invariant-places : goal.invariant-places
invariant-places l =
    Turns (held_in l.patterns) l.span.n l.span.fixed l.fn.word l.len l.place l.w × (is_none l.left ≡ is_none l.span.budget)

abbrev pub decreases-places : goal.decreases-places
decreases-places l = l.place
