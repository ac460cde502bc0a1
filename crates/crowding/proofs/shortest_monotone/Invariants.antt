-- The invariant of the loop of `crowding::shortest_monotone`.
use Prim.Native.Nat.{◌≤◌}
use mathlib.Core.Path.{◌≡◌}
use lib.ListN.{drop}
use Rattle.forms.specs.SetMemory.{held_in}
use Rattle.crowding.specs.Crowding.{shorter, shortest}
use Rattle.crowding.proofs.shortest_monotone.Given as goal

abbrev pub invariant-loop-p : goal.invariant-loop-p
invariant-loop-p l =
    (shortest l.up (held_in l.patterns) ≡ shorter l.best (shortest l.up (held_in (drop l.p-index l.patterns)))) × (l.best ≤ 8)
