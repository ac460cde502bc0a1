-- The invariant of the loop of `crowding::is_monotone`.
use Prim.Native.Nat.{◌-◌}
use mathlib.Core.Path.{◌≡◌}
use lib.ListN.{drop}
use Rattle.crowding.specs.Crowding.{monotone}
use Rattle.crowding.proofs.is_monotone.Given as goal

abbrev pub invariant-loop-i : goal.invariant-loop-i
invariant-loop-i l = monotone l.up l.digits ≡ monotone l.up (drop (l.i - 1) l.digits)
