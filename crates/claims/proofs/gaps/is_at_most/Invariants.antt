-- The invariant of the loop of `claims::gaps::is_at_most`.
use mathlib.Core.Path.{◌≡◌}
use lib.ListN.{take}
use Rattle.cell.specs.Built.{level}
use Prim.Native.Nat.{◌+◌, ◌*◌, ◌≤◌}
use Rattle.claims.proofs.gaps.is_at_most.Given as goal

abbrev pub invariant-loop-i : goal.invariant-loop-i
invariant-loop-i l = (l.sum ≤ 255 * l.i) × (l.sum ≡ level (take (l.k + 1) l.parts) l.i)
