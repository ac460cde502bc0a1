-- The invariant of the loop of `set_tests::earlier_twin`.
use Prim.Native.Nat.{ℕ}
use mathlib.Core.Path.{◌≡◌}
use mathlib.Core.Bool.{Bool}
use Rattle.cell.specs.Basis.{same}
use Rattle.scheme.specs.TestOrder.{place_in}
use Rattle.forms.specs.declared.memory.Patterns.{Patterns}
use Rattle.set_tests.specs.Twin.{nearest_below, nearest_twin}
use Rattle.set_tests.proofs.earlier_twin.Given as goal

-- whether the items at two places are the same
abbrev pub twin : Patterns → ℕ → ℕ → Bool
twin s i j = same (place_in s i) (place_in s j)

abbrev pub invariant-loop-j : goal.invariant-loop-j
invariant-loop-j l = nearest_twin (twin l.s l.i) l.i ≡ nearest_below (twin l.s l.i) l.i l.j
