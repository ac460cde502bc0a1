-- `count_figures::sizes::figure_count` meets its contract.
-- Assumes nothing.
use Prim.Native.Nat.{ℕ, ◌+◌, ◌*◌, ◌-◌, ◌/◌, ◌≤◌}
use native.Mathlib.Omega.{arith}
use native.Mathlib.Numerals.{add-one}
use native.Mathlib.Nat.{mul-le-mul_right}
use mathlib.Core.Path.{◌≡◌, refl, sym, ap, ◌∙◌}
use Rattle.word.specs.Ceilings.{LENGTH}
use Rattle.word.specs.Inversions.{figure_count}
use Rattle.count_figures.proofs.sizes.figure_count.Goals as goal

none : ◌≡◌ {A = ℕ} 1 (figure_count 0)
unfolding figure_count
none = refl

some : (n : ℕ) → n * (n - 1) / 2 + 1 ≡ figure_count n
unfolding figure_count
some n = add-one (n * (n - 1) / 2)

product_small : (n : ℕ) → n ≤ LENGTH → n * (n - 1) ≤ LENGTH * LENGTH
product_small n h = omega (arith, mul-le-mul_right {m = n} {n = LENGTH} (n - 1) h)

pub returns-then-n-eq0 : goal.returns-then-n-eq0
returns-then-n-eq0 c = none ∙ ap figure_count (sym c.if-n-eq0.true)

pub overflow_mul-result : goal.overflow_mul-result
overflow_mul-result c = omega (arith, product_small c.args.n c.requires)

pub overflow_add-result : goal.overflow_add-result
overflow_add-result c = omega (arith, product_small c.args.n c.requires)

pub returns : goal.returns
returns c = some c.args.n
