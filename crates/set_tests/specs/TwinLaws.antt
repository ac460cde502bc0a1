-- Laws of the nearest earlier place at which a test passes: the search downwards, that the test
-- passes there, and when there is one.
-- Assumes nothing.
use Prim.Native.Nat.{ℕ, zero, suc, ◌-◌, ◌≤◌, ◌<◌}
use native.Mathlib.Omega.{arith}
use Rattle.std.specs.Prelude.{◌≡◌, Bool, ◌||◌, cond}
use Rattle.std.proofs.Math.Path.{refl}
use Rattle.std.proofs.Math.Bool.{true, false}
use Rattle.std.proofs.Math.Dec.{ltb}
use borrow.Author.Tests.{lt-ltb, le-ltb}
use Rattle.word.specs.Lists.{any}
use Rattle.scheme.specs.TestOrder.{seen}
use Rattle.set_tests.specs.Twin.{nearest_below, nearest_twin}

-- one place further down
module _ (t : ℕ → Bool) (i j : ℕ) where
  pub nearest_here : 0 < j → t (j - 1) ≡ true → nearest_below t i j ≡ j - 1
  unfolding nearest_below
  nearest_here h e = go j (j - 1) (omega arith) e
    where
      go : (a b : ℕ) → a ≡ suc b → t b ≡ true → nearest_below t i a ≡ b
      go a b q e = rw (q, e) refl

  pub nearest_later : 0 < j → t (j - 1) ≡ false → nearest_below t i j ≡ nearest_below t i (j - 1)
  unfolding nearest_below
  nearest_later h e = go j (j - 1) (omega arith) e
    where
      go : (a b : ℕ) → a ≡ suc b → t b ≡ false → nearest_below t i a ≡ nearest_below t i b
      go a b q e = rw (q, e) refl

  pub nearest_none : j ≤ 0 → nearest_below t i j ≡ i
  unfolding nearest_below
  nearest_none h = let e : j ≡ 0 = omega arith in rw e refl

pub nearest_start : (t : ℕ → Bool) (i : ℕ) → nearest_twin t i ≡ nearest_below t i i
unfolding nearest_twin
nearest_start t i = refl

-- the test passes at the place that is found
below_passes : (t : ℕ → Bool) (i j : ℕ) → nearest_below t i j < i → t (nearest_below t i j) ≡ true
unfolding nearest_below
below_passes t i zero h = absurd (omega arith)
below_passes t i (suc j) h = go (t j) refl h (below_passes t i j)
  where
    go : (b : Bool) → t j ≡ b → cond b j (nearest_below t i j) < i → (nearest_below t i j < i → t (nearest_below t i j) ≡ true) →
        t (cond b j (nearest_below t i j)) ≡ true
    go true e h ih = e
    go false e h ih = ih h

pub nearest_passes : (t : ℕ → Bool) (i : ℕ) → nearest_twin t i < i → t (nearest_twin t i) ≡ true
unfolding nearest_twin
nearest_passes t i h = below_passes t i i h

-- a place is found exactly if an item before i passes
module _ {A : Type 0} (f : A → Bool) (g : ℕ → A) (i : ℕ) where
  below_seen : (j : ℕ) → j ≤ i → ltb (nearest_below (λ n. f (g n)) i j) i ≡ any f (seen g j)
  unfolding nearest_below
  below_seen zero h = le-ltb i i (omega arith)
  below_seen (suc j) h = go (f (g j)) (below_seen j (omega arith))
    where
      go : (b : Bool) → ltb (nearest_below (λ n. f (g n)) i j) i ≡ any f (seen g j) →
          ltb (cond b j (nearest_below (λ n. f (g n)) i j)) i ≡ b || any f (seen g j)
      go true ih = lt-ltb j i (omega arith)
      go false ih = ih

  pub nearest_seen : ltb (nearest_twin (λ n. f (g n)) i) i ≡ any f (seen g i)
  unfolding nearest_twin
  nearest_seen = below_seen i (omega arith)
