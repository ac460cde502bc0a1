-- Counting the spacings at which a test passes: along one total, and total by total.
-- Assumes nothing.
use Prim.Native.Nat.{ℕ, suc, ◌+◌, ◌-◌, ◌^◌, ◌≤◌, ◌<◌}
use mathlib.Core.Path.{◌≡◌, refl, sym, ap, ◌∙◌}
use mathlib.Core.Bool.{Bool, true, false, cond}
use mathlib.Core.List.{List, [], ◌∷◌, ◌++◌}
use native.Mathlib.Nat.{sub-zero, pow-le-pow_right}
use native.Mathlib.Numerals.{add-one}
use native.Mathlib.Omega.{arith}
use lib.ListN.{length}
use Rattle.word.specs.Ceilings.{DIGITS, COMPONENTS}
use Rattle.word.specs.Lists.{keep, each, row}
use Rattle.cell.specs.Cell.{total, vectors}
use Rattle.spacing.specs.Following.{first_vector, later, Follows}
use Rattle.spacing.specs.SpacingOrder.{vectors_first, first_total, keep_bound, vectors_bound, spacings_bound}

-- the number of vectors of the list at which the test passes
abbrev pub passing : (List ℕ → Bool) → List (List ℕ) → ℕ
passing f l = length (keep f l)

-- how far the walk along the spacings with k + 1 components and total t has come: v is next, and
-- count passed before it
pub record Walk (f : List ℕ → Bool) (k t : ℕ) (v : List ℕ) (count : ℕ) : Type 0 where
  pub counted : count + passing f (v ∷ later v) ≡ passing f (vectors (suc k) t)
  pub held : total v ≡ t

module _ (f : List ℕ → Bool) (k t : ℕ) where
  pub walk_start : (v : List ℕ) → v ≡ first_vector k t → Walk f k t v 0
  walk_start v e =
      let first : v ∷ later v ≡ vectors (suc k) t = rw e (sym (vectors_first k t)) in
      let whole : 0 + passing f (v ∷ later v) ≡ passing f (vectors (suc k) t) =
      ap (λ (l : List (List ℕ)). 0 + passing f l) first ∙ (omega arith) in
      record { counted = whole; held = ap total e ∙ first_total k t }

  -- the count after v
  pub walk_passes : (v : List ℕ) (count : ℕ) → Walk f k t v count → f v ≡ true → count + 1 + passing f (later v) ≡
      passing f (vectors (suc k) t)
  walk_passes v count w e =
      let p : count + suc (passing f (later v)) ≡ passing f (vectors (suc k) t) = rw e at w.counted in
      omega arith

  pub walk_fails : (v : List ℕ) (count : ℕ) → Walk f k t v count → f v ≡ false → count + passing f (later v) ≡ passing f (vectors (suc k) t)
  walk_fails v count w e = rw e at w.counted

  pub walk_end : (v n : List ℕ) (count : ℕ) (b : Bool) → count + passing f (later v) ≡
      passing f (vectors (suc k) t) → Follows v b n → b ≡ false →
      count ≡ passing f (vectors (suc k) t)
  walk_end v n count b c g e =
      let none : later v ≡ [] = g.rest ∙ rw e refl in
      let p : count + 0 ≡ passing f (vectors (suc k) t) = rw none at c in
      omega arith

  pub walk_on : (v n : List ℕ) (count : ℕ) (b : Bool) → total v ≡ t → count + passing f (later v) ≡
      passing f (vectors (suc k) t) → Follows v b n → b ≡ true →
      Walk f k t n count
  walk_on v n count b h c g e =
      let more : later v ≡ n ∷ later n = g.rest ∙ rw e refl in
      record { counted = rw more at c; held = g.same_total ∙ h }

  pub walk_bound : k < COMPONENTS → t < DIGITS → passing f (vectors (suc k) t) ≤ DIGITS ^ COMPONENTS
  walk_bound h l =
      let power : DIGITS ^ suc k ≤ DIGITS ^ COMPONENTS =
      pow-le-pow_right {n = DIGITS} (omega arith) {i = suc k} {j = COMPONENTS} (omega arith) in
      omega (arith, keep_bound f (vectors (suc k) t), vectors_bound (suc k) t l)

-- the walk comes to its end
pub less_later : (v n : List ℕ) (b : Bool) → Follows v b n → b ≡ true → length (later n) < length (later v)
less_later v n b g e =
    let more : later v ≡ n ∷ later n = g.rest ∙ rw e refl in
    rw more (omega arith)

-- total by total

keep_append : (f : List ℕ → Bool) (l r : List (List ℕ)) → passing f (l ++ r) ≡ passing f l + passing f r
keep_append f [] r = omega arith
keep_append f (v ∷ l) r = go (f v) (keep_append f l r)
  where
    go : (b : Bool) → passing f (l ++ r) ≡ passing f l + passing f r →
        length (cond b (v ∷ keep f (l ++ r)) (keep f (l ++ r))) ≡ length (cond b (v ∷ keep f l) (keep f l)) + passing f r
    go true e = omega arith
    go false e = e

-- those of the totals from t to m - 1
unfoldable pub from_total : (List ℕ → Bool) → ℕ → ℕ → ℕ → ℕ
from_total f k m t = passing f (each (vectors (suc k)) (row t (m - t)))

module _ (f : List ℕ → Bool) (k m : ℕ) where
  pub totals_start : from_total f k m 0 ≡ passing f (each (vectors (suc k)) (row 0 m))
  unfolding from_total
  totals_start = rw (sub-zero m) refl

  pub totals_step : (t : ℕ) → t < m → from_total f k m t ≡ passing f (vectors (suc k) t) + from_total f k m (t + 1)
  unfolding from_total
  totals_step t h =
      let z : m - t ≡ suc (m - suc t) = omega arith in
      rw (z, add-one t) (keep_append f (vectors (suc k) t) (each (vectors (suc k)) (row (suc t) (m - suc t))))

  pub totals_end : (t : ℕ) → m ≤ t → from_total f k m t ≡ 0
  unfolding from_total
  totals_end t h = let z : m - t ≡ 0 = omega arith in rw z refl

  pub totals_bound : k < COMPONENTS → m ≤ DIGITS → passing f (each (vectors (suc k)) (row 0 m)) ≤ DIGITS ^ suc COMPONENTS
  totals_bound h l = omega (arith, keep_bound f (each (vectors (suc k)) (row 0 m)), spacings_bound k m h l)
