-- A map that rises keeps comparisons, and so it goes through sorting, counting, reduction and the
-- lexicographic order.
use Rattle.std.specs.Prelude.{ℕ, suc, ◌≤◌, ◌<◌, ◌≡◌, ◌⊎◌, Bool, leb, eqb}
use Rattle.std.proofs.Common.{arith, sym, ◌∙◌, inl, inr, le-leb, eq-eqb, ne_eqb}
use Rattle.std.proofs.Math.Path.{refl, ap, ap₂}
use Rattle.std.proofs.Math.Bool.{true, false, cond}
use mathlib.Core.List.{List, [], ◌∷◌, map, map-map}
use Rattle.std.proofs.lemmas.Bool.{lt-leb}
use Rattle.word.specs.Word.{under, reduce, before}
use Rattle.word.specs.ListLaws.{below_or_not, same_or_not, map_same}
use Rattle.cell.specs.Cell.{insert, sort}
use Rattle.cell.proofs.BuiltLaws.{rises_keeps}

module _ (f : ℕ → ℕ) (up : (s t : ℕ) → s < t → f s < f t) where
  pub rises_same : (s t : ℕ) → f s ≡ f t → s ≡ t
  rises_same s t e = go (below_or_not s t) (below_or_not t s)
    where
      go : (s < t) ⊎ (t ≤ s) → (t < s) ⊎ (s ≤ t) → s ≡ t
      go (inl h) k = absurd (omega (arith, up s t h))
      go (inr h) (inl k) = absurd (omega (arith, up t s k))
      go (inr h) (inr k) = omega arith

  pub rises_leb : (s t : ℕ) → leb (f s) (f t) ≡ leb s t
  rises_leb s t = go (below_or_not t s) (same_or_not s t)
    where
      go : (t < s) ⊎ (s ≤ t) → (s ≡ t) ⊎ (s ≡ t → ⊥) → leb (f s) (f t) ≡ leb s t
      go (inl h) k = lt-leb (f s) (f t) (up t s h) ∙ sym (lt-leb s t h)
      go (inr h) (inl k) = le-leb (f s) (f t) (omega (arith, ap f k)) ∙ sym (le-leb s t h)
      go (inr h) (inr k) = le-leb (f s) (f t) (omega (arith, up s t (omega arith))) ∙ sym (le-leb s t h)

  pub rises_eqb : (s t : ℕ) → eqb (f s) (f t) ≡ eqb s t
  rises_eqb s t = go (same_or_not s t)
    where
      go : (s ≡ t) ⊎ (s ≡ t → ⊥) → eqb (f s) (f t) ≡ eqb s t
      go (inl e) = eq-eqb (f s) (f t) (ap f e) ∙ sym (eq-eqb s t e)
      go (inr n) = ne_eqb (f s) (f t) (λ (e : f s ≡ f t). n (rises_same s t e)) ∙ sym (ne_eqb s t n)

  -- two words with the same image are the same
  pub map_rises_same : (u v : List ℕ) → map f u ≡ map f v → u ≡ v
  map_rises_same [] [] e = refl
  map_rises_same [] (y ∷ v) e = let z : ◌≡◌ {A = ℕ} 0 1 = cc in absurd (omega arith)
  map_rises_same (x ∷ u) [] e = let z : ◌≡◌ {A = ℕ} 0 1 = cc in absurd (omega arith)
  map_rises_same (x ∷ u) (y ∷ v) e =
      let h : f x ≡ f y = cc in
      let t : map f u ≡ map f v = cc in
      ap₂ ◌∷◌ (rises_same x y h) (map_rises_same u v t)

  pub insert_map : (x : ℕ) (u : List ℕ) → insert (f x) (map f u) ≡ map f (insert x u)
  unfolding insert
  insert_map x [] = refl
  insert_map x (y ∷ u) = rw (rises_leb x y) (go (leb x y) (insert_map x u))
    where
      go : (b : Bool) → insert (f x) (map f u) ≡ map f (insert x u) →
          cond b (f x ∷ (f y ∷ map f u)) (f y ∷ insert (f x) (map f u)) ≡ map f (cond b (x ∷ (y ∷ u)) (y ∷ insert x u))
      go true ih = refl
      go false ih = ap (λ (r : List ℕ). f y ∷ r) ih

  pub sort_map : (u : List ℕ) → sort (map f u) ≡ map f (sort u)
  unfolding sort
  sort_map [] = refl
  sort_map (x ∷ u) = ap (insert (f x)) (sort_map u) ∙ insert_map x (sort u)

  pub under_map : (u : List ℕ) (x : ℕ) → under (map f u) (f x) ≡ under u x
  unfolding under
  under_map [] x = refl
  under_map (y ∷ u) x = ap₂ (λ b n. cond b (suc n) n) (rises_leb y x) (under_map u x)

  pub reduce_map : (u : List ℕ) → reduce (map f u) ≡ reduce u
  unfolding reduce
  reduce_map u = map-map (under (map f u)) f u ∙ map_same (λ x. under (map f u) (f x)) (under u) u (λ x m. under_map u x)

  pub before_map : (s t : List ℕ) → before (map f s) (map f t) ≡ before s t
  unfolding before
  before_map s [] = refl
  before_map [] (y ∷ t) = refl
  before_map (x ∷ s) (y ∷ t) = rw (rises_keeps f up x y, rises_eqb x y, before_map s t)
