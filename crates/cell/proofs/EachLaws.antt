-- Laws of kept and mapped lists, and of lists one after the other.
use Rattle.std.specs.Prelude.{◌+◌, ◌≡◌, Bool, true, false, cond}
use Rattle.std.proofs.Math.Path.{refl, ap}
use Rattle.std.proofs.Common.{ap₂, ◌∙◌}
use mathlib.Core.List.{List, [], ◌∷◌, ◌++◌, map, map-append, Memᴰ}
use Rattle.std.proofs.Math.ListN.{length, length-append}
use Rattle.word.specs.Lists.{keep, each}
use Rattle.cell.specs.Cell.{total}

module _ {A : Type 0} where
  pub keep_append : (f : A → Bool) (l m : List A) → keep f (l ++ m) ≡ keep f l ++ keep f m
  keep_append f [] m = refl
  keep_append f (x ∷ l) m = step (f x) (keep_append f l m)
    where
      step : (b : Bool) → keep f (l ++ m) ≡ keep f l ++ keep f m →
          cond b (x ∷ keep f (l ++ m)) (keep f (l ++ m)) ≡ cond b (x ∷ keep f l) (keep f l) ++ keep f m
      step true e = ap (λ v. x ∷ v) e
      step false e = e

module _ {A B : Type 0} where
  pub keep_map : (f : B → Bool) (h : A → B) (l : List A) → keep f (map h l) ≡ map h (keep (λ x. f (h x)) l)
  keep_map f h [] = refl
  keep_map f h (x ∷ l) = step (f (h x)) (keep_map f h l)
    where
      step : (b : Bool) → keep f (map h l) ≡ map h (keep (λ x. f (h x)) l) →
          cond b (h x ∷ keep f (map h l)) (keep f (map h l)) ≡ map h (cond b (x ∷ keep (λ x. f (h x)) l) (keep (λ x. f (h x)) l))
      step true e = ap (λ v. h x ∷ v) e
      step false e = e

  pub keep_each : (f : B → Bool) (h : A → List B) (l : List A) → keep f (each h l) ≡ each (λ x. keep f (h x)) l
  keep_each f h [] = refl
  keep_each f h (x ∷ l) = keep_append f (h x) (each h l) ∙ ap (λ v. keep f (h x) ++ v) (keep_each f h l)

  pub each_same : (f h : A → List B) (l : List A) → ((x : A) → Memᴰ x l → f x ≡ h x) → each f l ≡ each h l
  each_same f h [] e = refl
  each_same f h (x ∷ l) e = ap₂ ◌++◌ (e x (Memᴰ.head refl)) (each_same f h l (λ (y : A) (m : Memᴰ y l). e y (Memᴰ.tail m)))

  -- the length of lists one after the other is the sum of their lengths
  pub length_each_total : (f : A → List B) (l : List A) → length (each f l) ≡ total (map (λ x. length (f x)) l)
  unfolding total
  length_each_total f [] = refl
  length_each_total f (x ∷ l) = length-append (f x) (each f l) ∙ ap (λ n. length (f x) + n) (length_each_total f l)

module _ {A B C : Type 0} where
  pub map_each : (f : B → C) (h : A → List B) (l : List A) → map f (each h l) ≡ each (λ x. map f (h x)) l
  map_each f h [] = refl
  map_each f h (x ∷ l) = map-append f (h x) (each h l) ∙ ap (λ v. map f (h x) ++ v) (map_each f h l)
