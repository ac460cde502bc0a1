-- Laws of sublists: of maps and of joined lists, and an entry that a shorter sublist leaves out.
use Rattle.std.specs.Prelude.{◌≤◌, ◌<◌, ◌≡◌, refl, ◌⊎◌, length}
use Rattle.std.proofs.Common.{sym, ap, ap₂, ◌∙◌, inl, inr, arith}
use mathlib.Core.List.{List, [], ◌∷◌, ◌++◌, map, Memᴰ}
use mathlib.Core.List.Sublistᴰ
use mathlib.Core.List.{Sublistᴰ}

module _ {A : Type 0} where
  -- an entry of a list, and what stands before and behind it
  pub mem_split : {x : A} {l : List A} → Memᴰ x l → (u : List A) × (v : List A) × (l ≡ u ++ (x ∷ v))
  mem_split (Memᴰ.head {xs = v} e) = ([], v, ap (λ (y : A). y ∷ v) (sym e))
  mem_split (Memᴰ.tail {x = y} m) = let r = mem_split m in (y ∷ r.0, r.1, ap (λ (t : List A). y ∷ t) r.2)

  -- the list without one of its entries is a sublist
  pub sublist_without : (u : List A) (x : A) (v : List A) → Sublistᴰ (u ++ v) (u ++ (x ∷ v))
  sublist_without [] x v = Sublistᴰ.cons (Sublistᴰ.refl v)
  sublist_without (y ∷ u) x v = Sublistᴰ.cons-cons refl (sublist_without u x v)

  pub sublist_length : {s l : List A} → Sublistᴰ s l → length s ≤ length l
  sublist_length Sublistᴰ.slnil = omega arith
  sublist_length (Sublistᴰ.cons d) = omega (arith, sublist_length d)
  sublist_length (Sublistᴰ.cons-cons e d) = omega (arith, sublist_length d)

  -- a sublist that is as long as the list is the list
  pub sublist_whole : {s l : List A} → Sublistᴰ s l → length l ≤ length s → s ≡ l
  sublist_whole Sublistᴰ.slnil h = refl
  sublist_whole (Sublistᴰ.cons d) h = absurd (omega (arith, sublist_length d))
  sublist_whole (Sublistᴰ.cons-cons e d) h = ap₂ ◌∷◌ e (sublist_whole d (omega arith))

  -- a shorter sublist leaves out an entry x
  pub sublist_spare : {s l : List A} → Sublistᴰ s l → length s < length l → (u : List A) × (x : A) × (v : List A) ×
      (l ≡ u ++ (x ∷ v)) × Sublistᴰ s (u ++ v)
  sublist_spare Sublistᴰ.slnil h = absurd (omega arith)
  sublist_spare (Sublistᴰ.cons {a = x} {l₂ = l} d) h = ([], x, l, refl, d)
  sublist_spare (Sublistᴰ.cons-cons {b = y} e d) h =
      let (u, x, v, q, t) = sublist_spare d (omega arith) in (y ∷ u, x, v, ap (λ (k : List A). y ∷ k) q, Sublistᴰ.cons-cons e t)

  -- a sublist of two joined lists is a sublist of each, joined
  pub sublist_of_append : (u v : List A) {s : List A} → Sublistᴰ s (u ++ v) → (a : List A) × (r : List A) ×
      (s ≡ a ++ r) × Sublistᴰ a u × Sublistᴰ r v
  sublist_of_append [] v {s} d = ([], s, refl, Sublistᴰ.slnil, d)
  sublist_of_append (x ∷ u) v {s} d = go (λ (t : List A) (e : Sublistᴰ t (u ++ v)). sublist_of_append u v e) (Sublistᴰ.cases_cons d)
    where
      go : ((t : List A) → Sublistᴰ t (u ++ v) → (a : List A) × (r : List A) × (t ≡ a ++ r) × Sublistᴰ a u × Sublistᴰ r v) →
          Sublistᴰ s (u ++ v) ⊎ ((t : List A) × (s ≡ x ∷ t) × Sublistᴰ t (u ++ v)) →
          (a : List A) × (r : List A) × (s ≡ a ++ r) × Sublistᴰ a (x ∷ u) × Sublistᴰ r v
      go below (inl e) = let (a, r, q, da, dr) = below s e in (a, r, q, Sublistᴰ.cons da, dr)
      go below (inr (t, k, e)) =
          let (a, r, q, da, dr) = below t e in (x ∷ a, r, k ∙ ap (λ (z : List A). x ∷ z) q, Sublistᴰ.cons-cons refl da, dr)

module _ {A B : Type 0} where
  pub sublist_map : (f : A → B) {s l : List A} → Sublistᴰ s l → Sublistᴰ (map f s) (map f l)
  sublist_map f Sublistᴰ.slnil = Sublistᴰ.slnil
  sublist_map f (Sublistᴰ.cons d) = Sublistᴰ.cons (sublist_map f d)
  sublist_map f (Sublistᴰ.cons-cons e d) = Sublistᴰ.cons-cons (ap f e) (sublist_map f d)

  -- a sublist of a mapped list is a mapped sublist
  pub sublist_of_map : (f : A → B) (l : List A) {s : List B} → Sublistᴰ s (map f l) → (t : List A) × (s ≡ map f t) × Sublistᴰ t l
  sublist_of_map f [] d = ([], Sublistᴰ.eq-nil d, Sublistᴰ.slnil)
  sublist_of_map f (x ∷ l) {s} d = go (λ (t : List B) (e : Sublistᴰ t (map f l)). sublist_of_map f l e) (Sublistᴰ.cases_cons d)
    where
      go : ((t : List B) → Sublistᴰ t (map f l) → (a : List A) × (t ≡ map f a) × Sublistᴰ a l) →
          Sublistᴰ s (map f l) ⊎ ((t : List B) × (s ≡ f x ∷ t) × Sublistᴰ t (map f l)) → (a : List A) × (s ≡ map f a) × Sublistᴰ a (x ∷ l)
      go below (inl e) = let (a, q, k) = below s e in (a, q, Sublistᴰ.cons k)
      go below (inr (t, p, e)) = let (a, q, k) = below t e in (x ∷ a, p ∙ ap (λ (z : List B). f x ∷ z) q, Sublistᴰ.cons-cons refl k)
