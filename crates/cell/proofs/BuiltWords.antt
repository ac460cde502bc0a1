-- Built words: they are permutations, they have the prefix and the spacing that they are built
-- from, and every such permutation is built.
use Rattle.std.specs.Prelude.{ℕ, zero, suc, ◌+◌, ◌-◌, ◌≤◌, ◌<◌, ◌≡◌, refl, ◌⊎◌, true, length, take, drop}
use Rattle.std.proofs.Common.{arith, ap, ◌∙◌, inl, inr, length-append, length-drop, take-append-drop, length-take-le, take_at, le-leb}
use Rattle.std.proofs.Math.Path.{sym, ap₂}
use mathlib.Core.List.{List, [], ◌∷◌, ◌++◌, map, map-map, map-id, Memᴰ}
use Rattle.std.proofs.lemmas.List.{length-map}
use Rattle.std.proofs.Math.Seq.{drop-append_seam}
use Rattle.std.proofs.lemmas.Bool.{lt-leb}
use Rattle.word.specs.Lists.{one_to}
use Rattle.word.specs.Word.{under, reduce, distinct, is_perm, before}
use Rattle.word.specs.ListLaws.{below_or_not, map_same, row_out}
use Rattle.word.specs.CopyLaws.{before_cons}
use Rattle.word.specs.PermLaws.{has_out, distinct_out, distinct_in, distinct_map, perm_bounds, perm_distinct, perm_in, perm_has}
use Rattle.word.specs.PermLaws.{under_perm, reduce_perm, length_reduce, perm_reduce}
use Rattle.cell.specs.Cell.{total, sort, between, spacing}
use Rattle.cell.proofs.BuiltLaws.{lift_rises, val_rises}
use Rattle.cell.specs.Built.{level, val, lift, built}
use Rattle.cell.proofs.RisingLaws.{rises_same, map_rises_same, sort_map, under_map, reduce_map, before_map}
use Rattle.cell.proofs.SpacingLaws.{sort_in, under_sort, sort_up, sort_perm, between_val, val_spacing}

-- the bounds of the values

pub level_at_most : (g : List ℕ) (a : ℕ) → level g a ≤ total g
unfolding level
level_at_most [] zero = omega arith
level_at_most [] (suc a) = omega arith
level_at_most (x ∷ g) zero = omega arith
level_at_most (x ∷ g) (suc a) = omega (arith, level_at_most g a)

pub val_bounds : (g : List ℕ) (k a : ℕ) → 1 ≤ a → a ≤ k → (1 ≤ val g a) × (val g a ≤ k + total g)
unfolding val
val_bounds g k a h l = omega (arith, level_at_most g a)

pub lift_low : (x : ℕ) (g : List ℕ) (s : ℕ) → s ≤ x → lift (x ∷ g) s ≡ s
unfolding lift
lift_low x g s h = rw (le-leb s x h) refl

pub lift_high : (x : ℕ) (g : List ℕ) (s : ℕ) → x < s → lift (x ∷ g) s ≡ suc (x + lift g (s - x))
unfolding lift
lift_high x g s h = rw (lt-leb s x h) refl

lift_sum : (x : ℕ) (g : List ℕ) (s : ℕ) → 1 ≤ s → lift (x ∷ g) (x + s) ≡ suc (x + lift g s)
lift_sum x g s h =
    let r : x + s - x ≡ s = omega arith in
    lift_high x g (x + s) (omega arith) ∙ ap (λ (t : ℕ). suc (x + lift g t)) r

pub lift_at_least : (g : List ℕ) (s : ℕ) → s ≤ lift g s
unfolding lift
lift_at_least [] s = omega arith
lift_at_least (x ∷ g) s = go (lift_at_least g (s - x)) (below_or_not x s)
  where
    go : s - x ≤ lift g (s - x) → (x < s) ⊎ (s ≤ x) → s ≤ lift (x ∷ g) s
    go ih (inl h) = rw (lift_high x g s h) (omega arith)
    go ih (inr h) = rw (lift_low x g s h) (omega arith)

pub lift_at_most : (g : List ℕ) (k s : ℕ) → length g ≡ suc k → s ≤ total g → lift g s ≤ k + total g
unfolding total
lift_at_most [] k s l h = absurd (omega arith)
lift_at_most (x ∷ []) k s l h = rw (lift_low x [] s (omega arith)) (omega arith)
lift_at_most (x ∷ (y ∷ g)) zero s l h = absurd (omega arith)
lift_at_most (x ∷ (y ∷ g)) (suc k) s l h = go (lift_at_most (y ∷ g) k (s - x) (omega arith) (omega arith)) (below_or_not x s)
  where
    go : lift (y ∷ g) (s - x) ≤ k + total (y ∷ g) → (x < s) ⊎ (s ≤ x) → lift (x ∷ (y ∷ g)) s ≤ suc k + (x + total (y ∷ g))
    go ih (inl b) = rw (lift_high x (y ∷ g) s b) (omega arith)
    go ih (inr b) = rw (lift_low x (y ∷ g) s b) (omega arith)

-- a value of the prefix is none of the rest
pub val_not_lift : (g : List ℕ) (a s : ℕ) → 1 ≤ a → a < length g → val g a ≡ lift g s → ⊥
unfolding val
val_not_lift [] a s h l e = omega arith
val_not_lift (x ∷ g) zero s h l e = omega arith
val_not_lift (x ∷ g) (suc zero) s h l e = go (below_or_not x s)
  where
    go : (x < s) ⊎ (s ≤ x) → ⊥
    go (inl b) = omega (arith, lift_high x g s b, lift_at_least g (s - x))
    go (inr b) = omega (arith, lift_low x g s b)
val_not_lift (x ∷ g) (suc (suc a)) s h l e =
    go (λ (q : val g (suc a) ≡ lift g (s - x)). val_not_lift g (suc a) (s - x) (omega arith) (omega arith) q) (below_or_not x s)
  where
    go : (val g (suc a) ≡ lift g (s - x) → ⊥) → (x < s) ⊎ (s ≤ x) → ⊥
    go ih (inl b) = ih (omega (arith, lift_high x g s b))
    go ih (inr b) = omega (arith, lift_low x g s b)

-- every other number from 1 to the length is a value of the rest
pub lift_onto : (g : List ℕ) (k y : ℕ) → length g ≡ suc k → 1 ≤ y → y ≤ k + total g → ((a : ℕ) → 1 ≤ a → a ≤ k → y ≡ val g a → ⊥) →
    (s : ℕ) × (1 ≤ s) × (s ≤ total g) × (lift g s ≡ y)
unfolding val
lift_onto [] k y l h b n = absurd (omega arith)
lift_onto (x ∷ []) zero y l h b n = (y, h, omega arith, lift_low x [] y (omega arith))
lift_onto (x ∷ []) (suc k) y l h b n = absurd (omega arith)
lift_onto (x ∷ (z ∷ g)) zero y l h b n = absurd (omega arith)
lift_onto (x ∷ (z ∷ g)) (suc k) y l h b n =
    go (below_or_not x y)
    (λ (p : 1 ≤ y - suc x) (q : y - suc x ≤ k + total (z ∷ g)).
    lift_onto (z ∷ g) k (y - suc x) (omega arith) p q
    (λ (a : ℕ) (i : 1 ≤ a) (j : a ≤ k) (e : y - suc x ≡ val (z ∷ g) a). n (suc a) (omega arith) (omega arith) (omega arith)))
  where
    go : (x < y) ⊎ (y ≤ x) →
        (1 ≤ y - suc x → y - suc x ≤ k + total (z ∷ g) → (s : ℕ) × (1 ≤ s) × (s ≤ total (z ∷ g)) × (lift (z ∷ g) s ≡ y - suc x)) →
        (s : ℕ) × (1 ≤ s) × (s ≤ x + total (z ∷ g)) × (lift (x ∷ (z ∷ g)) s ≡ y)
    go (inr c) ih = (y, h, omega arith, lift_low x (z ∷ g) y c)
    go (inl c) ih =
        let apart : y ≡ suc x → ⊥ = λ (e : y ≡ suc x). n 1 (omega arith) (omega arith) (omega arith) in
        let (s, p, q, e) = ih (omega arith) (omega arith) in
        (x + s, omega arith, omega arith, omega (arith, lift_sum x (z ∷ g) s p))

-- words of distinct numbers

distinct_append : (u v : List ℕ) → distinct u ≡ true → distinct v ≡ true →
    ((x : ℕ) → Memᴰ x u → Memᴰ x v → ⊥) → distinct (u ++ v) ≡ true
distinct_append [] v d e n = e
distinct_append (x ∷ u) v d e n =
    let p = distinct_out x u d in
    let apart : Memᴰ x u ⊎ Memᴰ x v → ⊥ = elim [ inl m ↦ p.0 m | inr m ↦ n x (mathlib.Core.List.Memᴰ.head refl) m ] in
    distinct_in x (u ++ v) (λ (m : Memᴰ x (u ++ v)). apart (mathlib.Core.List.Memᴰ.append_cases u m))
    (distinct_append u v p.1 e (λ (y : ℕ) (i : Memᴰ y u) (j : Memᴰ y v). n y (mathlib.Core.List.Memᴰ.tail i) j))

distinct_parts : (u v : List ℕ) → distinct (u ++ v) ≡ true →
    (distinct u ≡ true) × (distinct v ≡ true) × ((x : ℕ) → Memᴰ x u → Memᴰ x v → ⊥)
unfolding distinct
distinct_parts [] v d = (refl, d, λ (x : ℕ) (m : Memᴰ x []) (n : Memᴰ x v). mathlib.Core.List.Memᴰ.not-nil m)
distinct_parts (x ∷ u) v d =
    let p = distinct_out x (u ++ v) d in
    let (du, dv, n) = distinct_parts u v p.1 in (
      distinct_in x u (λ (m : Memᴰ x u). p.0 (mathlib.Core.List.Memᴰ.append_left v m)) du,
      dv,
      λ (y : ℕ) (i : Memᴰ y (x ∷ u)) (j : Memᴰ y v). apart p.0 n y j (mathlib.Core.List.Memᴰ.cases_cons i),
    )
  where
    apart : (Memᴰ x (u ++ v) → ⊥) → ((y : ℕ) → Memᴰ y u → Memᴰ y v → ⊥) → (y : ℕ) → Memᴰ y v →
        (y ≡ x) ⊎ Memᴰ y u → ⊥
    apart f n y j (inl e) = f (mathlib.Core.List.Memᴰ.append_right u (mathlib.Core.List.Memᴰ.cast (sym e) j))
    apart f n y j (inr i) = n y i j

-- a permutation, cut behind its first k entries
pub perm_parts : (k : ℕ) (w : List ℕ) → is_perm w ≡ true →
    (distinct (take k w) ≡ true) × (distinct (drop k w) ≡ true) × ((x : ℕ) → Memᴰ x (take k w) → Memᴰ x (drop k w) → ⊥)
perm_parts k w e = distinct_parts (take k w) (drop k w) (ap distinct (take-append-drop k w) ∙ perm_distinct w e)

distinct_of_map : (f : ℕ → ℕ) (u : List ℕ) → distinct (map f u) ≡ true → distinct u ≡ true
distinct_of_map f [] d = d
distinct_of_map f (x ∷ u) d =
    let p = distinct_out (f x) (map f u) d in
    distinct_in x u (λ (m : Memᴰ x u). p.0 (mathlib.Core.List.Memᴰ.map f m)) (distinct_of_map f u p.1)

-- words whose entries are all images of numbers from 1 to n
preimage : (f : ℕ → ℕ) (n : ℕ) (d : List ℕ) → ((y : ℕ) → Memᴰ y d → (s : ℕ) × (1 ≤ s) × (s ≤ n) × (f s ≡ y)) →
    (τ : List ℕ) × ((s : ℕ) → Memᴰ s τ → (1 ≤ s) × (s ≤ n)) × (map f τ ≡ d)
preimage f n [] h = ([], λ (s : ℕ) (m : Memᴰ s []). absurd (mathlib.Core.List.Memᴰ.not-nil m), refl)
preimage f n (y ∷ d) h =
    let (s, p, q, e) = h y (mathlib.Core.List.Memᴰ.head refl) in
    let (τ, b, t) = preimage f n d (λ (z : ℕ) (m : Memᴰ z d). h z (mathlib.Core.List.Memᴰ.tail m)) in
    (s ∷ τ, λ (z : ℕ) (m : Memᴰ z (s ∷ τ)). bounds s τ p q b z (mathlib.Core.List.Memᴰ.cases_cons m), ap₂ ◌∷◌ e t)
  where
    bounds : (s : ℕ) (τ : List ℕ) → 1 ≤ s → s ≤ n → ((z : ℕ) → Memᴰ z τ → (1 ≤ z) × (z ≤ n)) →
        (z : ℕ) → (z ≡ s) ⊎ Memᴰ z τ → (1 ≤ z) × (z ≤ n)
    bounds s τ p q b z (inl e) = omega arith
    bounds s τ p q b z (inr m) = b z m

-- the built word is a permutation

pub built_length : (p g σ : List ℕ) → length (built p g σ) ≡ length p + length σ
unfolding built
built_length p g σ = length-append (map (val g) p) (map (lift g) σ) ∙ ap₂ ◌+◌ (length-map p (val g)) (length-map σ (lift g))

pub built_perm : (p g σ : List ℕ) → is_perm p ≡ true → length g ≡ suc (length p) → is_perm σ ≡ true → length σ ≡
    total g → is_perm (built p g σ) ≡ true
unfolding built
built_perm p g σ e l f t =
    perm_in (map (val g) p ++ map (lift g) σ) (λ (x : ℕ) (m : Memᴰ x (built p g σ)). bounds x
    (mathlib.Core.List.Memᴰ.append_cases (map (val g) p) m))
    (distinct_append (map (val g) p) (map (lift g) σ) first rest apart)
  where
    bounds : (x : ℕ) → Memᴰ x (map (val g) p) ⊎ Memᴰ x (map (lift g) σ) → (1 ≤ x) × (x ≤ length (built p g σ))
    bounds x (inl m) =
        let (a, i, q) = mathlib.Core.List.Memᴰ.of_map (val g) p m in
        let (low, high) = perm_bounds p e i in
        let b = val_bounds g (length p) a low high in
        omega (arith, built_length p g σ)
    bounds x (inr m) =
        let (s, i, q) = mathlib.Core.List.Memᴰ.of_map (lift g) σ m in
        let (low, high) = perm_bounds σ f i in
        let b = lift_at_most g (length p) s l (omega arith) in
        omega (arith, built_length p g σ, lift_at_least g s)

    first : distinct (map (val g) p) ≡ true
    first = distinct_map (val g) p (λ (x y : ℕ) (m : Memᴰ x p) (n : Memᴰ y p). rises_same (val g)
        (val_rises g) x y) (perm_distinct p e)

    rest : distinct (map (lift g) σ) ≡ true
    rest = distinct_map (lift g) σ (λ (x y : ℕ) (m : Memᴰ x σ) (n : Memᴰ y σ). rises_same (lift g)
        (lift_rises g) x y) (perm_distinct σ f)

    apart : (x : ℕ) → Memᴰ x (map (val g) p) → Memᴰ x (map (lift g) σ) → ⊥
    apart x m n =
        let (a, i, q) = mathlib.Core.List.Memᴰ.of_map (val g) p m in
        let (s, j, r) = mathlib.Core.List.Memᴰ.of_map (lift g) σ n in
        let (low, high) = perm_bounds p e i in
        val_not_lift g a s low (omega arith) (q ∙ sym r)

-- its prefix and its spacing are those that it is built from

pub built_prefix : (p g σ : List ℕ) → take (length p) (built p g σ) ≡ map (val g) p
unfolding built
built_prefix p g σ = take_at (map (val g) p) (map (lift g) σ) (length p) (length-map p (val g))

pub built_reduces : (p g : List ℕ) → is_perm p ≡ true → reduce (map (val g) p) ≡ p
built_reduces p g e = reduce_map (val g) (val_rises g) p ∙ reduce_perm p e

pub built_spacing : (p g : List ℕ) → is_perm p ≡ true → length g ≡ suc (length p) → spacing (length p + total g) (map (val g) p) ≡ g
unfolding spacing
built_spacing p g e l =
    ap (λ (u : List ℕ). between 0 u (suc (length p + total g))) (sort_map (val g) (val_rises g) p ∙ ap (map (val g)) (sort_perm p e)) ∙
    between_val (length p) g l

-- every permutation with this prefix and this spacing is built

-- the first entries of a permutation are recovered from what they reduce to and their spacing
take_values : (p g w : List ℕ) → is_perm p ≡ true → is_perm w ≡ true → length p ≤ length w → reduce (take (length p) w) ≡ p →
    spacing (length w) (take (length p) w) ≡ g → take (length p) w ≡ map (val g) p
unfolding reduce
take_values p g w e f l r s =
    sym (ap (map (val g)) (sym r) ∙ map-map (val g) (under u) u ∙ map_same (λ x. val g (under u x)) (λ x. x) u back ∙ map-id u)
  where
    u : List ℕ
    u = take (length p) w

    positive : (x : ℕ) → Memᴰ x u → 0 < x
    positive x m = (perm_bounds w f (rw (take-append-drop (length p) w) at (mathlib.Core.List.Memᴰ.append_left (drop (length p) w) m))).0

    sorted : sort u ≡ map (val g) (one_to (length p))
    sorted =
        val_spacing (length w) u (sort_up 0 u (perm_parts (length p) w f).0 positive) ∙
        ap₂ (λ (h : List ℕ) (k : ℕ). map (val h) (one_to k)) s (length-take-le (length p) w l)

    back : (x : ℕ) → Memᴰ x u → val g (under u x) ≡ x
    back x m =
        let (a, i, q) = mathlib.Core.List.Memᴰ.of_map (val g) (one_to (length p)) (rw sorted at (sort_in u m)) in
        let b = row_out 1 (length p) i in
        let place : under u x ≡ a =
        sym (under_sort x u) ∙ ap₂ under sorted (sym q) ∙ under_map (val g) (val_rises g) (one_to (length p)) a ∙
        ap (λ (v : List ℕ). under v a) (sym (sort_perm p e)) ∙ under_sort a p ∙ under_perm p a e (omega arith) in
        ap (val g) place ∙ q

module _ (p g w : List ℕ) (e : is_perm p ≡ true) (f : is_perm w ≡ true) (n : length w ≡ length p + total g) (l : length g ≡ suc (length p))
    (r : reduce (take (length p) w) ≡ p) (s : spacing (length w) (take (length p) w) ≡ g) where
  front : take (length p) w ≡ map (val g) p
  front = take_values p g w e f (omega arith) r s

  -- an entry of the rest is none of the prefix, so it is a value of the rest
  raised : (y : ℕ) → Memᴰ y (drop (length p) w) → (t : ℕ) × (1 ≤ t) × (t ≤ total g) × (lift g t ≡ y)
  raised y m =
      let b = perm_bounds w f (rw (take-append-drop (length p) w) at (mathlib.Core.List.Memᴰ.append_right (take (length p) w) m)) in
      lift_onto g (length p) y l b.0 (omega arith)
      (λ (a : ℕ) (i : 1 ≤ a) (j : a ≤ length p) (q : y ≡ val g a).
      let k : Memᴰ y (map (val g) p) =
      mathlib.Core.List.Memᴰ.cast q (mathlib.Core.List.Memᴰ.map (val g) (has_out a p (perm_has p a e i j))) in
      (perm_parts (length p) w f).2 y (rw front k) m)

  pub rest_perm : is_perm (reduce (drop (length p) w)) ≡ true
  rest_perm = perm_reduce (drop (length p) w) (perm_parts (length p) w f).1

  pub rest_length : length (reduce (drop (length p) w)) ≡ total g
  rest_length = length_reduce (drop (length p) w) ∙ simp length-drop (omega arith)

  back_raised : map (lift g) (reduce (drop (length p) w)) ≡ drop (length p) w
  back_raised =
      let (τ, b, q) = preimage (lift g) (total g) (drop (length p) w) raised in
      let size : length τ ≡ total g = sym (length-map τ (lift g)) ∙ ap length q ∙ sym (length_reduce (drop (length p) w)) ∙ rest_length in
      let d : distinct τ ≡ true = distinct_of_map (lift g) τ (ap distinct q ∙ (perm_parts (length p) w f).1) in
      let t : is_perm τ ≡ true = perm_in τ (λ (x : ℕ) (m : Memᴰ x τ). let c = b x m in omega arith) d in
      ap (λ (v : List ℕ). map (lift g) (reduce v)) (sym q) ∙ ap (map (lift g)) (reduce_map (lift g) (lift_rises g) τ ∙ reduce_perm τ t) ∙ q

  pub built_onto : w ≡ built p g (reduce (drop (length p) w))
  unfolding built
  built_onto = sym (take-append-drop (length p) w) ∙ ap₂ ◌++◌ front (sym back_raised)

-- two built words with the same prefix and spacing compare as their rests do

pub built_injective : (p g σ τ : List ℕ) → built p g σ ≡ built p g τ → σ ≡ τ
unfolding built
built_injective p g σ τ e =
    map_rises_same (lift g) (lift_rises g) σ τ
    (sym (drop-append_seam (map (val g) p) (map (lift g) σ)) ∙ ap (drop (length (map (val g) p))) e ∙
    drop-append_seam (map (val g) p) (map (lift g) τ))

before_append : (u s t : List ℕ) → before (u ++ s) (u ++ t) ≡ before s t
before_append [] s t = refl
before_append (x ∷ u) s t = before_cons x (u ++ s) (u ++ t) ∙ before_append u s t

pub built_before : (p g σ τ : List ℕ) → before (built p g σ) (built p g τ) ≡ before σ τ
unfolding built
built_before p g σ τ = before_append (map (val g) p) (map (lift g) σ) (map (lift g) τ) ∙ before_map (lift g) (lift_rises g) σ τ
