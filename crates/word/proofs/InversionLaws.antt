-- Laws of inversions: how many there can be, what a first entry adds, what keeps them (maps that
-- keep the order, reduction, isomorphism), and how many figures a length has.
use Rattle.std.specs.Prelude.{ℕ, zero, suc, ◌+◌, ◌*◌, ◌-◌, ◌/◌, ◌≤◌, ◌≡◌, refl, Bool, true, false, cond, length, ltb}
use Rattle.std.proofs.Math.Nat.{add-mul-div_right}
use Rattle.std.proofs.Common.{arith, sym, ap, ap₂, ◌∙◌, ltb-true, ltb-false, lt-ltb, le-ltb}
use Rattle.std.specs.Bool.{beq}
use mathlib.Core.List.{List, [], ◌∷◌, ◌++◌, map, Memᴰ}
use mathlib.Core.List.{Sublistᴰ}
use Rattle.std.proofs.lemmas.List.{length-map}
use Rattle.std.proofs.Math.Dec.{leb-suc-suc}
use Rattle.word.specs.Lists.{row}
use Rattle.word.specs.Word.{alike, iso, under, reduce, distinct, is_perm, bump}
use Rattle.word.specs.Inversions.{smaller, inversions, pairs, inverted, figure_count, tally}
use Rattle.word.specs.ListLaws.{true_not_false, and_left, and_right, beq_true, length_row}
use Rattle.word.specs.IsoLaws.{under_order}
use Rattle.word.specs.BumpLaws.{bump_keeps}
use Rattle.word.specs.PermLaws.{distinct_out, under_bump_below, under_perm}

-- the entries below the number behind x are those at most x
smaller_under : (x : ℕ) (w : List ℕ) → smaller (suc x) w ≡ under w x
unfolding smaller under
smaller_under x [] = refl
smaller_under x (y ∷ w) = ap₂ (λ (b : Bool) (n : ℕ). cond b (suc n) n) (leb-suc-suc y x) (smaller_under x w)

-- the number of pairs of n entries

pub pairs_suc : (n : ℕ) → pairs (suc n) ≡ n + pairs n
unfolding pairs
pairs_suc zero = refl
pairs_suc (suc n) =
    let a : suc (suc n) - 1 ≡ suc n = omega arith in
    let b : suc n - 1 ≡ n = omega arith in
    let e : suc (suc n) * (suc (suc n) - 1) ≡ suc n * (suc n - 1) + suc n * 2 = rw (a, b) (omega arith) in
    ap (λ (k : ℕ). k / 2) e ∙ add-mul-div_right (suc n * (suc n - 1)) (suc n) (omega arith) ∙ omega arith

pub pairs_mono : (m n : ℕ) → m ≤ n → pairs m ≤ pairs n
pairs_mono zero zero h = omega arith
pairs_mono (suc m) zero h = absurd (omega arith)
pairs_mono zero (suc n) h = omega (arith, pairs_mono zero n (omega arith), pairs_suc n)
pairs_mono (suc m) (suc n) h = omega (arith, pairs_mono m n (omega arith), pairs_suc m, pairs_suc n)

-- at most all later entries are smaller
smaller_at_most : (x : ℕ) (w : List ℕ) → smaller x w ≤ length w
unfolding smaller
smaller_at_most x [] = omega arith
smaller_at_most x (y ∷ w) = step (ltb y x) (smaller_at_most x w)
  where
    step : (b : Bool) → smaller x w ≤ length w → cond b (suc (smaller x w)) (smaller x w) ≤ suc (length w)
    step true h = omega arith
    step false h = omega arith

-- a word has at most as many inversions as pairs of entries
pub inversions_at_most : (w : List ℕ) → inversions w ≤ pairs (length w)
unfolding inversions
inversions_at_most [] = omega arith
inversions_at_most (x ∷ w) = omega (arith, smaller_at_most x w, inversions_at_most w, pairs_suc (length w))

-- maps that keep the order

smaller_map_on : (f : ℕ → ℕ) (x : ℕ) (w : List ℕ) → ((y : ℕ) → Memᴰ y w → ltb (f y) (f x) ≡ ltb y x) →
    smaller (f x) (map f w) ≡ smaller x w
unfolding smaller
smaller_map_on f x [] h = refl
smaller_map_on f x (y ∷ w) h =
    ap₂ (λ (b : Bool) (n : ℕ). cond b (suc n) n) (h y (Memᴰ.head refl)) (smaller_map_on f x w (λ z m. h z (Memᴰ.tail m)))

-- a map that keeps the order of the entries of w
inversions_map_on : (f : ℕ → ℕ) (w : List ℕ) → ((x y : ℕ) → Memᴰ x w → Memᴰ y w → ltb (f x) (f y) ≡ ltb x y) →
    inversions (map f w) ≡ inversions w
unfolding inversions
inversions_map_on f [] h = refl
inversions_map_on f (x ∷ w) h =
    ap₂ ◌+◌ (smaller_map_on f x w (λ y m. h y x (Memᴰ.tail m) (Memᴰ.head refl)))
    (inversions_map_on f w (λ y z m n. h y z (Memᴰ.tail m) (Memᴰ.tail n)))

-- a map that keeps the order keeps inversions
pub inversions_map : (f : ℕ → ℕ) → ((x y : ℕ) → ltb (f x) (f y) ≡ ltb x y) → (w : List ℕ) → inversions (map f w) ≡ inversions w
inversions_map f h w = inversions_map_on f w (λ x y m n. h x y)

-- Reducing keeps inversions.
pub inversions_reduce : (w : List ℕ) → inversions (reduce w) ≡ inversions w
unfolding reduce
inversions_reduce w = inversions_map_on (under w) w (under_order w)

-- The s - 1 values below a first entry s all come later, and stepping over s keeps the order of the
-- others.
pub inversions_first : (s n : ℕ) (τ : List ℕ) → is_perm τ ≡ true → length τ ≡ n → 1 ≤ s → s ≤ suc n →
    inversions (s ∷ map (bump s) τ) ≡ (s - 1) + inversions τ
unfolding inversions
inversions_first zero n τ e l h k = absurd (omega arith)
inversions_first (suc x) n τ e l h k =
    ap₂ ◌+◌
    (smaller_under x (map (bump (suc x)) τ) ∙ under_bump_below (suc x) x τ (omega arith) ∙ under_perm τ x e (omega arith) ∙ omega arith)
    (inversions_map (bump (suc x)) (bump_keeps (suc x)) τ)

-- Isomorphic words of distinct entries

-- an entry has as many of the later ones below it as its partner has
alike_smaller : (x : ℕ) (u : List ℕ) (y : ℕ) (v : List ℕ) → alike x u y v ≡ true → (Memᴰ x u → ⊥) → (Memᴰ y v → ⊥) →
    smaller x u ≡ smaller y v
unfolding alike smaller
alike_smaller x [] y [] h m n = refl
alike_smaller x [] y (d ∷ v) h m n = absurd (true_not_false (sym h))
alike_smaller x (c ∷ u) y [] h m n = absurd (true_not_false (sym h))
alike_smaller x (c ∷ u) y (d ∷ v) h m n =
    ap₂ (λ (b : Bool) (k : ℕ). cond b (suc k) k)
    (turn (ltb x c) refl (beq_true (ltb x c) (ltb y d) (and_left (beq (ltb x c) (ltb y d)) (alike x u y v) h)))
    (alike_smaller x u y v (and_right (beq (ltb x c) (ltb y d)) (alike x u y v) h) (λ (k : Memᴰ x u). m (Memᴰ.tail k))
    (λ (k : Memᴰ y v). n (Memᴰ.tail k)))
  where
    turn : (b : Bool) → ltb x c ≡ b → ltb x c ≡ ltb y d → ltb c x ≡ ltb d y
    turn true t q = le-ltb c x (omega (arith, ltb-true x c t)) ∙ sym (le-ltb d y (omega (arith, ltb-true y d (sym q ∙ t))))
    turn false t q =
        let xc : x ≡ c → ⊥ = λ r. m (Memᴰ.head r) in
        let yd : y ≡ d → ⊥ = λ r. n (Memᴰ.head r) in
        lt-ltb c x (omega (arith, ltb-false x c t)) ∙ sym (lt-ltb d y (omega (arith, ltb-false y d (sym q ∙ t))))

pub inversions_iso : (u v : List ℕ) → iso u v ≡ true → distinct u ≡ true → distinct v ≡ true → inversions u ≡ inversions v
unfolding iso inversions
inversions_iso [] [] h d e = refl
inversions_iso [] (y ∷ v) h d e = absurd (true_not_false (sym h))
inversions_iso (x ∷ u) [] h d e = absurd (true_not_false (sym h))
inversions_iso (x ∷ u) (y ∷ v) h d e =
    let (m, du) = distinct_out x u d in
    let (n, dv) = distinct_out y v e in
    ap₂ ◌+◌ (alike_smaller x u y v (and_left (alike x u y v) (iso u v) h) m n)
    (inversions_iso u v (and_right (alike x u y v) (iso u v) h) du dv)

-- Sublists and words one after the other

smaller_sublist : (x : ℕ) {u w : List ℕ} → Sublistᴰ u w → smaller x u ≤ smaller x w
unfolding smaller
smaller_sublist x Sublistᴰ.slnil = omega arith
smaller_sublist x (Sublistᴰ.cons {a = a} {l₁ = u} {l₂ = w} d) = step (ltb a x) (smaller_sublist x d)
  where
    step : (b : Bool) → smaller x u ≤ smaller x w → smaller x u ≤ cond b (suc (smaller x w)) (smaller x w)
    step true h = omega arith
    step false h = h
smaller_sublist x (Sublistᴰ.cons-cons {a = a} {b = c} {l₁ = u} {l₂ = w} e d) = rw e (step (ltb c x) (smaller_sublist x d))
  where
    step : (b : Bool) → smaller x u ≤ smaller x w → cond b (suc (smaller x u)) (smaller x u) ≤ cond b (suc (smaller x w)) (smaller x w)
    step true h = omega arith
    step false h = h

-- a sublist has no more inversions
pub inversions_sublist : {u w : List ℕ} → Sublistᴰ u w → inversions u ≤ inversions w
unfolding inversions
inversions_sublist Sublistᴰ.slnil = omega arith
inversions_sublist (Sublistᴰ.cons d) = omega (arith, inversions_sublist d)
inversions_sublist (Sublistᴰ.cons-cons {a = a} {b = c} {l₁ = u} {l₂ = w} e d) =
    omega (arith, smaller_sublist c d, inversions_sublist d, ap (λ (z : ℕ). smaller z u) e)

pub smaller_append : (x : ℕ) (u v : List ℕ) → smaller x (u ++ v) ≡ smaller x u + smaller x v
unfolding smaller
smaller_append x [] v = omega arith
smaller_append x (y ∷ u) v = step (ltb y x) (smaller_append x u v)
  where
    step : (b : Bool) → smaller x (u ++ v) ≡ smaller x u + smaller x v →
        cond b (suc (smaller x (u ++ v))) (smaller x (u ++ v)) ≡ cond b (suc (smaller x u)) (smaller x u) + smaller x v
    step true h = omega arith
    step false h = h

-- there is a figure for each number of inversions that a word of length n can have
pub tally_length : (n : ℕ) (l : List (List ℕ)) → length (tally n l) ≡ figure_count n
unfolding tally
tally_length n l = length-map (row 0 (figure_count n)) (inverted l) ∙ length_row 0 (figure_count n)
