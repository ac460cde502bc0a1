-- Laws of permutations: their recursion by the first entry, the list of them, and reduction.
use Rattle.std.specs.Prelude.{ℕ, zero, suc, ◌*◌, ◌≤◌, ◌<◌, ◌≡◌, refl, ◌⊎◌, Bool, true, false, not, cond, length, leb, eqb}
use Rattle.std.proofs.Common.{arith, sym, ap, ap₂, ◌∙◌, subst, inl, inr, leb-true, le-leb, eqb-true, eq-eqb}
use mathlib.Core.List.{List, [], ◌∷◌, map, map-map, map-id, Memᴰ}
use Rattle.std.proofs.lemmas.List.{length-map}
use Rattle.std.proofs.Math.Dec.{leb-suc-suc}
use Rattle.std.proofs.lemmas.Bool.{lt-leb}
use Rattle.word.specs.Vocabulary.{factorial, unbump}
use Rattle.word.specs.Lists.{all, one_to}
use Rattle.word.specs.Word.{under, reduce, has, distinct, within, is_perm, bump, perms}
use Rattle.word.specs.ListLaws.{and_left, and_right, and_in, not_in, not_out, below_or_not, same_or_not}
use Rattle.word.specs.ListLaws.{any_out, any_in, all_out, all_in}
use Rattle.word.specs.ListLaws.{each_out, each_in, length_each, map_same, length_row, row_out, row_in}
use Rattle.word.specs.IsoLaws.{under_strict}
use Rattle.word.specs.BumpLaws.{Bumped, stays, moves, bumped, bump_injective, bump_misses, bump_positive, bump_at_most, bump_bounds}
use Rattle.word.specs.BumpLaws.{bump_unbump, bump_onto_within}

-- has is membership
pub has_out : (x : ℕ) (w : List ℕ) → has x w ≡ true → Memᴰ x w
unfolding has
has_out x w e = let (y, m, q) = any_out (eqb x) w e in mathlib.Core.List.Memᴰ.cast (eqb-true x y q) m

pub has_in : {x : ℕ} {w : List ℕ} → Memᴰ x w → has x w ≡ true
unfolding has
has_in {x} m = any_in (eqb x) m (eq-eqb x x refl)

-- within as an order
pub within_out : (n x : ℕ) → within n x ≡ true → (1 ≤ x) × (x ≤ n)
unfolding within
within_out n x e = (leb-true 1 x (and_left (leb 1 x) (leb x n) e), leb-true x n (and_right (leb 1 x) (leb x n) e))

pub within_in : (n x : ℕ) → 1 ≤ x → x ≤ n → within n x ≡ true
unfolding within
within_in n x h k = and_in (leb 1 x) (leb x n) (le-leb 1 x h) (le-leb x n k)

-- a list of distinct entries, by its first entry
pub distinct_out : (x : ℕ) (w : List ℕ) → distinct (x ∷ w) ≡ true → (Memᴰ x w → ⊥) × (distinct w ≡ true)
unfolding distinct
distinct_out x w e = (
  λ (m : Memᴰ x w). not_out (has x w) (and_left (not (has x w)) (distinct w) e) (has_in m),
  and_right (not (has x w)) (distinct w) e,
)

pub distinct_in : (x : ℕ) (w : List ℕ) → (Memᴰ x w → ⊥) → distinct w ≡ true → distinct (x ∷ w) ≡ true
unfolding distinct
distinct_in x w h k = and_in (not (has x w)) (distinct w) (not_in (has x w) (λ (e : has x w ≡ true). h (has_out x w e))) k

-- a map that is injective on the entries keeps them distinct
pub distinct_map : (f : ℕ → ℕ) (w : List ℕ) → ((x y : ℕ) → Memᴰ x w → Memᴰ y w → f x ≡ f y → x ≡ y) →
    distinct w ≡ true → distinct (map f w) ≡ true
distinct_map f [] h e = e
distinct_map f (x ∷ w) h e =
    let p = distinct_out x w e in
    let rest : distinct (map f w) ≡ true =
    distinct_map f w (λ (y z : ℕ) (m : Memᴰ y w) (n : Memᴰ z w). h y z (mathlib.Core.List.Memᴰ.tail m) (mathlib.Core.List.Memᴰ.tail n))
    p.1 in
    let fresh : Memᴰ (f x) (map f w) → ⊥ =
    λ (m : Memᴰ (f x) (map f w)). let r = mathlib.Core.List.Memᴰ.of_map f w m in
    p.0 (mathlib.Core.List.Memᴰ.cast (h x r.0 (mathlib.Core.List.Memᴰ.head refl) (mathlib.Core.List.Memᴰ.tail r.1) (sym r.2)) r.1) in
    distinct_in (f x) (map f w) fresh rest

-- a permutation: its entries are 1 to its length, and they are distinct
pub perm_bounds : (w : List ℕ) {x : ℕ} → is_perm w ≡ true → Memᴰ x w → (1 ≤ x) × (x ≤ length w)
unfolding is_perm
perm_bounds w {x} e m = within_out (length w) x (all_out (within (length w)) m (and_left (all (within (length w)) w) (distinct w) e))

pub perm_distinct : (w : List ℕ) → is_perm w ≡ true → distinct w ≡ true
unfolding is_perm
perm_distinct w e = and_right (all (within (length w)) w) (distinct w) e

pub perm_in : (w : List ℕ) → ((x : ℕ) → Memᴰ x w → (1 ≤ x) × (x ≤ length w)) → distinct w ≡ true → is_perm w ≡ true
unfolding is_perm
perm_in w h k = and_in (all (within (length w)) w) (distinct w)
    (all_in (within (length w)) w (λ (x : ℕ) (m : Memᴰ x w). within_in (length w) x (h x m).0 (h x m).1)) k

-- The recursion of permutations: a first entry a, and a permutation with its entries stepped over
-- a.
pub perm_cons : (a : ℕ) (s : List ℕ) → is_perm s ≡ true → 1 ≤ a → a ≤ suc (length s) → is_perm (a ∷ map (bump a) s) ≡ true
perm_cons a s e h k = perm_in (a ∷ map (bump a) s) bounds (distinct_in a (map (bump a) s) fresh rest)
  where
    size : length (map (bump a) s) ≡ length s
    size = length-map s (bump a)

    inside : {x : ℕ} → (x ≡ a) ⊎ Memᴰ x (map (bump a) s) → (1 ≤ x) × (x ≤ suc (length (map (bump a) s)))
    inside (inl q) = omega (arith, size)
    inside (inr m) =
        let r = mathlib.Core.List.Memᴰ.of_map (bump a) s m in
        let b = perm_bounds s e r.1 in
        let c = bump_bounds a r.0 (length s) b.0 b.1 in omega (arith, size, r.2)

    bounds : (x : ℕ) → Memᴰ x (a ∷ map (bump a) s) → (1 ≤ x) × (x ≤ suc (length (map (bump a) s)))
    bounds x m = inside (mathlib.Core.List.Memᴰ.cases_cons m)

    fresh : Memᴰ a (map (bump a) s) → ⊥
    fresh m = let r = mathlib.Core.List.Memᴰ.of_map (bump a) s m in bump_misses a r.0 r.2

    rest : distinct (map (bump a) s) ≡ true
    rest = distinct_map (bump a) s (λ (x y : ℕ) (m : Memᴰ x s) (n : Memᴰ y s). bump_injective a x y) (perm_distinct s e)

pub perm_uncons : (a : ℕ) (r : List ℕ) → is_perm (a ∷ r) ≡ true →
    (s : List ℕ) × (is_perm s ≡ true) × (length s ≡ length r) × (r ≡ map (bump a) s) × (1 ≤ a) × (a ≤ suc (length r))
perm_uncons a r e = (map (unbump a) r, perm_in (map (unbump a) r) bounds rest, size, sym back, low, high)
  where
    parts : (Memᴰ a r → ⊥) × (distinct r ≡ true)
    parts = distinct_out a r (perm_distinct (a ∷ r) e)

    size : length (map (unbump a) r) ≡ length r
    size = length-map r (unbump a)

    low : 1 ≤ a
    low = (perm_bounds (a ∷ r) e (mathlib.Core.List.Memᴰ.head refl)).0

    high : a ≤ suc (length r)
    high = (perm_bounds (a ∷ r) e (mathlib.Core.List.Memᴰ.head refl)).1

    over : (y : ℕ) → Memᴰ y r → bump a (unbump a y) ≡ y
    over y m = bump_unbump a y (λ (q : y ≡ a). parts.0 (mathlib.Core.List.Memᴰ.cast (sym q) m))

    back : map (bump a) (map (unbump a) r) ≡ r
    back = map-map (bump a) (unbump a) r ∙ map_same (λ y. bump a (unbump a y)) (λ y. y) r over ∙ map-id r

    bounds : (x : ℕ) → Memᴰ x (map (unbump a) r) → (1 ≤ x) × (x ≤ length (map (unbump a) r))
    bounds x m =
        let t = mathlib.Core.List.Memᴰ.of_map (unbump a) r m in
        let b = perm_bounds (a ∷ r) e (mathlib.Core.List.Memᴰ.tail t.1) in
        let q : bump a x ≡ t.0 = ap (bump a) (sym t.2) ∙ over t.0 t.1 in
        let l : 1 ≤ x = bump_positive a x low (omega arith) in
        let u : x ≤ length r = bump_at_most a x (length r) high (omega arith) in
        omega (arith, size)

    rest : distinct (map (unbump a) r) ≡ true
    rest = distinct_map (unbump a) r
        (λ (x y : ℕ) (m : Memᴰ x r) (n : Memᴰ y r) (q : unbump a x ≡ unbump a y). sym (over x m) ∙
        ap (bump a) q ∙ over y n) parts.1

-- what holds of the empty word, and of a ∷ map (bump a) s where it holds of s, holds of every
-- permutation
pub perm_induction : (P : List ℕ → Type 0) → P [] →
    ((a : ℕ) (s : List ℕ) → is_perm s ≡ true → 1 ≤ a → a ≤ suc (length s) → P s → P (a ∷ map (bump a) s)) →
    (w : List ℕ) → is_perm w ≡ true → P w
perm_induction P base more w e = go (length w) w refl e
  where
    go : (n : ℕ) (w : List ℕ) → length w ≡ n → is_perm w ≡ true → P w
    go zero [] q e = base
    go zero (a ∷ r) q e = absurd (omega arith)
    go (suc n) [] q e = absurd (omega arith)
    go (suc n) (a ∷ r) q e =
        let (s, p, l, t, low, high) = perm_uncons a r e in
        subst (λ (v : List ℕ). P (a ∷ v)) (sym t) (more a s p low (omega arith) (go n s (omega arith) p))

-- a permutation lists every number from 1 to its length
pub perm_has : (w : List ℕ) (x : ℕ) → is_perm w ≡ true → 1 ≤ x → x ≤ length w → has x w ≡ true
perm_has w x e h k = has_in (perm_induction Full (λ (y : ℕ) (p : 1 ≤ y) (q : y ≤ 0). absurd (omega arith)) more w e x h k)
  where
    Full : List ℕ → Type 0
    Full w = (x : ℕ) → 1 ≤ x → x ≤ length w → Memᴰ x w

    other : (a : ℕ) (s : List ℕ) → Full s → 1 ≤ a → a ≤ suc (length s) → (y : ℕ) → 1 ≤ y → y ≤ suc (length s) →
        (y ≡ a) ⊎ (y ≡ a → ⊥) → Memᴰ y (a ∷ map (bump a) s)
    other a s below p q y h k (inl e) = mathlib.Core.List.Memᴰ.head e
    other a s below p q y h k (inr n) =
        let (x, e, l, u) = bump_onto_within a y (length s) n p q h k in
        mathlib.Core.List.Memᴰ.tail (mathlib.Core.List.Memᴰ.cast (sym e) (mathlib.Core.List.Memᴰ.map (bump a) (below x l u)))

    more : (a : ℕ) (s : List ℕ) → is_perm s ≡ true → 1 ≤ a → a ≤ suc (length s) → Full s → Full (a ∷ map (bump a) s)
    more a s e p q below y h k = other a s below p q y h (omega (arith, length-map s (bump a))) (same_or_not y a)

-- the words of the list perms n are the permutations of length n
pub perms_are : (n : ℕ) {w : List ℕ} → Memᴰ w (perms n) → (is_perm w ≡ true) × (length w ≡ n)
unfolding perms is_perm
perms_are zero m = let q = mathlib.Core.List.Memᴰ.eq_of_singleton m in (ap is_perm q, ap length q)
perms_are (suc n) {w} m =
    let (a, i, t) = each_out (λ a. map (λ s. a ∷ map (bump a) s) (perms n)) (one_to (suc n)) m in
    let (s, j, q) = mathlib.Core.List.Memᴰ.of_map (λ s. a ∷ map (bump a) s) (perms n) t in
    let (low, high) = row_out 1 (suc n) i in
    let (p, l) = perms_are n j in
    let r : length (map (bump a) s) ≡ n = length-map s (bump a) ∙ l in
    (rw (← q) (perm_cons a s p low (omega arith)), rw (← q) (ap suc r))

pub perms_all : (n : ℕ) (w : List ℕ) → is_perm w ≡ true → length w ≡ n → Memᴰ w (perms n)
unfolding perms
perms_all n w e l = rw (← l) (perm_induction (λ w. Memᴰ w (perms (length w))) (mathlib.Core.List.Memᴰ.head refl) more w e)
  where
    more : (a : ℕ) (s : List ℕ) → is_perm s ≡ true → 1 ≤ a → a ≤ suc (length s) → Memᴰ s (perms (length s)) →
        Memᴰ (a ∷ map (bump a) s) (perms (suc (length (map (bump a) s))))
    more a s e p q m = subst (λ n. Memᴰ (a ∷ map (bump a) s) (perms (suc n))) (sym (length-map s (bump a)))
        (each_in (λ a. map (λ s. a ∷ map (bump a) s) (perms (length s)))
        (row_in 1 (suc (length s)) a p (omega arith)) (mathlib.Core.List.Memᴰ.map (λ s. a ∷ map (bump a) s) m))

pub length_perms : (n : ℕ) → length (perms n) ≡ factorial n
unfolding perms factorial
length_perms zero = refl
length_perms (suc n) =
    length_each (λ a. map (λ s. a ∷ map (bump a) s) (perms n)) (factorial n) (one_to (suc n))
    (λ a. length-map (perms n) (λ s. a ∷ map (bump a) s) ∙ length_perms n) ∙
    ap (λ k. k * factorial n) (length_row 1 (suc n))

-- how many entries are at most x, in a word stepped over a
pub under_bump_below : (a x : ℕ) (s : List ℕ) → x < a → under (map (bump a) s) x ≡ under s x
unfolding under
under_bump_below a x [] h = refl
under_bump_below a x (y ∷ s) h = ap₂ (λ b n. cond b (suc n) n) (step (bumped a y)) (under_bump_below a x s h)
  where
    step : Bumped a y → leb (bump a y) x ≡ leb y x
    step (stays p q) = rw q
    step (moves p q) = rw q (lt-leb (suc y) x (omega arith) ∙ sym (lt-leb y x (omega arith)))

pub under_bump_above : (a x : ℕ) (s : List ℕ) → a ≤ suc x → under (map (bump a) s) (suc x) ≡ under s x
unfolding under
under_bump_above a x [] h = refl
under_bump_above a x (y ∷ s) h = ap₂ (λ b n. cond b (suc n) n) (step (bumped a y)) (under_bump_above a x s h)
  where
    step : Bumped a y → leb (bump a y) (suc x) ≡ leb y x
    step (stays p q) = rw q (le-leb y (suc x) (omega arith) ∙ sym (le-leb y x (omega arith)))
    step (moves p q) = rw q (leb-suc-suc y x)

-- in a permutation x entries are at most x
pub under_perm : (w : List ℕ) (x : ℕ) → is_perm w ≡ true → x ≤ length w → under w x ≡ x
unfolding under
under_perm w x e h = perm_induction (λ w. (x : ℕ) → x ≤ length w → under w x ≡ x) (λ (y : ℕ) (p : y ≤ 0). omega arith) more w e x h
  where
    split : (a : ℕ) (s : List ℕ) → ((x : ℕ) → x ≤ length s → under s x ≡ x) → 1 ≤ a → a ≤ suc (length s) → (x : ℕ) → x ≤ suc (length s) →
        (x < a) ⊎ (a ≤ x) → under (a ∷ map (bump a) s) x ≡ x
    split a s below p q x k (inl h) = rw (lt-leb a x h) (under_bump_below a x s h ∙ below x (omega arith))
    split a s below p q zero k (inr h) = absurd (omega arith)
    split a s below p q (suc x) k (inr h) = rw (le-leb a (suc x) h) (ap suc (under_bump_above a x s h ∙ below x (omega arith)))

    more : (a : ℕ) (s : List ℕ) → is_perm s ≡ true → 1 ≤ a → a ≤ suc (length s) → ((x : ℕ) → x ≤ length s → under s x ≡ x) →
        (x : ℕ) → x ≤ suc (length (map (bump a) s)) → under (a ∷ map (bump a) s) x ≡ x
    more a s e p q below x k = split a s below p q x (omega (arith, length-map s (bump a))) (below_or_not x a)

-- reduction does not change a permutation
pub reduce_perm : (w : List ℕ) → is_perm w ≡ true → reduce w ≡ w
unfolding reduce
reduce_perm w e = map_same (under w) (λ x. x) w (λ (x : ℕ) (m : Memᴰ x w). under_perm w x e (perm_bounds w e m).1) ∙ map-id w

pub length_reduce : (w : List ℕ) → length (reduce w) ≡ length w
unfolding reduce
length_reduce w = length-map w (under w)

-- how many entries are at most x: at most all of them, and one or more for an entry
pub under_at_most : (u : List ℕ) (x : ℕ) → under u x ≤ length u
unfolding under
under_at_most [] x = omega arith
under_at_most (y ∷ u) x = step (leb y x) (under_at_most u x)
  where
    step : (b : Bool) → under u x ≤ length u → cond b (suc (under u x)) (under u x) ≤ suc (length u)
    step true h = omega arith
    step false h = omega arith

pub under_positive : {x : ℕ} {u : List ℕ} → Memᴰ x u → 1 ≤ under u x
unfolding under
under_positive {x = x} (mathlib.Core.List.Memᴰ.head {x = z} {xs = u} q) = rw (le-leb z x (omega arith)) (omega arith)
under_positive {x = x} (mathlib.Core.List.Memᴰ.tail {x = z} {xs = u} m) = step (leb z x) (under_positive m)
  where
    step : (b : Bool) → 1 ≤ under u x → 1 ≤ cond b (suc (under u x)) (under u x)
    step true h = omega arith
    step false h = h

pub under_injective : (u : List ℕ) (x y : ℕ) → Memᴰ x u → Memᴰ y u → under u x ≡ under u y → x ≡ y
under_injective u x y m n e = step (below_or_not x y) (below_or_not y x)
  where
    step : (x < y) ⊎ (y ≤ x) → (y < x) ⊎ (x ≤ y) → x ≡ y
    step (inl h) k = let t = under_strict u x y h n in absurd (omega arith)
    step (inr h) (inl k) = let t = under_strict u y x k m in absurd (omega arith)
    step (inr h) (inr k) = omega arith

-- a word of distinct numbers reduces to a permutation
pub perm_reduce : (w : List ℕ) → distinct w ≡ true → is_perm (reduce w) ≡ true
unfolding reduce
perm_reduce w e = perm_in (map (under w) w) bounds (distinct_map (under w) w (under_injective w) e)
  where
    bounds : (x : ℕ) → Memᴰ x (map (under w) w) → (1 ≤ x) × (x ≤ length (map (under w) w))
    bounds x m =
        let (y, n, q) = mathlib.Core.List.Memᴰ.of_map (under w) w m in
        let l = under_positive n in
        let u = under_at_most w y in
        omega (arith, length-map w (under w))
