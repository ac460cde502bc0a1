-- Laws of sorting and of spacings: what a sorted list holds, and how it is recovered from its
-- spacing.
use Rattle.std.specs.Prelude.{ℕ, zero, suc, ◌+◌, ◌-◌, ◌≤◌, ◌<◌, ◌≡◌, refl, ◌⊎◌, Bool, true, false, ◌||◌, cond, length, leb, eqb}
use Rattle.std.proofs.Common.{zero-add, arith, sym, ap, ap₂, ◌∙◌, inl, inr, le-leb}
use mathlib.Core.List.{List, [], ◌∷◌, map, map-map, Memᴰ}
use Rattle.std.proofs.lemmas.Bool.{lt-leb}
use Rattle.word.specs.Lists.{row, one_to}
use Rattle.word.specs.Word.{under, has, distinct, is_perm}
use Rattle.word.specs.ListLaws.{below_or_not, map_same}
use Rattle.word.specs.PermLaws.{has_out, has_in, distinct_out, perm_bounds, perm_distinct}
use Rattle.cell.specs.Cell.{total, insert, sort, between, spacing}
use Rattle.cell.specs.Built.{val}

-- every entry is above the one before it, and the first is above a
abbrev pub Up : ℕ → List ℕ → Type 0
Up a [] = Unit {0}
Up a (c ∷ u) = (a < c) × Up c u

-- the length, the members and the counts of a sorted list

length_insert : (x : ℕ) (u : List ℕ) → length (insert x u) ≡ suc (length u)
unfolding insert
length_insert x [] = refl
length_insert x (y ∷ u) = go (leb x y) (length_insert x u)
  where
    go : (b : Bool) → length (insert x u) ≡ suc (length u) → length (cond b (x ∷ (y ∷ u)) (y ∷ insert x u)) ≡ suc (suc (length u))
    go true ih = refl
    go false ih = ap suc ih

pub length_sort : (u : List ℕ) → length (sort u) ≡ length u
unfolding sort
length_sort [] = refl
length_sort (x ∷ u) = length_insert x (sort u) ∙ ap suc (length_sort u)

or_swap : (a b c : Bool) → a || (b || c) ≡ b || (a || c)
or_swap true true c = refl
or_swap true false c = refl
or_swap false true c = refl
or_swap false false c = refl

has_insert : (y x : ℕ) (u : List ℕ) → has y (insert x u) ≡ eqb y x || has y u
unfolding has insert
has_insert y x [] = refl
has_insert y x (z ∷ u) = go (leb x z) (has_insert y x u)
  where
    go : (b : Bool) → has y (insert x u) ≡ eqb y x || has y u →
        has y (cond b (x ∷ (z ∷ u)) (z ∷ insert x u)) ≡ eqb y x || (eqb y z || has y u)
    go true ih = refl
    go false ih = ap (λ (t : Bool). eqb y z || t) ih ∙ or_swap (eqb y z) (eqb y x) (has y u)

has_sort : (y : ℕ) (u : List ℕ) → has y (sort u) ≡ has y u
unfolding sort has
has_sort y [] = refl
has_sort y (x ∷ u) = has_insert y x (sort u) ∙ ap (λ (t : Bool). eqb y x || t) (has_sort y u)

pub sort_out : (u : List ℕ) {y : ℕ} → Memᴰ y (sort u) → Memᴰ y u
sort_out u {y} m = has_out y u (sym (has_sort y u) ∙ has_in m)

pub sort_in : (u : List ℕ) {y : ℕ} → Memᴰ y u → Memᴰ y (sort u)
sort_in u {y} m = has_out y (sort u) (has_sort y u ∙ has_in m)

under_swap : (a b : Bool) (n : ℕ) → cond a (suc (cond b (suc n) n)) (cond b (suc n) n) ≡ cond b (suc (cond a (suc n) n)) (cond a (suc n) n)
under_swap true true n = refl
under_swap true false n = refl
under_swap false true n = refl
under_swap false false n = refl

under_insert : (y x : ℕ) (u : List ℕ) → under (insert x u) y ≡ cond (leb x y) (suc (under u y)) (under u y)
unfolding under insert
under_insert y x [] = refl
under_insert y x (z ∷ u) = go (leb x z) (under_insert y x u)
  where
    go : (b : Bool) → under (insert x u) y ≡ cond (leb x y) (suc (under u y)) (under u y) →
        under (cond b (x ∷ (z ∷ u)) (z ∷ insert x u)) y ≡ under (x ∷ (z ∷ u)) y
    go true ih = refl
    go false ih = ap (λ (n : ℕ). cond (leb z y) (suc n) n) ih ∙ under_swap (leb z y) (leb x y) (under u y)

pub under_sort : (y : ℕ) (u : List ℕ) → under (sort u) y ≡ under u y
unfolding sort under
under_sort y [] = refl
under_sort y (x ∷ u) = under_insert y x (sort u) ∙ ap (λ (n : ℕ). cond (leb x y) (suc n) n) (under_sort y u)

-- a sorted list of distinct numbers goes up
insert_up : (a x : ℕ) (u : List ℕ) → Up a u → a < x → (Memᴰ x u → ⊥) → Up a (insert x u)
unfolding insert
insert_up a x [] h k n = (k, tt)
insert_up a x (z ∷ u) h k n = go (below_or_not z x) (λ (l : z < x). insert_up z x u h.1 l (λ (m : Memᴰ x u). n (Memᴰ.tail m)))
  where
    go : (z < x) ⊎ (x ≤ z) → (z < x → Up z (insert x u)) → Up a (cond (leb x z) (x ∷ (z ∷ u)) (z ∷ insert x u))
    go (inl l) ih = rw (lt-leb x z l) (h.0, ih l)
    go (inr l) ih =
        let apart : x ≡ z → ⊥ = λ (e : x ≡ z). n (Memᴰ.head e) in
        let below : x < z = omega arith in
        rw (le-leb x z l) (k, (below, h.1))

pub sort_up : (a : ℕ) (u : List ℕ) → distinct u ≡ true → ((x : ℕ) → Memᴰ x u → a < x) → Up a (sort u)
unfolding sort
sort_up a [] e h = tt
sort_up a (x ∷ u) e h =
    let d = distinct_out x u e in
    insert_up a x (sort u) (sort_up a u d.1 (λ (y : ℕ) (m : Memᴰ y u). h y (Memᴰ.tail m))) (h x (Memᴰ.head refl))
    (λ (m : Memᴰ x (sort u)). d.0 (sort_out u m))

-- a list that goes up from a to at most a and its length is a row
up_room : (a m : ℕ) (u : List ℕ) → Up a u → a ≤ m → ((x : ℕ) → Memᴰ x u → x ≤ m) → a + length u ≤ m
up_room a m [] h k f = omega arith
up_room a m (c ∷ u) h k f =
    let r = up_room c m u h.1 (f c (Memᴰ.head refl)) (λ (x : ℕ) (n : Memᴰ x u). f x (Memᴰ.tail n)) in
    omega arith

pub up_row : (a : ℕ) (u : List ℕ) → Up a u → ((x : ℕ) → Memᴰ x u → x ≤ a + length u) → u ≡ row (suc a) (length u)
up_row a [] h f = refl
up_row a (c ∷ u) h f =
    let g : (x : ℕ) → Memᴰ x u → x ≤ a + suc (length u) = λ (x : ℕ) (n : Memᴰ x u). f x (Memᴰ.tail n) in
    let r = up_room c (a + suc (length u)) u h.1 (f c (Memᴰ.head refl)) g in
    let e : c ≡ suc a = omega arith in
    ap₂ ◌∷◌ e (up_row c u h.1 (λ (x : ℕ) (n : Memᴰ x u). omega (arith, g x n)) ∙ ap (λ (b : ℕ). row (suc b) (length u)) e)

pub sort_perm : (w : List ℕ) → is_perm w ≡ true → sort w ≡ one_to (length w)
sort_perm w e =
    up_row 0 (sort w) (sort_up 0 w (perm_distinct w e) (λ (x : ℕ) (m : Memᴰ x w). (perm_bounds w e m).0))
    (λ (x : ℕ) (m : Memᴰ x (sort w)). let b = perm_bounds w e (sort_out w m) in omega (arith, length_sort w)) ∙
    ap (row 1) (length_sort w)

-- spacings

pub length_between : (a : ℕ) (u : List ℕ) (b : ℕ) → length (between a u b) ≡ suc (length u)
unfolding between
length_between a [] b = refl
length_between a (c ∷ u) b = ap suc (length_between c u b)

pub length_spacing : (n : ℕ) (u : List ℕ) → length (spacing n u) ≡ suc (length u)
unfolding spacing
length_spacing n u = length_between 0 (sort u) (suc n) ∙ ap suc (length_sort u)

pub row_suc : (a n : ℕ) → row (suc a) n ≡ map suc (row a n)
row_suc a zero = refl
row_suc a (suc n) = ap (λ (r : List ℕ). suc a ∷ r) (row_suc (suc a) n)

-- the prefix values behind the first component, counted from c: the values of the other components,
-- counted from above it
shift : (c d x k : ℕ) (g : List ℕ) → d ≡ suc (c + x) → map (λ i. c + val (x ∷ g) i) (row 2 k) ≡ map (λ i. d + val g i) (one_to k)
unfolding val
shift c d x k g e =
    ap (map (λ i. c + val (x ∷ g) i)) (row_suc 1 k) ∙ map-map (λ i. c + val (x ∷ g) i) suc (one_to k) ∙
    map_same (λ i. c + val (x ∷ g) (suc i)) (λ i. d + val g i) (one_to k) (λ (i : ℕ) (m : Memᴰ i (one_to k)). omega arith)

between_values : (c k b : ℕ) (g : List ℕ) → length g ≡ suc k → b ≡ suc (c + (k + total g)) →
    between c (map (λ i. c + val g i) (one_to k)) b ≡ g
unfolding between val
between_values c k b [] l e = absurd (omega arith)
between_values c zero b (x ∷ []) l e = let h : b - c - 1 ≡ x = omega arith in ap (λ (t : ℕ). t ∷ []) h
between_values c (suc k) b (x ∷ []) l e = absurd (omega arith)
between_values c zero b (x ∷ (y ∷ g)) l e = absurd (omega arith)
between_values c (suc k) b (x ∷ (y ∷ g)) l e =
    let d : ℕ = c + val (x ∷ (y ∷ g)) 1 in
    let h : d - c - 1 ≡ x = omega arith in
    ap₂ ◌∷◌ h (ap (λ (u : List ℕ). between d u b) (shift c d x k (y ∷ g) (omega arith)) ∙
    between_values d k b (y ∷ g) (omega arith) (omega arith))

values_between : (c b : ℕ) (u : List ℕ) → Up c u → u ≡ map (λ i. c + val (between c u b) i) (one_to (length u))
unfolding between val
values_between c b [] h = refl
values_between c b (d ∷ u) h =
    let below = h.0 in
    let e : d ≡ c + val ((d - c - 1) ∷ between d u b) 1 = omega arith in
    ap₂ ◌∷◌ e (values_between d b u h.1 ∙ sym (shift c d (d - c - 1) (length u) (between d u b) (omega arith)))

from_zero : (g : List ℕ) (l : List ℕ) → map (λ i. 0 + val g i) l ≡ map (val g) l
from_zero g l = map_same (λ i. 0 + val g i) (val g) l (λ i m. zero-add (val g i))

-- the spacing of the prefix values in their order, and the prefix values in their order from the
-- spacing
pub between_val : (k : ℕ) (g : List ℕ) → length g ≡ suc k → between 0 (map (val g) (one_to k)) (suc (k + total g)) ≡ g
between_val k g l =
    ap (λ (u : List ℕ). between 0 u (suc (k + total g))) (sym (from_zero g (one_to k))) ∙
    between_values 0 k (suc (k + total g)) g l (omega arith)

pub val_spacing : (n : ℕ) (u : List ℕ) → Up 0 (sort u) → sort u ≡ map (val (spacing n u)) (one_to (length u))
unfolding spacing
val_spacing n u h =
    values_between 0 (suc n) (sort u) h ∙ from_zero (between 0 (sort u) (suc n)) (one_to (length (sort u))) ∙
    ap (λ (k : ℕ). map (val (between 0 (sort u) (suc n))) (one_to k)) (length_sort u)
