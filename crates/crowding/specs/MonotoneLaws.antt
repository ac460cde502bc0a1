-- Laws of monotone lists: they are kept by sublists and grow at both ends, and two of one direction
-- and length are isomorphic.
use Rattle.std.specs.Prelude.{ℕ, zero, suc, ◌≤◌, ◌<◌, ◌≡◌, refl, ◌⊎◌, Bool, true, false, ◌&&◌, length, take, ltb}
use Rattle.std.proofs.Common.{sym, ◌∙◌, inl, inr, arith, length-take-le, ltb-true, lt-ltb, le-ltb}
use Rattle.std.specs.Bool.{beq}
use mathlib.Core.List.{List, [], ◌∷◌, ◌++◌, Memᴰ}
use mathlib.Core.List.Sublistᴰ
use mathlib.Core.List.{Sublistᴰ}
use Rattle.word.specs.Lists.{all}
use Rattle.word.specs.Word.{alike, iso, avoids}
use Rattle.word.specs.ListLaws.{true_not_false, and_left, and_right, and_in, beq_refl, same_test, below_or_not}
use Rattle.word.specs.ListLaws.{all_out, all_in, all_append, sublist_mem}
use Rattle.word.specs.ContainsLaws.{contains_in, avoids_none}
use Rattle.crowding.specs.Crowding.{precedes, monotone}

-- precedes

pub precedes_trans : (up : Bool) (x y z : ℕ) → precedes up x y ≡ true → precedes up y z ≡ true → precedes up x z ≡ true
unfolding precedes
precedes_trans true x y z p q = lt-ltb x z (omega (arith, ltb-true x y p, ltb-true y z q))
precedes_trans false x y z p q = lt-ltb z x (omega (arith, ltb-true y x p, ltb-true z y q))

-- an entry that precedes another is below it just where the direction is up
pub precedes_up : (up : Bool) (x y : ℕ) → precedes up x y ≡ true → ltb x y ≡ up
unfolding precedes
precedes_up true x y p = p
precedes_up false x y p = le-ltb x y (omega (arith, ltb-true y x p))

-- monotone

pub monotone_out : (up : Bool) (x : ℕ) (w : List ℕ) → monotone up (x ∷ w) ≡ true → (all (precedes up x) w ≡ true) × (monotone up w ≡ true)
unfolding monotone
monotone_out up x w e = (and_left (all (precedes up x) w) (monotone up w) e, and_right (all (precedes up x) w) (monotone up w) e)

pub monotone_in : (up : Bool) (x : ℕ) (w : List ℕ) → all (precedes up x) w ≡ true → monotone up w ≡ true → monotone up (x ∷ w) ≡ true
unfolding monotone
monotone_in up x w p q = and_in (all (precedes up x) w) (monotone up w) p q

-- an entry that precedes the first of a monotone list precedes all of it
pub precedes_all : (up : Bool) (x y : ℕ) (w : List ℕ) → precedes up x y ≡ true → monotone up (y ∷ w) ≡ true →
    all (precedes up x) (y ∷ w) ≡ true
precedes_all up x y w p m =
    let (h, k) = monotone_out up y w m in
    and_in (precedes up x y) (all (precedes up x) w) p
    (all_in (precedes up x) w (λ (z : ℕ) (i : Memᴰ z w). precedes_trans up x y z p (all_out (precedes up y) i h)))

-- so a list is monotone if each entry precedes the next one
pub monotone_next : (up : Bool) (x y : ℕ) (w : List ℕ) → monotone up (x ∷ (y ∷ w)) ≡ precedes up x y && monotone up (y ∷ w)
monotone_next up x y w = same_test (monotone up (x ∷ (y ∷ w))) (precedes up x y && monotone up (y ∷ w)) there back
  where
    there : monotone up (x ∷ (y ∷ w)) ≡ true → precedes up x y && monotone up (y ∷ w) ≡ true
    there e = let (h, k) = monotone_out up x (y ∷ w) e in
        and_in (precedes up x y) (monotone up (y ∷ w)) (and_left (precedes up x y) (all (precedes up x) w) h) k

    back : precedes up x y && monotone up (y ∷ w) ≡ true → monotone up (x ∷ (y ∷ w)) ≡ true
    back e =
        let p = and_left (precedes up x y) (monotone up (y ∷ w)) e in
        let m = and_right (precedes up x y) (monotone up (y ∷ w)) e in
        monotone_in up x (y ∷ w) (precedes_all up x y w p m) m

-- two monotone lists, the entries of the first before those of the second
pub monotone_append : (up : Bool) (s t : List ℕ) → monotone up s ≡ true → monotone up t ≡ true →
    ((x y : ℕ) → Memᴰ x s → Memᴰ y t → precedes up x y ≡ true) → monotone up (s ++ t) ≡ true
monotone_append up [] t p q h = q
monotone_append up (x ∷ s) t p q h =
    let (a, m) = monotone_out up x s p in
    monotone_in up x (s ++ t)
    (all_append (precedes up x) s t a (all_in (precedes up x) t (λ (y : ℕ) (j : Memᴰ y t). h x y (Memᴰ.head refl) j)))
    (monotone_append up s t m q (λ (z y : ℕ) (i : Memᴰ z s) (j : Memᴰ y t). h z y (Memᴰ.tail i) j))

-- the front of a monotone list
front_sublist : (k : ℕ) (s : List ℕ) → Sublistᴰ (take k s) s
front_sublist zero s = Sublistᴰ.nil-sublist s
front_sublist (suc k) [] = Sublistᴰ.slnil
front_sublist (suc k) (x ∷ s) = Sublistᴰ.cons-cons refl (front_sublist k s)

pub monotone_sublist : (up : Bool) {s w : List ℕ} → Sublistᴰ s w → monotone up w ≡ true → monotone up s ≡ true
monotone_sublist up Sublistᴰ.slnil e = e
monotone_sublist up (Sublistᴰ.cons {a = x} {l₂ = w} d) e = monotone_sublist up d (monotone_out up x w e).1
monotone_sublist up (Sublistᴰ.cons-cons {a = x} {b = y} {l₁ = s} {l₂ = w} q d) e =
    let (h, k) = monotone_out up y w e in
    monotone_in up x s
    (all_in (precedes up x) s (λ (z : ℕ) (i : Memᴰ z s). rw q (all_out (precedes up y) (sublist_mem d i) h)))
    (monotone_sublist up d k)

-- two monotone lists of one direction and of the same length compare alike
alike_monotone : (up : Bool) (a : ℕ) (u : List ℕ) (b : ℕ) (v : List ℕ) → length u ≡ length v → all (precedes up a) u ≡ true →
    all (precedes up b) v ≡ true → alike a u b v ≡ true
unfolding alike
alike_monotone up a [] b [] l p q = refl
alike_monotone up a [] b (y ∷ v) l p q = absurd (omega arith)
alike_monotone up a (x ∷ u) b [] l p q = absurd (omega arith)
alike_monotone up a (x ∷ u) b (y ∷ v) l p q =
    let e : ltb a x ≡ up = precedes_up up a x (and_left (precedes up a x) (all (precedes up a) u) p) in
    let f : ltb b y ≡ up = precedes_up up b y (and_left (precedes up b y) (all (precedes up b) v) q) in
    and_in (beq (ltb a x) (ltb b y)) (alike a u b v) (rw (e, f) (beq_refl up))
    (alike_monotone up a u b v (omega arith) (and_right (precedes up a x) (all (precedes up a) u) p)
    (and_right (precedes up b y) (all (precedes up b) v) q))

pub iso_monotone : (up : Bool) (u v : List ℕ) → length u ≡ length v → monotone up u ≡ true → monotone up v ≡ true → iso u v ≡ true
unfolding iso
iso_monotone up [] [] l p q = refl
iso_monotone up [] (y ∷ v) l p q = absurd (omega arith)
iso_monotone up (x ∷ u) [] l p q = absurd (omega arith)
iso_monotone up (x ∷ u) (y ∷ v) l p q =
    let (a, m) = monotone_out up x u p in
    let (b, n) = monotone_out up y v q in
    and_in (alike x u y v) (iso u v) (alike_monotone up x u y v (omega arith) a b) (iso_monotone up u v (omega arith) m n)

-- an avoider has only monotone sublists that are shorter than a monotone pattern
pub avoids_monotone : (up : Bool) (P : List (List ℕ)) (w : List ℕ) {β s : List ℕ} → Memᴰ β P → monotone up β ≡ true →
    avoids P w ≡ true → Sublistᴰ s w → monotone up s ≡ true → length s < length β
avoids_monotone up P w {β} {s} m p a d q = go (below_or_not (length s) (length β))
  where
    go : (length s < length β) ⊎ (length β ≤ length s) → length s < length β
    go (inl h) = h
    go (inr h) =
        let t = front_sublist (length β) s in
        let i = iso_monotone up β (take (length β) s) (sym (length-take-le (length β) s h)) p (monotone_sublist up t q) in
        absurd (true_not_false (sym (contains_in β (Sublistᴰ.trans t d) i) ∙ avoids_none P w m a))
