-- Laws of order isomorphism: it is an equivalence, it is decided entry by entry, and maps that keep
-- the order keep it.
use Rattle.std.specs.Prelude.{ℕ, suc, ◌≤◌, ◌<◌, ◌≡◌, refl, Bool, true, false, ◌&&◌, cond, length, leb, ltb}
use Rattle.std.proofs.Common.{sym, ap, ◌∙◌, ap₂, arith, ltb-true, ltb-false, leb-true, leb-false, lt-ltb, le-ltb}
use Rattle.std.specs.Bool.{beq}
use Rattle.std.proofs.Math.Bool.{and-false, and-true, and_assoc}
use mathlib.Core.List.{List, [], ◌∷◌, ◌++◌, map, Memᴰ}
use Rattle.word.specs.Vocabulary.{fits}
use Rattle.word.specs.Word.{alike, iso, under, reduce}
use Rattle.word.specs.ListLaws.{and_left, and_right, and_in, and_middle, beq_refl, beq_comm, beq_true, true_not_false}

-- alike, of which iso is made

pub alike_refl : (a : ℕ) (u : List ℕ) → alike a u a u ≡ true
unfolding alike
alike_refl a [] = refl
alike_refl a (x ∷ u) = and_in (beq (ltb a x) (ltb a x)) (alike a u a u) (beq_refl (ltb a x)) (alike_refl a u)

pub alike_sym : (a : ℕ) (u : List ℕ) (b : ℕ) (v : List ℕ) → alike a u b v ≡ alike b v a u
unfolding alike
alike_sym a [] b [] = refl
alike_sym a [] b (y ∷ v) = refl
alike_sym a (x ∷ u) b [] = refl
alike_sym a (x ∷ u) b (y ∷ v) = ap₂ ◌&&◌ (beq_comm (ltb a x) (ltb b y)) (alike_sym a u b v)

-- equal comparisons give the same test
pub alike_same : (a : ℕ) (u : List ℕ) (b : ℕ) (v : List ℕ) (c : ℕ) (w : List ℕ) → alike a u b v ≡ true → alike a u c w ≡ alike b v c w
unfolding alike
alike_same a [] b [] c [] h = refl
alike_same a [] b [] c (z ∷ w) h = refl
alike_same a [] b (y ∷ v) c w h = absurd (true_not_false (sym h))
alike_same a (x ∷ u) b [] c w h = absurd (true_not_false (sym h))
alike_same a (x ∷ u) b (y ∷ v) c [] h = refl
alike_same a (x ∷ u) b (y ∷ v) c (z ∷ w) h =
    let e : ltb a x ≡ ltb b y = beq_true (ltb a x) (ltb b y) (and_left (beq (ltb a x) (ltb b y)) (alike a u b v) h) in
    let r : alike a u b v ≡ true = and_right (beq (ltb a x) (ltb b y)) (alike a u b v) h in
    ap₂ ◌&&◌ (ap (λ (t : Bool). beq t (ltb c z)) e) (alike_same a u b v c w r)

pub iso_refl : (u : List ℕ) → iso u u ≡ true
unfolding iso
iso_refl [] = refl
iso_refl (x ∷ u) = and_in (alike x u x u) (iso u u) (alike_refl x u) (iso_refl u)

pub iso_sym : (u v : List ℕ) → iso u v ≡ iso v u
unfolding iso
iso_sym [] [] = refl
iso_sym [] (y ∷ v) = refl
iso_sym (x ∷ u) [] = refl
iso_sym (x ∷ u) (y ∷ v) = ap₂ ◌&&◌ (alike_sym x u y v) (iso_sym u v)

-- isomorphic words are isomorphic to the same words
pub iso_same : (u v w : List ℕ) → iso u v ≡ true → iso u w ≡ iso v w
unfolding iso
iso_same [] [] w h = refl
iso_same [] (y ∷ v) w h = absurd (true_not_false (sym h))
iso_same (x ∷ u) [] w h = absurd (true_not_false (sym h))
iso_same (x ∷ u) (y ∷ v) [] h = refl
iso_same (x ∷ u) (y ∷ v) (z ∷ w) h =
    ap₂ ◌&&◌ (alike_same x u y v z w (and_left (alike x u y v) (iso u v) h)) (iso_same u v w (and_right (alike x u y v) (iso u v) h))

pub iso_trans : (u v w : List ℕ) → iso u v ≡ true → iso v w ≡ true → iso u w ≡ true
iso_trans u v w h k = iso_same u v w h ∙ k

pub iso_length : (u v : List ℕ) → iso u v ≡ true → length u ≡ length v
unfolding iso
iso_length [] [] h = refl
iso_length [] (y ∷ v) h = absurd (true_not_false (sym h))
iso_length (x ∷ u) [] h = absurd (true_not_false (sym h))
iso_length (x ∷ u) (y ∷ v) h = ap suc (iso_length u v (and_right (alike x u y v) (iso u v) h))

alike_nil_snoc : (a c : ℕ) (s : List ℕ) (y : ℕ) → alike a [] c (s ++ (y ∷ [])) ≡ false
unfolding alike
alike_nil_snoc a c [] y = refl
alike_nil_snoc a c (d ∷ s) y = refl

alike_snoc_nil : (a : ℕ) (b : List ℕ) (x c : ℕ) → alike a (b ++ (x ∷ [])) c [] ≡ false
alike_snoc_nil a b x c = alike_sym a (b ++ (x ∷ [])) c [] ∙ alike_nil_snoc c a b x

pub alike_snoc : (a : ℕ) (b : List ℕ) (x c : ℕ) (s : List ℕ) (y : ℕ)
    → alike a (b ++ (x ∷ [])) c (s ++ (y ∷ [])) ≡ alike a b c s && beq (ltb a x) (ltb c y)
unfolding alike
alike_snoc a [] x c [] y = and-true (beq (ltb a x) (ltb c y))
alike_snoc a [] x c (d ∷ s) y = ap (◌&&◌ (beq (ltb a x) (ltb c d))) (alike_nil_snoc a c s y) ∙ and-false (beq (ltb a x) (ltb c d))
alike_snoc a (e ∷ b) x c [] y = ap (◌&&◌ (beq (ltb a e) (ltb c y))) (alike_snoc_nil a b x c) ∙ and-false (beq (ltb a e) (ltb c y))
alike_snoc a (e ∷ b) x c (d ∷ s) y =
    ap (◌&&◌ (beq (ltb a e) (ltb c d))) (alike_snoc a b x c s y)
    ∙ sym (and_assoc (beq (ltb a e) (ltb c d)) (alike a b c s) (beq (ltb a x) (ltb c y)))

-- one more entry at the end of both
pub iso_snoc : (b : List ℕ) (x : ℕ) (s : List ℕ) (y : ℕ) → iso (b ++ (x ∷ [])) (s ++ (y ∷ [])) ≡ iso b s && fits b x s y
unfolding iso fits
iso_snoc [] x [] y = refl
iso_snoc [] x (c ∷ s) y = ap (λ (t : Bool). t && iso [] (s ++ (y ∷ []))) (alike_nil_snoc x c s y)
iso_snoc (a ∷ b) x [] y = ap (λ (t : Bool). t && iso (b ++ (x ∷ [])) []) (alike_snoc_nil a b x y)
iso_snoc (a ∷ b) x (c ∷ s) y =
    ap₂ ◌&&◌ (alike_snoc a b x c s y) (iso_snoc b x s y) ∙
    and_middle (alike a b c s) (beq (ltb a x) (ltb c y)) (iso b s) (fits b x s y)

alike_prefix : (a : ℕ) (b r : List ℕ) (c : ℕ) (s v : List ℕ) → length b ≡ length s
    → alike a (b ++ r) c (s ++ v) ≡ true → alike a b c s ≡ true
unfolding alike
alike_prefix a [] r c [] v l h = refl
alike_prefix a [] r c (d ∷ s) v l h = absurd (omega arith)
alike_prefix a (e ∷ b) r c [] v l h = absurd (omega arith)
alike_prefix a (e ∷ b) r c (d ∷ s) v l h =
    let first : Bool = beq (ltb a e) (ltb c d) in
    let k : length b ≡ length s = omega arith in
    and_in first (alike a b c s) (and_left first (alike a (b ++ r) c (s ++ v)) h)
    (alike_prefix a b r c s v k (and_right first (alike a (b ++ r) c (s ++ v)) h))

-- the first entries of isomorphic words are isomorphic
pub iso_prefix : (b r s v : List ℕ) → length b ≡ length s → iso (b ++ r) (s ++ v) ≡ true → iso b s ≡ true
unfolding iso
iso_prefix [] r [] v l h = refl
iso_prefix [] r (c ∷ s) v l h = absurd (omega arith)
iso_prefix (a ∷ b) r [] v l h = absurd (omega arith)
iso_prefix (a ∷ b) r (c ∷ s) v l h =
    let k : length b ≡ length s = omega arith in
    let p : alike a (b ++ r) c (s ++ v) ≡ true = and_left (alike a (b ++ r) c (s ++ v)) (iso (b ++ r) (s ++ v)) h in
    let q : iso (b ++ r) (s ++ v) ≡ true = and_right (alike a (b ++ r) c (s ++ v)) (iso (b ++ r) (s ++ v)) h in
    and_in (alike a b c s) (iso b s) (alike_prefix a b r c s v k p) (iso_prefix b r s v k q)

alike_map_on : (f : ℕ → ℕ) (a : ℕ) (u : List ℕ) (b : ℕ) (v : List ℕ) → ((y : ℕ) → Memᴰ y v → ltb (f b) (f y) ≡ ltb b y)
    → alike a u (f b) (map f v) ≡ alike a u b v
unfolding alike
alike_map_on f a [] b [] h = refl
alike_map_on f a [] b (y ∷ v) h = refl
alike_map_on f a (x ∷ u) b [] h = refl
alike_map_on f a (x ∷ u) b (y ∷ v) h =
    ap₂ ◌&&◌ (ap (beq (ltb a x)) (h y (Memᴰ.head refl))) (alike_map_on f a u b v (λ z m. h z (Memᴰ.tail m)))

-- a map that keeps the order of the entries of v
pub iso_map_on : (f : ℕ → ℕ) (v : List ℕ) → ((x y : ℕ) → Memᴰ x v → Memᴰ y v → ltb (f x) (f y) ≡ ltb x y)
    → (u : List ℕ) → iso u (map f v) ≡ iso u v
unfolding iso
iso_map_on f [] h [] = refl
iso_map_on f [] h (x ∷ u) = refl
iso_map_on f (y ∷ v) h [] = refl
iso_map_on f (y ∷ v) h (x ∷ u) =
    ap₂ ◌&&◌ (alike_map_on f x u y v (λ z m. h y z (Memᴰ.head refl) (Memᴰ.tail m)))
    (iso_map_on f v (λ z t m n. h z t (Memᴰ.tail m) (Memᴰ.tail n)) u)

-- a map that keeps the order
pub iso_map : (f : ℕ → ℕ) → ((x y : ℕ) → ltb (f x) (f y) ≡ ltb x y) → (u v : List ℕ) → iso u (map f v) ≡ iso u v
iso_map f h u v = iso_map_on f v (λ x y m n. h x y) u

-- a larger number has at least as many entries below it
pub under_mono : (u : List ℕ) (x y : ℕ) → x ≤ y → under u x ≤ under u y
unfolding under
under_mono [] x y h = omega arith
under_mono (z ∷ u) x y h = go (leb z x) (leb z y) refl refl (under_mono u x y h)
  where
    go : (p q : Bool) → leb z x ≡ p → leb z y ≡ q → under u x ≤ under u y
        → cond p (suc (under u x)) (under u x) ≤ cond q (suc (under u y)) (under u y)
    go true true d e k = omega arith
    go true false d e k = absurd (omega (arith, leb-true z x d, leb-false z y e))
    go false true d e k = omega arith
    go false false d e k = k

-- and more, if it is an entry
pub under_strict : (u : List ℕ) (x y : ℕ) → x < y → Memᴰ y u → under u x < under u y
unfolding under
under_strict [] x y h m = elim m [ ]
under_strict (z ∷ u) x y h (Memᴰ.head e) = go (leb z x) (leb z y) refl refl (under_mono u x y (omega arith))
  where
    go : (p q : Bool) → leb z x ≡ p → leb z y ≡ q → under u x ≤ under u y
        → cond p (suc (under u x)) (under u x) < cond q (suc (under u y)) (under u y)
    go true q d f k = absurd (omega (arith, leb-true z x d))
    go false true d f k = omega arith
    go false false d f k = absurd (omega (arith, leb-false z y f))
under_strict (z ∷ u) x y h (Memᴰ.tail m) = go (leb z x) (leb z y) refl refl (under_strict u x y h m)
  where
    go : (p q : Bool) → leb z x ≡ p → leb z y ≡ q → under u x < under u y
        → cond p (suc (under u x)) (under u x) < cond q (suc (under u y)) (under u y)
    go true true d e k = omega arith
    go true false d e k = absurd (omega (arith, leb-true z x d, leb-false z y e))
    go false true d e k = omega arith
    go false false d e k = k

-- the reduction keeps the order of the entries
pub under_order : (u : List ℕ) (x y : ℕ) → Memᴰ x u → Memᴰ y u → ltb (under u x) (under u y) ≡ ltb x y
under_order u x y m n = go (ltb x y) refl
  where
    go : (t : Bool) → ltb x y ≡ t → ltb (under u x) (under u y) ≡ t
    go true e = lt-ltb (under u x) (under u y) (under_strict u x y (ltb-true x y e) n)
    go false e = le-ltb (under u x) (under u y) (under_mono u y x (ltb-false x y e))

-- a word is isomorphic to its reduction
pub iso_reduce : (w : List ℕ) → iso w (reduce w) ≡ true
unfolding reduce
iso_reduce w = iso_map_on (under w) w (under_order w) w ∙ iso_refl w
