-- Laws of the spacings of one total: all of them from the first on, what comes after the last and
-- after any other, and how many there are.
use Rattle.std.specs.Prelude.{ℕ, zero, suc, ◌+◌, ◌-◌, ◌*◌, ◌^◌, ◌≤◌, ◌<◌, ◌≡◌, refl, Bool, true, false, cond, List, [], ◌∷◌, ◌++◌, map}
use Rattle.std.specs.Prelude.{length, replicate}
use Rattle.std.proofs.Common.{ap, ap₂, ◌∙◌, mul-le-mul, suc-mul, zero-mul, arith, length-append}
use Rattle.std.proofs.Math.Nat.{pow-le-pow_right, pow-succ'}
use Rattle.std.proofs.lemmas.List.{length-replicate, length-map}
use Rattle.word.specs.Ceilings.{DIGITS, COMPONENTS}
use Rattle.word.specs.Lists.{keep, each, row}
use Rattle.cell.specs.Cell.{total, vectors}
use Rattle.spacing.specs.Following.{first_vector, above, later}

-- `vectors` by the first component

from_above : (k x t : ℕ) (s : ℕ) → s ≡ x + t →
    each (λ y. map (λ g. y ∷ g) (vectors k (s - y))) (row x (suc t)) ≡ map (λ g. x ∷ g) (vectors k t) ++ above k x t
unfolding above
from_above k x zero s e =
    let z : s - x ≡ 0 = omega arith in
    rw z refl
from_above k x (suc t) s e =
    let z : s - x ≡ suc t = omega arith in
    ap₂ (λ (a b : List (List ℕ)). a ++ b) (ap (λ (n : ℕ). map (λ (g : List ℕ). x ∷ g) (vectors k n)) z)
    (from_above k (suc x) t s (omega arith))

pub vectors_above : (k t : ℕ) → vectors (suc k) t ≡ map (λ g. 0 ∷ g) (vectors k t) ++ above k 0 t
unfolding vectors
vectors_above k t = from_above k 0 t t (omega arith)

-- the first vector

pub first_length : (k t : ℕ) → length (first_vector k t) ≡ suc k
unfolding first_vector
first_length zero t = refl
first_length (suc k) t = ap suc (first_length k t)

pub first_total : (k t : ℕ) → total (first_vector k t) ≡ t
unfolding first_vector total
first_total zero t = omega arith
first_total (suc k) t = omega (arith, first_total k t)

one_component : (x t : ℕ) → map (λ g. x ∷ g) (vectors 0 t) ++ above 0 x t ≡ ((x + t) ∷ []) ∷ []
unfolding above
one_component x zero = let e : x ≡ x + 0 = omega arith in ap (λ (n : ℕ). (n ∷ []) ∷ []) e
one_component x (suc t) = one_component (suc x) t ∙ let e : suc x + t ≡ x + suc t = omega arith in ap (λ (n : ℕ). (n ∷ []) ∷ []) e

-- the first of the vectors with first component x, and what comes after it
heads_first : (k x t : ℕ) (f : List ℕ) → length f ≡ k → total f ≡ t → vectors k t ≡ f ∷ later f →
    map (λ g. x ∷ g) (vectors k t) ++ above k x t ≡ (x ∷ f) ∷ later (x ∷ f)
unfolding later
heads_first k x t f l s e = rw (e, l, s) refl

pub vectors_first : (k t : ℕ) → vectors (suc k) t ≡ first_vector k t ∷ later (first_vector k t)
unfolding first_vector later
vectors_first zero t = vectors_above 0 t ∙ one_component 0 t ∙ let e : 0 + t ≡ t = omega arith in ap (λ (n : ℕ). (n ∷ []) ∷ []) e
vectors_first (suc k) t = vectors_above (suc k) t ∙
    heads_first (suc k) 0 t (first_vector k t) (first_length k t) (first_total k t) (vectors_first k t)

-- the last vector

pub zeros_total : (z : ℕ) → total (replicate z 0) ≡ 0
unfolding total
zeros_total zero = refl
zeros_total (suc z) = omega (arith, zeros_total z)

zeros_length : (z : ℕ) → length {A = ℕ} (replicate z 0) ≡ z
zeros_length z = length-replicate {A = ℕ} z 0

zeros_last : (z : ℕ) → later (replicate z 0) ≡ []
unfolding later
zeros_last zero = refl
zeros_last (suc z) = rw (zeros_last z, zeros_total z) refl

pub later_none : (t z : ℕ) → later (t ∷ replicate z 0) ≡ []
unfolding later
later_none t z = rw (zeros_last z, zeros_total z) refl

-- the next vector

-- a vector whose last component that is not 0 is r + 1, with y before it and z zeros behind it
unfoldable pub step_from : List ℕ → ℕ → ℕ → ℕ → List ℕ
step_from pre y r z = pre ++ (y ∷ (suc r ∷ replicate z 0))

-- the vector that comes next after it
unfoldable pub step_to : List ℕ → ℕ → ℕ → ℕ → List ℕ
unfolding first_vector
step_to pre y r z = pre ++ (suc y ∷ first_vector z r)

pub next_length : (pre : List ℕ) (y r z : ℕ) → length (step_to pre y r z) ≡ length (step_from pre y r z)
unfolding step_from step_to
next_length [] y r z = omega (arith, first_length z r, zeros_length z)
next_length (x ∷ pre) y r z = ap suc (next_length pre y r z)

pub next_total : (pre : List ℕ) (y r z : ℕ) → total (step_to pre y r z) ≡ total (step_from pre y r z)
unfolding step_from step_to total
next_total [] y r z = omega (arith, first_total z r, zeros_total z)
next_total (x ∷ pre) y r z = omega (arith, next_total pre y r z)

pub later_next : (pre : List ℕ) (y r z : ℕ) → later (step_from pre y r z) ≡ step_to pre y r z ∷ later (step_to pre y r z)
unfolding step_from step_to later
later_next [] y r z =
    let e : suc r + 0 ≡ suc r = omega arith in
    rw (zeros_length z, zeros_last z, zeros_total z, e)
    (heads_first (suc z) (suc y) r (first_vector z r) (first_length z r) (first_total z r) (vectors_first z r))
later_next (x ∷ pre) y r z = rw (later_next pre y r z, next_length pre y r z, next_total pre y r z) refl

-- how many there are, crudely

pub keep_bound : (f : List ℕ → Bool) (l : List (List ℕ)) → length (keep f l) ≤ length l
keep_bound f [] = omega arith
keep_bound f (v ∷ l) = go (f v) (keep_bound f l)
  where
    go : (b : Bool) → length (keep f l) ≤ length l → length (cond b (v ∷ keep f l) (keep f l)) ≤ suc (length l)
    go true h = omega arith
    go false h = omega arith

each_bound : (f : ℕ → List (List ℕ)) (b a n : ℕ) → ((x : ℕ) → x < a + n → length (f x) ≤ b) → length (each f (row a n)) ≤ n * b
each_bound f b a zero h = rw (zero-mul b) (omega arith)
each_bound f b a (suc n) h =
    rw (suc-mul n b, length-append (f a) (each f (row (suc a) n)))
    (omega (arith, h a (omega arith), each_bound f b (suc a) n (λ x l. h x (omega arith))))

pub vectors_bound : (k t : ℕ) → t < DIGITS → length (vectors k t) ≤ DIGITS ^ k
unfolding vectors
vectors_bound zero zero h = omega arith
vectors_bound zero (suc t) h = omega arith
vectors_bound (suc k) t h =
    let ih = vectors_bound k in
    let most : length (each (λ x. map (λ g. x ∷ g) (vectors k (t - x))) (row 0 (suc t))) ≤ suc t * DIGITS ^ k =
    each_bound (λ x. map (λ g. x ∷ g) (vectors k (t - x))) (DIGITS ^ k) 0 (suc t)
    (λ x l. rw (length-map (vectors k (t - x)) (λ (g : List ℕ). x ∷ g)) (ih (t - x) (omega arith))) in
    rw (pow-succ' DIGITS k)
    (omega (
      arith,
      most,
      mul-le-mul {n₁ = suc t} {m₁ = DIGITS ^ k} {n₂ = DIGITS} {m₂ = DIGITS ^ k} (omega arith)
          (omega arith),
    ))

-- of the spacings with k + 1 ≤ COMPONENTS components and totals below m ≤ DIGITS there are at most
-- DIGITS ^ (COMPONENTS + 1)
pub spacings_bound : (k m : ℕ) → k < COMPONENTS → m ≤ DIGITS → length (each (vectors (suc k)) (row 0 m)) ≤ DIGITS ^ suc COMPONENTS
spacings_bound k m h l =
    let most : length (each (vectors (suc k)) (row 0 m)) ≤ m * DIGITS ^ suc k =
    each_bound (vectors (suc k)) (DIGITS ^ suc k) 0 m (λ x b. vectors_bound (suc k) x (omega arith)) in
    let power : DIGITS ^ suc k ≤ DIGITS ^ COMPONENTS =
    pow-le-pow_right {n = DIGITS} (omega arith) {i = suc k} {j = COMPONENTS} (omega arith) in
    omega (arith, most, mul-le-mul {n₁ = m} {m₁ = DIGITS ^ suc k} {n₂ = DIGITS} {m₂ = DIGITS ^ COMPONENTS} l power)
