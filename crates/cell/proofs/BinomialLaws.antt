-- Laws of binomials, the number of spacings with a given total, and how many spacings an entry
-- compares at most.
use Rattle.std.specs.Prelude.{ℕ, zero, suc, ◌+◌, ◌-◌, ◌≤◌, ◌<◌, ◌≡◌, refl, Bool, true, false, cond, List, [], ◌∷◌, ◌++◌, map, length}
use Rattle.std.proofs.Common.{arith, sym, ap, ap₂, ◌∙◌, length-append}
use Rattle.std.proofs.lemmas.List.{length-map}
use Rattle.word.specs.Lists.{keep, each, row}
use Rattle.cell.specs.Binomial.{binomial}
use Rattle.cell.specs.Cell.{free, m_of, vectors, compared_to, compared}

pub binomial_above : (n k : ℕ) → n < k → binomial n k ≡ 0
unfolding binomial
binomial_above n zero h = absurd (omega arith)
binomial_above zero (suc k) h = refl
binomial_above (suc n) (suc k) h = omega (arith, binomial_above n k (omega arith), binomial_above n (suc k) (omega arith))

-- Lists one after the other, over a row

module _ {B : Type 0} where
  -- a row that starts one later
  row_shift : (f : ℕ → List B) (a n : ℕ) → each f (row (suc a) n) ≡ each (λ x. f (suc x)) (row a n)
  row_shift f a zero = refl
  row_shift f a (suc n) = ap (λ v. f (suc a) ++ v) (row_shift f (suc a) n)

  -- a row that ends one later
  row_more : (f : ℕ → List B) (a n : ℕ) → length (each f (row a (suc n))) ≡ length (each f (row a n)) + length (f (a + n))
  row_more f a zero =
      let e : a + 0 ≡ a = omega arith in
      rw e (omega (arith, length-append (f a) []))
  row_more f a (suc n) =
      let e : suc a + n ≡ a + suc n = omega arith in
      let l : length (f (suc a + n)) ≡ length (f (a + suc n)) = ap (λ m. length (f m)) e in
      omega (arith, row_more f (suc a) n, length-append (f a) (each f (row (suc a) (suc n))), length-append (f a) (each f (row (suc a) n)))

module _ {A B C : Type 0} where
  -- lists of the same lengths
  each_lengths : (f : A → List B) (h : A → List C) (l : List A) → ((x : A) → length (f x) ≡ length (h x)) →
      length (each f l) ≡ length (each h l)
  each_lengths f h [] e = refl
  each_lengths f h (x ∷ l) e = length-append (f x) (each f l) ∙ ap₂ ◌+◌ (e x) (each_lengths f h l e) ∙ sym (length-append (h x) (each h l))

-- the vectors by their first component: it is 0, or one more than in a vector of a total one
-- smaller
vectors_zero : (k : ℕ) → length (vectors (suc k) 0) ≡ length (vectors k 0)
unfolding vectors
vectors_zero k = omega (arith, length-append (map (λ g. 0 ∷ g) (vectors k 0)) [], length-map (vectors k 0) (λ g. 0 ∷ g))

vectors_step : (k t : ℕ) → length (vectors (suc k) (suc t)) ≡ length (vectors k (suc t)) + length (vectors (suc k) t)
unfolding vectors
vectors_step k t = length-append (with_first (suc t) 0) (each (with_first (suc t)) (row 1 (suc t))) ∙
    ap₂ ◌+◌ none (ap length (row_shift (with_first (suc t)) 0 (suc t)) ∙
    each_lengths (λ x. with_first (suc t) (suc x)) (with_first t) (row 0 (suc t)) lengths)
  where
    with_first : ℕ → ℕ → List (List ℕ)
    with_first t x = map (λ g. x ∷ g) (vectors k (t - x))

    none : length (with_first (suc t) 0) ≡ length (vectors k (suc t))
    none =
        let e : suc t - 0 ≡ suc t = omega arith in
        length-map (vectors k (suc t - 0)) (λ g. 0 ∷ g) ∙ ap (λ n. length (vectors k n)) e

    lengths : (x : ℕ) → length (with_first (suc t) (suc x)) ≡ length (with_first t x)
    lengths x =
        let e : suc t - suc x ≡ t - x = omega arith in
        length-map (vectors k (suc t - suc x)) (λ g. suc x ∷ g) ∙ ap (λ n. length (vectors k n)) e ∙
        sym (length-map (vectors k (t - x)) (λ g. x ∷ g))

-- the number of vectors with k + 1 components and total t
pub vectors_number : (k t : ℕ) → length (vectors (suc k) t) ≡ binomial (t + k) k
unfolding binomial vectors
vectors_number zero zero = refl
vectors_number zero (suc t) = omega (arith, vectors_step 0 t, vectors_number zero t)
vectors_number (suc k) zero =
    let e : 0 + suc k ≡ suc (0 + k) = omega arith in
    rw e (omega (arith, vectors_zero (suc k), vectors_number k zero, binomial_above (0 + k) (suc k) (omega arith)))
vectors_number (suc k) (suc t) =
    let e : suc t + suc k ≡ suc (suc t + k) = omega arith in
    let o : t + suc k ≡ suc t + k = omega arith in
    let l : binomial (t + suc k) (suc k) ≡ binomial (suc t + k) (suc k) = ap (λ n. binomial n (suc k)) o in
    rw e (omega (arith, vectors_step (suc k) t, vectors_number k (suc t), vectors_number (suc k) t))

-- the number of those with a total below m
pub vectors_below : (k m : ℕ) → length (each (vectors (suc k)) (row 0 m)) ≡ binomial (m + k) (suc k)
unfolding binomial
vectors_below k zero = sym (binomial_above (0 + k) (suc k) (omega arith))
vectors_below k (suc m) =
    let e : suc m + k ≡ suc (m + k) = omega arith in
    let o : 0 + m ≡ m = omega arith in
    let l : length (vectors (suc k) (0 + m)) ≡ binomial (m + k) k = ap (λ n. length (vectors (suc k) n)) o ∙ vectors_number k m in
    rw e (omega (arith, row_more (vectors (suc k)) 0 m, vectors_below k m))

module _ {A : Type 0} where
  pub keep_shorter : (f : A → Bool) (l : List A) → length (keep f l) ≤ length l
  keep_shorter f [] = omega arith
  keep_shorter f (x ∷ l) = step (f x) (keep_shorter f l)
    where
      step : (b : Bool) → length (keep f l) ≤ length l → length (cond b (x ∷ keep f l) (keep f l)) ≤ suc (length l)
      step true h = omega arith
      step false h = omega arith

-- "For an entry of length k it is at most the binomial C(m + k, k + 1)" (01): for every m
pub compared_to_most : (m k : ℕ) (B : List (List ℕ)) → length (compared_to m k B) ≤ binomial (m + k) (suc k)
unfolding compared_to
compared_to_most m k B = rw (← vectors_below k m) (keep_shorter (free B) (each (vectors (suc k)) (row 0 m)))

pub compared_at_most : (P : List (List ℕ)) (k : ℕ) (B : List (List ℕ)) → length (compared P k B) ≤ binomial (m_of P + k) (suc k)
compared_at_most P k B = compared_to_most (m_of P) k B
