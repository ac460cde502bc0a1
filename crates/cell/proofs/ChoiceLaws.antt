-- `binomial n k` is the binomial of document 01, for every n and k: the number of ways to choose k
-- of n things, and the quotient of factorials.
use Rattle.std.specs.Prelude.{ℕ, zero, suc, ◌+◌, ◌*◌, ◌-◌, ◌≤◌, ◌≡◌, refl, List, [], ◌∷◌, map, length}
use Rattle.std.proofs.Common.{add-zero, one-mul, add-mul, mul_comm, mul_assoc, mul_left_comm, arith, sym, ap, ap₂, ◌∙◌, length-append}
use Rattle.std.proofs.lemmas.List.{length-map}
use Rattle.word.specs.Vocabulary.{factorial}
use Rattle.word.specs.Lists.{sublists, one_to}
use Rattle.word.specs.ListLaws.{length_row}
use Rattle.cell.specs.Binomial.{binomial}
use Rattle.cell.proofs.BinomialLaws.{binomial_above}

-- Pascal's rule is the recursion of sublists: the first element is chosen, or it is not
pub sublists_number : {A : Type 0} (k : ℕ) (l : List A) → length (sublists k l) ≡ binomial (length l) k
unfolding binomial
sublists_number zero l = refl
sublists_number (suc k) [] = refl
sublists_number (suc k) (x ∷ l) = length-append (map (λ s. x ∷ s) (sublists k l)) (sublists (suc k) l) ∙
    ap₂ ◌+◌ (length-map (sublists k l) (λ s. x ∷ s) ∙ sublists_number k l) (sublists_number (suc k) l)

-- the sets of k of the numbers 1 to n, each listed in ascending order
pub ways_to_choose : (n k : ℕ) → length (sublists k (one_to n)) ≡ binomial n k
ways_to_choose n k = sublists_number k (one_to n) ∙ ap (λ m. binomial m k) (length_row 1 n)

-- two neighbours of a row, each with its own factorials K and D, as one of the next row
neighbours : (a b s t K D F : ℕ) → a * (K * (t * D)) ≡ F → b * ((s * K) * D) ≡ F → (a + b) * ((s * K) * (t * D)) ≡ (s + t) * F
neighbours a b s t K D F p q =
    let e : a * ((s * K) * (t * D)) ≡ s * (a * (K * (t * D))) = simp (mul_assoc, mul_left_comm) in
    let o : b * ((s * K) * (t * D)) ≡ t * (b * ((s * K) * D)) = simp (mul_comm, mul_assoc, mul_left_comm) in
    add-mul a b ((s * K) * (t * D)) ∙ ap₂ ◌+◌ (e ∙ ap (λ v. s * v) p) (o ∙ ap (λ v. t * v) q) ∙ sym (add-mul s t F)

-- with d for n - k, so that the induction meets no difference
chosen_and_left : (n k d : ℕ) → n ≡ k + d → binomial n k * (factorial k * factorial d) ≡ factorial n
unfolding binomial factorial
chosen_and_left n zero d h =
    let e : d ≡ n = omega arith in
    one-mul (1 * factorial d) ∙ one-mul (factorial d) ∙ ap factorial e
chosen_and_left zero (suc k) d h = absurd (omega arith)
chosen_and_left (suc n) (suc k) zero h =
    let e : n ≡ k + 0 = omega arith in
    let o : suc k ≡ suc n = omega arith in
    let l : (binomial n k + binomial n (suc k)) * (suc k * factorial k * 1) ≡ suc k * (binomial n k * (factorial k * 1)) =
    rw (binomial_above n (suc k) (omega arith)) (simp (add-zero, mul_assoc, mul_left_comm)) in
    l ∙ ap₂ ◌*◌ o (chosen_and_left n k zero e)
chosen_and_left (suc n) (suc k) (suc d) h =
    let e : n ≡ k + suc d = omega arith in
    let o : n ≡ suc k + d = omega arith in
    let l : suc k + suc d ≡ suc n = omega arith in
    neighbours (binomial n k) (binomial n (suc k)) (suc k) (suc d) (factorial k) (factorial d) (factorial n)
    (chosen_and_left n k (suc d) e) (chosen_and_left n (suc k) d o) ∙ ap (λ v. v * factorial n) l

-- n! divided by k! and (n - k)!, said as a product
pub by_factorials : (n k : ℕ) → k ≤ n → binomial n k * (factorial k * factorial (n - k)) ≡ factorial n
by_factorials n k h = chosen_and_left n k (n - k) (omega arith)
