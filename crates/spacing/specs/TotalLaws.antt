-- Totals of lists one after the other, and of numbers in a row.
use Rattle.std.specs.Prelude.{ℕ, zero, suc, ◌+◌, ◌≡◌, refl, List, [], ◌∷◌, ◌++◌, map}
use Rattle.std.proofs.Common.{arith, ap, ◌∙◌}
use Rattle.word.specs.Lists.{row}
use Rattle.cell.specs.Cell.{total}

pub total_append : (u v : List ℕ) → total (u ++ v) ≡ total u + total v
unfolding total
total_append [] v = omega arith
total_append (x ∷ u) v = omega (arith, total_append u v)

pub row_cut : (a n m : ℕ) → row a (n + m) ≡ row a n ++ row (a + n) m
row_cut a zero m = let e : 0 + m ≡ m = omega arith in let f : a + 0 ≡ a = omega arith in rw (e, f) refl
row_cut a (suc n) m =
    let e : suc n + m ≡ suc (n + m) = omega arith in
    let f : a + suc n ≡ suc a + n = omega arith in
    rw (e, f) (ap (λ (l : List ℕ). a ∷ l) (row_cut (suc a) n m))

pub row_moved : (f : ℕ → ℕ) (d a n : ℕ) → map f (row (d + a) n) ≡ map (λ q. f (d + q)) (row a n)
row_moved f d a zero = refl
row_moved f d a (suc n) =
    let e : suc (d + a) ≡ d + suc a = omega arith in
    ap (λ (l : List ℕ). f (d + a) ∷ l) (ap (λ b. map f (row b n)) e ∙ row_moved f d (suc a) n)
