-- The number of compared cells of an entry is small.
use Rattle.std.specs.Prelude.{ℕ, suc, ◌+◌, ◌≤◌, ◌≡◌, refl, true, List, length, leb}
use Rattle.std.proofs.Common.{arith, leb-true}
use Rattle.word.specs.Ceilings.{DIGITS, PREFIX, COMPONENTS}
use Rattle.word.specs.Lists.{all, row}
use Rattle.word.specs.ListLaws.{all_out, row_in}
use Rattle.cell.specs.Cell.{compared_to}
use Rattle.cell.specs.Binomial.{binomial}
use Rattle.cell.proofs.BinomialLaws.{compared_to_most}
use Rattle.claims.specs.EntryMemory.{COMPARED}

-- C(m + k, k + 1) for the lengths of prefixes and patterns, by computation
small_binomials : all (λ k. all (λ m. leb (binomial (m + k) (suc k)) COMPARED) (row 0 (DIGITS + 1))) (row 0 COMPONENTS) ≡ true
unfolding binomial
small_binomials = refl

pub binomial_small : (m k : ℕ) → m ≤ DIGITS → k ≤ PREFIX → binomial (m + k) (suc k) ≤ COMPARED
binomial_small m k h l =
    leb-true (binomial (m + k) (suc k)) COMPARED
    (all_out (λ (i : ℕ). leb (binomial (i + k) (suc k)) COMPARED) (row_in 0 (DIGITS + 1) m (omega arith) (omega arith))
    (all_out (λ (j : ℕ). all (λ (i : ℕ). leb (binomial (i + j) (suc j)) COMPARED) (row 0 (DIGITS + 1)))
    (row_in 0 COMPONENTS k (omega arith) (omega arith)) small_binomials))

pub compared_small : (m k : ℕ) (B : List (List ℕ)) → m ≤ DIGITS → k ≤ PREFIX →
    length (compared_to m k B) ≤ COMPARED
compared_small m k B h l = omega (arith, binomial_small m k h l, compared_to_most m k B)
