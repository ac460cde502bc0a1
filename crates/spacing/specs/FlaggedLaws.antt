-- Laws of flagged values.
use Rattle.std.specs.Prelude.{ℕ, ◌≤◌, ◌≡◌, true, false, not, List, get_or, eqb}
use Rattle.std.proofs.Common.{arith, ap, ◌∙◌, eq-eqb, ne_eqb}
use Rattle.word.specs.Lists.{one_to}
use Rattle.word.specs.Word.{has}
use Rattle.word.specs.ListLaws.{same_test, keep_in, keep_out, row_in}
use Rattle.word.specs.PermLaws.{has_in, has_out}
use Rattle.spacing.specs.Flagged.{flagged}

-- one of the values 1 to k is flagged where the list is not 0
pub flagged_has : (l : List ℕ) (k v : ℕ) → 1 ≤ v → v ≤ k → has v (flagged l k) ≡ not (eqb (get_or l v 0) 0)
flagged_has l k v low high =
    same_test (has v (flagged l k)) (not (eqb (get_or l v 0) 0))
    (λ e. (keep_out (λ u. not (eqb (get_or l u 0) 0)) (one_to k) (has_out v (flagged l k) e)).1)
    (λ e. has_in (keep_in (λ u. not (eqb (get_or l u 0) 0)) (row_in 1 k v low (omega arith)) e))

module _ (l : List ℕ) (k v : ℕ) (low : 1 ≤ v) (high : v ≤ k) where
  pub flag_there : (get_or l v 0 ≡ 0 → ⊥) → has v (flagged l k) ≡ true
  flag_there n = flagged_has l k v low high ∙ ap not (ne_eqb (get_or l v 0) 0 n)

  pub flag_missing : get_or l v 0 ≡ 0 → has v (flagged l k) ≡ false
  flag_missing n = flagged_has l k v low high ∙ ap not (eq-eqb (get_or l v 0) 0 n)
