-- The recursion of document 01 for the entries of a scheme in memory. Definitions only.
use Rattle.std.specs.Prelude.{ℕ, suc, ◌≤◌, ◌<◌, ◌≡◌, List, map, length}
use Rattle.std.proofs.Math.Option.{some}
use Rattle.word.specs.Ceilings.{LENGTH}
use Rattle.word.specs.Lists.{row}
use Rattle.cell.specs.Cell.{total}
use Rattle.cell.specs.Child.{child_at, slot, split}
use Rattle.forms.specs.declared.memory.Scheme.{Scheme}
use Rattle.verdict.specs.Value.{entry_value}
use Rattle.count_step.specs.Step.{LARGEST}
use Rattle.count_plan.specs.Layout.{entry_at, prefix_at}

-- v solves the recursion of document 01 for the entries of s, and its values at totals up to LENGTH
-- are numbers of 64 bits
pub record Solves (v : List ℕ → List ℕ → ℕ) (P : List (List ℕ)) (s : Scheme) : Type 0 where
  pub solves : (i : ℕ) → i < s.count → (g : List ℕ) → length g ≡ suc (length (prefix_at s i)) →
      v (prefix_at s i) g ≡ entry_value v P (some (entry_at s i)) g
  pub fits : (p g : List ℕ) → total g ≤ LENGTH → v p g ≤ LARGEST

-- the sum over n next entries from the q-th on
abbrev pub sum_from : (List ℕ → List ℕ → ℕ) → List ℕ → List ℕ → ℕ → ℕ → ℕ
sum_from v p g q n = total (map (λ s. v (child_at p (slot g s)) (split g s)) (row q n))
