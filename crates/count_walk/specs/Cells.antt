-- The cells of the table in the order in which they are filled. Definitions only.
use Rattle.std.specs.Prelude.{ℕ, zero, suc, ◌-◌, cond, List, [], ◌++◌, map, eqb}
use Rattle.word.specs.Ceilings.{PREFIX}
use Rattle.word.specs.Lists.{each, row}
use Rattle.cell.specs.Binomial.{binomial}
use Rattle.spacing.specs.Following.{first_vector}
use Rattle.forms.specs.declared.memory.Scheme.{Scheme}
use Rattle.count_step.specs.Step.{spacings_from}
use Rattle.count_plan.specs.Layout.{length_at}

-- a cell of the table: the length of its row, the index of its entry, its spacing
pub record TableCell : Type 0 where
  pub row : ℕ
  pub entry : ℕ
  pub spacing : List ℕ

-- the cells at these spacings
abbrev pub cells_at : ℕ → ℕ → List (List ℕ) → List TableCell
cells_at j d gs = map (λ g. record { row = j; entry = d; spacing = g }) gs

-- the cells of one entry in row j: C(j, k) of them, k being its length, by rank
abbrev pub entry_cells : Scheme → ℕ → ℕ → List TableCell
entry_cells s j d = cells_at j d (spacings_from (binomial j (length_at s d)) (first_vector (length_at s d) (j - length_at s d)))

-- those of an entry, if its length is k
abbrev pub cells_if : Scheme → ℕ → ℕ → ℕ → List TableCell
cells_if s j k d = cond (eqb (length_at s d) k) (entry_cells s j d) []

-- the cells in row j of the entries of length k with the index d or a larger one
unfoldable pub length_cells : Scheme → ℕ → ℕ → ℕ → List TableCell
length_cells s j k d = each (cells_if s j k) (row d (s.count - d))

-- those of all entries shorter than k, longer entries first
unfoldable pub shorter_cells : Scheme → ℕ → ℕ → List TableCell
shorter_cells s j zero = []
shorter_cells s j (suc k) = length_cells s j k 0 ++ shorter_cells s j k

-- the cells of row j
abbrev pub row_cells : Scheme → ℕ → List TableCell
row_cells s j = shorter_cells s j (suc PREFIX)

-- the cells of m rows from row j on
unfoldable pub rows_from : Scheme → ℕ → ℕ → List TableCell
rows_from s j m = each (row_cells s) (row j m)

-- all cells of the rows up to n, in the order in which they are filled
abbrev pub cells_of : Scheme → ℕ → List TableCell
cells_of s n = rows_from s 0 (suc n)

-- What is left of row j, where the cursor is at the entry with index d and the spacing g, whose
-- rank is p: this entry's cells from there on, the later entries of its length, shorter entries.
abbrev pub row_rest : Scheme → ℕ → ℕ → ℕ → List ℕ → List TableCell
row_rest s j d p g =
    cells_at j d (spacings_from (binomial j (length_at s d) - p) g) ++ (length_cells s j (length_at s d) (suc d) ++ shorter_cells s j
    (length_at s d))
