-- Smaller vectors with empty cells. Definitions only.
-- By the gap law one of them shows that the cell at a vector is empty.
use Rattle.std.specs.Prelude.{ℕ, suc, Bool, ◌&&◌, List}
use Rattle.word.specs.Lists.{any, each, row}
use Rattle.cell.specs.Cell.{total, cell, at_least, vectors}
use Rattle.verdict.specs.Verdict.{is_empty}

-- the vector g is at most b in each component, and its cell is empty
unfoldable pub shows_empty : List (List ℕ) → List ℕ → List ℕ → List ℕ → Bool
unfolding at_least cell
shows_empty P p b g = at_least b g && is_empty (cell P p g)

-- some vector with k + 1 components and total t is at most b and has an empty cell
abbrev pub empty_at : List (List ℕ) → List ℕ → List ℕ → ℕ → ℕ → Bool
empty_at P p b k t = any (shows_empty P p b) (vectors (suc k) t)

-- some vector with k + 1 components and a smaller total than b is at most b and has an empty cell
abbrev pub empty_below : List (List ℕ) → List ℕ → List ℕ → ℕ → Bool
empty_below P p b k = any (shows_empty P p b) (each (vectors (suc k)) (row 0 (total b)))
