-- Which cells feed a cell of the table. Definitions only.
use Rattle.std.specs.Prelude.{ℕ, ◌+◌, ◌<◌, ◌≡◌, ◌⊎◌}
use Rattle.forms.specs.SchemeMemory.{scheme_in}
use Rattle.forms.specs.declared.memory.Scheme.{Scheme}
use Rattle.count_step.specs.Feed.{CellOf}
use Rattle.count_plan.specs.Layout.{prefix_at, length_at, rows_of, HasCell}
use Rattle.count_plan.specs.Cards.{index_of}
use Rattle.count_walk.specs.Walk.{row_of}

-- a cell that feeds the cell of the entry with index d in row j
pub record Feeds (n : ℕ) (s : Scheme) (j d : ℕ) (f : CellOf) : Type 0 where
  pub cell : HasCell n s (row_of f) (index_of s f.prefix) f.spacing
  pub named : prefix_at s (index_of s f.prefix) ≡ f.prefix
  -- it stands in an earlier row, or is of a longer entry of this row
  pub before : (row_of f < j) ⊎ ((row_of f ≡ j) × (length_at s d < length_at s (index_of s f.prefix)))
  pub near : j < row_of f + rows_of (scheme_in s)
