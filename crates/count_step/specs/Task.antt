-- What the passes over the cells of an entry are given. Definitions only.
use Rattle.std.specs.Prelude.{ℕ, ◌+◌, ◌*◌, ◌≤◌, List, get_or, take}
use Rattle.word.specs.Ceilings.{PREFIX, LENGTH}
use Rattle.forms.specs.GapRows.{gaps_of, HasVectors}
use Rattle.spacing.specs.Sizes.{RANKS, FAR}
use Rattle.spacing.specs.Flagged.{flagged}
use Rattle.count_step.specs.Feed.{Feed, reads_of}
use Rattle.count_step.specs.Step.{step_of}
use Rattle.count_step.specs.declared.cells.Task.{Task}

-- places in the table
abbrev pub Near : List ℕ → Type 0
Near links = (i : ℕ) → get_or links i 0 ≤ FAR

-- a place in the table, and ranks of up to three spacings beside it
abbrev pub REACH : ℕ
REACH = FAR + 3 * RANKS

-- an entry of length at most PREFIX at a length of at most LENGTH
pub record TaskFits (t : Task) : Type 0 where
  pub short : t.length ≤ PREFIX
  pub sum : t.length + t.total ≤ LENGTH
  pub near : Near t.links

-- the gap vectors of the entry stand in the array
abbrev pub TaskGaps : Task → List ℕ → Type 0
TaskGaps t parts = HasVectors parts t.gap_count

-- the spacing of a cell, in memory
abbrev pub spacing_in : ℕ → List ℕ → List ℕ
spacing_in k g = take (k + 1) g

-- the places that the step of a task reads at a spacing
abbrev pub task_reads : Task → List ℕ → List ℕ → Feed ℕ
task_reads t parts g = reads_of (gaps_of parts (t.length + 1) t.gap_count) t.deleted (flagged t.gone t.length) t.links g

-- what it stores there
abbrev pub task_step : Task → List ℕ → List ℕ → List ℕ → ℕ
task_step t parts T g =
    step_of T (gaps_of parts (t.length + 1) t.gap_count) t.deleted (flagged t.gone t.length) t.alone t.links g
