-- What a step of counting by inversions is given, and what it stores. Definitions only.
use Rattle.std.specs.Prelude.{ℕ, suc, ◌+◌, ◌-◌, ◌≤◌, ◌<◌, ◌≡◌, List, map, take, drop}
use Rattle.word.specs.Ceilings.{COUNTS, COLUMNS, FIGURES}
use Rattle.word.specs.Inversions.{figure_count}
use Rattle.cell.specs.Cell.{total}
use Rattle.count_step.specs.Feed.{Feed, covered, alone, target, children}
use Rattle.count_step.specs.Task.{TaskFits, REACH, task_reads}
use Rattle.count_step.specs.declared.cells.Task.{Task}
use Rattle.count_plan.specs.Layout.{number_at}
use Rattle.count_figures.specs.Figures.{added_figures, figures_held}
use Rattle.count_figures.specs.declared.children.FigureTask.{FigureTask}
use Rattle.count_figures.specs.declared.children.Part.{Part}
use Rattle.count_figures.specs.declared.children.Shape.{Shape}

-- the numbers at the front of the cell with index i
abbrev pub numbers_from : Shape → List ℕ → ℕ → List ℕ
numbers_from s T i = take s.figures (drop (number_at s.numbers i) T)

-- the figures of the last child of a part find room among n figures
pub record PartFits (p : Part) (s : Shape) (n : ℕ) : Type 0 where
  pub near : p.at ≤ REACH
  pub col : p.col < COLUMNS
  pub sum : p.first + p.values ≤ COUNTS
  pub few : s.numbers ≤ FIGURES
  pub room : p.moved + p.values + s.figures ≤ suc n

-- and those of the last of all children at the spacing G
pub record ChildrenFit (t : Task) (s : Shape) (G : List ℕ) (n : ℕ) : Type 0 where
  pub fits : TaskFits t
  pub whole : total G ≡ t.total
  pub few : s.numbers ≤ FIGURES
  pub room : total G + s.figures ≤ suc n

-- the figures that a step reads in the places of the cells that feed its cell, where its spacing
-- has the total t and a cell is m numbers: that of a target has the same total, those of children
-- have one less
abbrev pub read_figures : ℕ → ℕ → List ℕ → Feed ℕ → Feed (List ℕ)
read_figures m t T covered = covered
read_figures m t T alone = alone
read_figures m t T (target i) = target (figures_held m t T i)
read_figures m t T (children l) = children (map (figures_held m (t - 1) T) l)

-- an entry whose cells have as many figures as their total asks for, in cells that hold them
pub record FigureTaskFits (w : FigureTask) : Type 0 where
  pub fits : TaskFits w.task
  pub number : w.figures ≡ figure_count w.task.total
  pub room : w.figures ≤ w.numbers
  pub few : w.numbers ≤ FIGURES

-- what the step stores at a spacing
abbrev pub figure_step : FigureTask → List ℕ → List ℕ → List ℕ → List ℕ
figure_step w parts T g =
    added_figures (total g) w.task.alone (read_figures w.numbers (total g) T (task_reads w.task parts g))
