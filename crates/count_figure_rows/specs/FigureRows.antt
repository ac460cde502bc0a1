-- What the functions of rows of figures are given and leave, and what is read of ε. Definitions
-- only.
use Rattle.std.specs.Prelude.{ℕ, ◌+◌, ◌*◌, ◌%◌, ◌≤◌, ◌<◌, ◌≡◌, List, length, get_or, take, drop}
use Rattle.word.specs.Ceilings.{REFINED}
use Rattle.word.specs.Inversions.{figure_count}
use Rattle.count_step.specs.declared.cells.Task.{Task}
use Rattle.count_plan.specs.Layout.{number_at}
use Rattle.count_walk.specs.Cells.{entry_cells, cells_of}
use Rattle.count_cursor.specs.declared.cursor.Cursor.{Cursor}
use Rattle.count_entry.specs.Frames.{FrameFits, Framed, CellGiven}
use Rattle.count_entry.specs.declared.frame.Frame.{Frame}
use Rattle.count_figures.specs.Figures.{figures_walked}
use Rattle.count_figures.specs.declared.children.FigureTask.{FigureTask}

-- what the steps of an entry are given, where the largest length is n
abbrev pub figure_task : Task → ℕ → FigureTask
figure_task t n = record { task = t; numbers = figure_count n; figures = figure_count t.total }

-- The table after steps, for every scheme whose sheet it is: at all cells of the cursor's entry in
-- its row, at those of all rows

abbrev pub EntryFigured : List ℕ → List ℕ → Frame → Cursor → List ℕ → List ℕ → Type 0
EntryFigured sheet places f c T U =
    (o : CellGiven sheet places f c) →
    U ≡ figures_walked o.framed.of.P f.last o.framed.of.s (entry_cells o.framed.of.s c.row c.entry) T

abbrev pub RowsFigured : List ℕ → List ℕ → Frame → List ℕ → List ℕ → Type 0
RowsFigured sheet places f T U =
    (o : Framed sheet places f) → U ≡ figures_walked o.of.P f.last o.of.s (cells_of o.of.s f.last) T

-- the cell of ε in the last row, and what stands in it
abbrev pub root_cell : List ℕ → Frame → ℕ → ℕ
root_cell places f root = f.last % f.rows * f.width + get_or places root 0

abbrev pub root_figures : List ℕ → Frame → ℕ → List ℕ → List ℕ
root_figures places f root T = take (figure_count f.last) (drop (number_at (figure_count f.last) (root_cell places f root)) T)

-- the table has that cell
pub record RootRead (places : List ℕ) (f : Frame) (root : ℕ) (T : List ℕ) : Type 0 where
  pub fits : FrameFits f
  pub small : f.last ≤ REFINED
  pub inside : root_cell places f root < f.rows * f.width
  pub room : number_at (figure_count f.last) (f.rows * f.width) ≤ length T
