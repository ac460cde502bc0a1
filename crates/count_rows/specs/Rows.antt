-- What the functions of rows are given and leave, and what is read in a row. Definitions only.
use Rattle.std.specs.Prelude.{ℕ, ◌+◌, ◌≡◌, List, [], take}
use Rattle.forms.specs.SchemeMemory.{scheme_in}
use Rattle.count_step.specs.Step.{held}
use Rattle.count_plan.specs.Layout.{length_at, rows_of, cell_at, HasCell}
use Rattle.count_plan.specs.SheetRows.{Names}
use Rattle.count_walk.specs.Cells.{entry_cells, row_cells, cells_of}
use Rattle.count_walk.specs.Content.{Content}
use Rattle.count_walk.specs.Walk.{Makes, walked}
use Rattle.count_cursor.specs.declared.cursor.Cursor.{Cursor}
use Rattle.count_entry.specs.declared.frame.Frame.{Frame}
use Rattle.count_rows.specs.declared.values.CellAt.{CellAt}
use Rattle.count_entry.specs.Frames.{Framed, CellGiven}
use Rattle.count_rows.specs.declared.values.CellAt.{CellAt}

-- a cell that is read
pub record ReadGiven (sheet places : List ℕ) (f : Frame) (c : CellAt) : Type 0 where
  pub framed : Framed sheet places f
  pub cell : HasCell f.last framed.of.s c.row c.entry (take (length_at framed.of.s c.entry + 1) c.spacing)

abbrev pub ReadsCell : List ℕ → List ℕ → Frame → CellAt → List ℕ → ℕ → Type 0
ReadsCell sheet places f c T r =
    (o : ReadGiven sheet places f c) →
    r ≡ held T (cell_at (rows_of (scheme_in o.framed.of.s)) f.last o.framed.of.s c.row c.entry
    (take (length_at o.framed.of.s c.entry + 1) c.spacing))

-- the entry for ε
pub record RootGiven (sheet places : List ℕ) (f : Frame) (root : ℕ) : Type 0 where
  pub framed : Framed sheet places f
  pub root_is : Names framed.of.s [] root

-- A pass that fills cells with what `make` makes of the contents that feed them: the table after
-- its steps at the cells of the cursor's entry in its row, at those of row j, and at those of all
-- rows up to j, for every scheme whose sheet it is. C is what a cell holds, by the largest length.
module _ {A : Type 0} (C : ℕ → Content A) (make : List (List ℕ) → Makes A) (sheet places : List ℕ) (f : Frame) where
  abbrev pub EntryPassed : Cursor → List ℕ → List ℕ → Type 0
  EntryPassed c T U =
      (o : CellGiven sheet places f c) →
      U ≡ walked (C f.last) (make o.framed.of.P) (rows_of (scheme_in o.framed.of.s)) f.last o.framed.of.s
      (entry_cells o.framed.of.s c.row c.entry) T

  abbrev pub RowPassed : ℕ → List ℕ → List ℕ → Type 0
  RowPassed j T U =
      (o : Framed sheet places f) →
      U ≡ walked (C f.last) (make o.of.P) (rows_of (scheme_in o.of.s)) f.last o.of.s (row_cells o.of.s j) T

  abbrev pub RowsPassed : ℕ → List ℕ → List ℕ → Type 0
  RowsPassed j T U =
      (o : Framed sheet places f) →
      U ≡ walked (C f.last) (make o.of.P) (rows_of (scheme_in o.of.s)) f.last o.of.s (cells_of o.of.s j) T
