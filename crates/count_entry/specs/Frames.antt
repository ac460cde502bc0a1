-- The layout of a table in memory, and what the steps of an entry are given and leave. Definitions
-- only.
use Rattle.std.specs.Prelude.{ℕ, ◌+◌, ◌-◌, ◌*◌, ◌%◌, ◌≤◌, ◌≡◌, List, [], ◌∷◌, map, get_or}
use Rattle.word.specs.Ceilings.{COMPONENTS, LENGTH}
use Rattle.cell.specs.Binomial.{binomial}
use Rattle.spacing.specs.Sizes.{NEAR}
use Rattle.forms.specs.SchemeMemory.{scheme_in}
use Rattle.count_step.specs.declared.cells.Task.{Task}
use Rattle.count_plan.specs.Layout.{width_of, rows_of}
use Rattle.count_plan.specs.Plan.{Item, Places}
use Rattle.count_plan.specs.SheetRows.{field_of, flags_at, item_of, Sheet}
use Rattle.count_walk.specs.Cells.{entry_cells}
use Rattle.count_walk.specs.Walk.{count_walked}
use Rattle.count_cursor.specs.Cursor.{cell_of, AtCell}
use Rattle.count_cursor.specs.declared.cursor.Cursor.{Cursor}
use Rattle.count_entry.specs.declared.entry.Work.{Work}
use Rattle.count_entry.specs.declared.frame.Frame.{Frame}

-- the layout that keeps so many rows, by the places of the entries in a row
abbrev pub frame_of : List ℕ → ℕ → ℕ → ℕ → Frame
frame_of places n entries rows = record { last = n; width = get_or places entries 0; rows = rows; entries = entries }

-- the row that is filled is kept, and up to PREFIX rows before it, each of up to NEAR cells
pub record FrameFits (f : Frame) : Type 0 where
  pub some : 1 ≤ f.rows
  pub few : f.rows ≤ COMPONENTS
  pub near : f.width ≤ NEAR

-- the sheet of a scheme, the places of its entries in a row, and the layout of the table
pub record Framed (sheet places : List ℕ) (f : Frame) : Type 0 where
  pub of : Sheet sheet
  pub counted : f.entries ≡ of.s.count
  pub small : f.last ≤ LENGTH
  pub placed : Places f.last of.s places
  pub width_is : f.width ≡ width_of f.last of.s
  pub rows_are : f.rows ≡ rows_of (scheme_in of.s)

-- and a cursor at a cell of a row that the table has
pub record CellGiven (sheet places : List ℕ) (f : Frame) (c : Cursor) : Type 0 where
  pub framed : Framed sheet places f
  pub at : AtCell framed.of.s c
  pub low : c.row ≤ f.last

-- where the cells of the cursor's entry begin in its row
abbrev pub begins_at : List ℕ → Frame → Cursor → ℕ
begins_at places f c = c.row % f.rows * f.width + get_or places c.entry 0

-- where the row begins in which the cells stand that an entry reads: as many rows back as it
-- deletes positions
abbrev pub offset_of : Frame → Item → ℕ → ℕ
offset_of f t j = (j - t.deleted) % f.rows * f.width

-- what the steps of an entry with the item t, these flags and n gap vectors are given in row j
abbrev pub task_of : Frame → Item → List ℕ → ℕ → ℕ → Task
task_of f t gone n j =
    record {
      length = t.length;
      total = j - t.length;
      deleted = t.deleted;
      gone = gone;
      alone = t.alone;
      links = map (λ x. offset_of f t j + x) t.links;
      gap_count = n;
    }

-- the same for the cursor's entry in its row
abbrev pub task_at : List ℕ → List ℕ → Frame → Cursor → Task
task_at sheet places f c =
    task_of f (item_of sheet places c.entry) (flags_at sheet c.entry) (field_of sheet c.entry 3) c.row

-- what a pass over the cells of the cursor's entry in its row is given: where they begin, how many
-- there are, and what their steps share
pub record WorkFor (sheet places : List ℕ) (f : Frame) (c : Cursor) (w : Work) : Type 0 where
  pub at : w.at ≡ begins_at places f c
  pub size : w.size ≡ binomial c.row w.task.length
  pub task : w.task ≡ task_at sheet places f c

-- The table after steps, for every scheme whose sheet it is: at the cursor's cell, at all cells of
-- its entry in its row

abbrev pub CellWalked : List ℕ → List ℕ → Frame → Cursor → List ℕ → List ℕ → Type 0
CellWalked sheet places f c T U =
    (o : CellGiven sheet places f c) → U ≡ count_walked o.framed.of.P f.last o.framed.of.s (cell_of o.framed.of.s c ∷ []) T

abbrev pub EntryWalked : List ℕ → List ℕ → Frame → Cursor → List ℕ → List ℕ → Type 0
EntryWalked sheet places f c T U =
    (o : CellGiven sheet places f c) →
    U ≡ count_walked o.framed.of.P f.last o.framed.of.s (entry_cells o.framed.of.s c.row c.entry) T
