-- Where the cursor is, what is left of the cells, and where it moves. Definitions only.
use Rattle.std.specs.Prelude.{ℕ, suc, ◌+◌, ◌-◌, ◌≤◌, ◌<◌, ◌≡◌, ◌⊎◌, cond, List, [], ◌∷◌, ◌++◌, take, leb}
use Rattle.word.specs.Ceilings.{PREFIX, LENGTH}
use Rattle.spacing.specs.Following.{first_vector}
use Rattle.spacing.specs.Rank.{rank_of}
use Rattle.forms.specs.declared.memory.Scheme.{Scheme}
use Rattle.count_plan.specs.Layout.{length_at, HasCell}
use Rattle.count_plan.specs.SheetRows.{field_of, Sheet}
use Rattle.count_walk.specs.Cells.{TableCell, length_cells, shorter_cells, rows_from, row_rest}
use Rattle.count_cursor.specs.declared.cursor.Cursor.{Cursor}

-- the sheet of a scheme, with the number of its entries
pub record Listed (sheet : List ℕ) (entries : ℕ) : Type 0 where
  pub of : Sheet sheet
  pub counted : entries ≡ of.s.count

-- r is the first entry of length k with the index `from` or a larger one, or the number of entries
-- where there is none
pub record FirstFrom (s : Scheme) (k from r : ℕ) : Type 0 where
  pub low : from ≤ r
  pub high : r ≤ s.count
  pub none : (d : ℕ) → from ≤ d → d < r → length_at s d ≡ k → ⊥
  pub here : r < s.count → length_at s r ≡ k

abbrev pub FindsFrom : List ℕ → ℕ → ℕ → ℕ → ℕ → Type 0
FindsFrom sheet entries k from r = (o : Listed sheet entries) → FirstFrom o.of.s k from r

-- r is the first of the longest entries that are shorter than k, or the number of entries where
-- there is none
pub record FirstBelow (s : Scheme) (k r : ℕ) : Type 0 where
  pub high : r ≤ s.count
  pub less : r < s.count → length_at s r < k
  pub first : r < s.count → FirstFrom s (length_at s r) 0 r
  pub between : r < s.count → (d : ℕ) → d < s.count → length_at s r < length_at s d → length_at s d < k → ⊥
  pub none : s.count ≤ r → (d : ℕ) → d < s.count → length_at s d < k → ⊥

abbrev pub FindsBelow : List ℕ → ℕ → ℕ → ℕ → Type 0
FindsBelow sheet entries k r = (o : Listed sheet entries) → FirstBelow o.of.s k r

-- every entry of length r or more has no cells in the row of length j
pub record Top (j r : ℕ) : Type 0 where
  pub low : 1 ≤ r
  pub reach : r ≤ j + 1
  pub short : r ≤ PREFIX + 1
  pub all : (PREFIX < r) ⊎ (j < r)

-- the first cell of the entry with index e in a row
pub record Starts (sheet : List ℕ) (row e : ℕ) (c : Cursor) : Type 0 where
  pub here : c.row ≡ row
  pub entry : c.entry ≡ e
  pub rank : c.rank ≡ 0
  pub spacing : take (field_of sheet e 0 + 1) c.spacing ≡ first_vector (field_of sheet e 0) (row - field_of sheet e 0)

-- the spacing that the cursor is at, and the cell
abbrev pub spacing_of : Scheme → Cursor → List ℕ
spacing_of s c = take (length_at s c.entry + 1) c.spacing

abbrev pub cell_of : Scheme → Cursor → TableCell
cell_of s c = record { row = c.row; entry = c.entry; spacing = spacing_of s c }

-- the cursor is at a cell, and has its rank
pub record AtCell (s : Scheme) (c : Cursor) : Type 0 where
  pub cell : HasCell c.row s c.row c.entry (spacing_of s c)
  pub ranked : rank_of (spacing_of s c) ≡ c.rank

-- what is given to a move of the cursor
pub record CursorGiven (sheet : List ℕ) (entries : ℕ) (c : Cursor) : Type 0 where
  pub listed : Listed sheet entries
  pub at : AtCell listed.of.s c
  pub low : c.row ≤ LENGTH

-- the cells of the rows up to n that come after this entry's
abbrev pub later_of : Scheme → ℕ → Cursor → List TableCell
later_of s n c =
    length_cells s c.row (length_at s c.entry) (suc c.entry) ++ shorter_cells s c.row (length_at s c.entry) ++ rows_from s
    (suc c.row) (n - c.row)

-- the cells of the rows up to n from the cursor on
abbrev pub rest_of : Scheme → ℕ → Cursor → List TableCell
rest_of s n c =
    cond (leb c.row n) (row_rest s c.row c.entry c.rank (spacing_of s c) ++ rows_from s (suc c.row) (n - c.row)) []

-- the cursor at the first cell of a row
pub record RowStart (s : Scheme) (row : ℕ) (c : Cursor) : Type 0 where
  pub at : AtCell s c
  pub here : c.row ≡ row
  pub fresh : c.rank ≡ 0
  pub rest : (n : ℕ) → row ≤ n → rest_of s n c ≡ rows_from s row (suc n - row)

abbrev pub StartsRow : List ℕ → ℕ → ℕ → Cursor → Type 0
StartsRow sheet entries row c = (o : Listed sheet entries) → RowStart o.of.s row c

-- a later entry of this row: a shorter one, or one of this length with a larger index
abbrev pub Later : Scheme → ℕ → ℕ → Type 0
Later s d e = (length_at s e < length_at s d) ⊎ ((length_at s e ≡ length_at s d) × (d < e))

-- r is at the first cell of the entry that comes next
pub record NextEntry (s : Scheme) (c r : Cursor) : Type 0 where
  pub at : AtCell s r
  pub fresh : r.rank ≡ 0
  pub rest : (n : ℕ) → c.row ≤ n → later_of s n c ≡ rest_of s n r
  pub falls : (r.row ≡ suc c.row) ⊎ ((r.row ≡ c.row) × Later s c.entry r.entry)

-- r is at the cell that comes next
pub record MovedOn (s : Scheme) (c r : Cursor) : Type 0 where
  pub at : AtCell s r
  pub rest : (n : ℕ) → c.row ≤ n → rest_of s n c ≡ cell_of s c ∷ rest_of s n r

-- both, for every scheme whose sheet it is, if the cursor is at a cell of it
abbrev pub GoesToNext : List ℕ → ℕ → Cursor → Cursor → Type 0
GoesToNext sheet entries c r = (o : CursorGiven sheet entries c) → NextEntry o.listed.of.s c r

abbrev pub GoesOn : List ℕ → ℕ → Cursor → Cursor → Type 0
GoesOn sheet entries c r = (o : CursorGiven sheet entries c) → MovedOn o.listed.of.s c r
