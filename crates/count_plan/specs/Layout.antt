-- Which cell of the table holds what. Definitions only.
use Rattle.std.specs.Prelude.{ℕ, zero, suc, max, ◌+◌, ◌*◌, ◌%◌, ◌≤◌, ◌<◌, ◌≡◌, List, [], ◌∷◌, map, length, get_or}
use Rattle.cell.specs.Cell.{total}
use Rattle.cell.specs.Binomial.{binomial}
use Rattle.spacing.specs.Rank.{rank_of}
use Rattle.forms.specs.SchemeList.{Does, expands, deletes, EntryList}
use Rattle.forms.specs.SchemeMemory.{no_entry, entry_in}
use Rattle.forms.specs.declared.memory.Scheme.{Scheme}

-- the entry with index i
abbrev pub entry_at : Scheme → ℕ → EntryList
entry_at s i = entry_in (get_or s.entries i no_entry)

abbrev pub prefix_at : Scheme → ℕ → List ℕ
prefix_at s i = (entry_at s i).prefix

-- the length of the prefix of the entry with index i
abbrev pub length_at : Scheme → ℕ → ℕ
length_at s i = (get_or s.entries i no_entry).length

-- where in a row of length at most n the cells of the entry with index i begin: C(n, k) cells for
-- each entry before it, k being its length
unfoldable pub place_at : ℕ → Scheme → ℕ → ℕ
unfolding binomial
place_at n s zero = 0
place_at n s (suc i) = place_at n s i + binomial n (length_at s i)

-- the cells of a row
abbrev pub width_of : ℕ → Scheme → ℕ
width_of n s = place_at n s s.count

-- how many positions a rule deletes
abbrev pub deleted_by : Does → ℕ
deleted_by expands = 0
deleted_by (deletes R) = length R

-- the size of the largest set of positions that an entry deletes, whether it is reached or not
abbrev pub largest_set : List EntryList → ℕ
largest_set [] = 0
largest_set (e ∷ E) = max (deleted_by e.rule) (largest_set E)

-- How many rows the table keeps at a time, "1 + the largest set" (02, order 4): the row that is
-- filled, and as many rows before it as an entry deletes positions, in which the targets stand.
abbrev pub rows_of : List EntryList → ℕ
rows_of E = suc (largest_set E)

-- The numbers of 64 bits that a table needs which keeps so many rows, with so many numbers a cell
abbrev pub need_with : ℕ → ℕ → ℕ → List EntryList → ℕ
need_with rows numbers n E = numbers * (rows * total (map (λ e. binomial n (length e.prefix)) E))

-- "The table then needs (1 + the largest set) times the sum in 01" (02, order 4), which is "the sum
-- of C(n, k) over all entries, k being the entry's length" (01); counting has one number a cell
abbrev pub need_of : ℕ → List EntryList → ℕ
need_of n E = need_with (rows_of E) 1 n E

-- The table has a block of cells for each row that is kept: row j is in block j mod `rows`, which
-- begins at this cell.
abbrev pub block_of : ℕ → ℕ → Scheme → ℕ → ℕ
block_of rows n s j = j % rows * width_of n s

-- In row j, the value at the entry with index d and the spacing g stands in this cell.
abbrev pub cell_at : ℕ → ℕ → Scheme → ℕ → ℕ → List ℕ → ℕ
cell_at rows n s j d g = block_of rows n s j + place_at n s d + rank_of g

-- The cell with index i begins at this number of the table.
abbrev pub number_at : ℕ → ℕ → ℕ
number_at numbers i = numbers * i

-- the entry with index d has a cell at the spacing g in row j, which is not above n
pub record HasCell (n : ℕ) (s : Scheme) (j d : ℕ) (g : List ℕ) : Type 0 where
  pub inside : d < s.count
  pub wide : length g ≡ suc (length_at s d)
  pub whole : length_at s d + total g ≡ j
  pub low : j ≤ n
