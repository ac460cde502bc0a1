-- What filling cells one after the other leaves in the table, whatever the cells hold. Definitions
-- only.
use Rattle.std.specs.Prelude.{ℕ, suc, ◌+◌, ◌≤◌, ◌<◌, ◌≡◌, cond, length}
use mathlib.Core.List.{List, [], ◌∷◌, Memᴰ}
use Rattle.word.specs.Word.{avoids}
use Rattle.cell.specs.Cell.{total}
use Rattle.forms.specs.SchemeList.{EntryList}
use Rattle.forms.specs.SchemeMemory.{scheme_in}
use Rattle.forms.specs.declared.memory.Scheme.{Scheme}
use Rattle.count_step.specs.Feed.{Feed, CellOf, map_feed, feed_of}
use Rattle.count_step.specs.Step.{added_up}
use Rattle.count_plan.specs.Layout.{entry_at, prefix_at, length_at, rows_of, cell_at}
use Rattle.count_plan.specs.Cards.{index_of}
use Rattle.count_walk.specs.Content.{Content, single}
use Rattle.count_walk.specs.Cells.{TableCell}

-- the length of the permutations in a cell, which is the length of its row
abbrev pub row_of : CellOf → ℕ
row_of f = length f.prefix + total f.spacing

-- where the cell of a prefix and a spacing stands
abbrev pub place_of : ℕ → ℕ → Scheme → CellOf → ℕ
place_of rows n s f = cell_at rows n s (row_of f) (index_of s f.prefix) f.spacing

-- where a cell of the table stands
abbrev pub place_in : ℕ → ℕ → Scheme → TableCell → ℕ
place_in rows n s c = cell_at rows n s c.row c.entry c.spacing

-- what makes the content of a cell of an entry at a spacing from the contents that feed it
abbrev pub Makes : Type 0 → Type 0
Makes A = EntryList → List ℕ → Feed A → A

module _ {A : Type 0} (C : Content A) (make : Makes A) (rows n : ℕ) (s : Scheme) where
  -- what a step puts into a cell: it is made from what stands in the cells that feed it
  abbrev pub step_at : TableCell → List ℕ → A
  step_at c T =
      make (entry_at s c.entry) c.spacing
      (map_feed (λ f. C.holds (total f.spacing) T (place_of rows n s f)) (feed_of (entry_at s c.entry) c.spacing))

  -- the table after one step
  abbrev pub stepped : TableCell → List ℕ → List ℕ
  stepped c T = C.put T (place_in rows n s c) (step_at c T)

  -- the table after a step at each of the cells
  unfoldable pub walked : List TableCell → List ℕ → List ℕ
  walked [] T = T
  walked (c ∷ cs) T = walked cs (stepped c T)

-- A function of prefixes and spacings solves a recursion for the lengths up to n: its value at each
-- cell is made from its values at the cells that feed it, and fits into a cell.
pub record Solution {A : Type 0} (C : Content A) (make : Makes A) (n : ℕ) (s : Scheme) (v : List ℕ → List ℕ → A) : Type 0 where
  pub makes : (d : ℕ) → d < s.count → (g : List ℕ) → length g ≡ suc (length_at s d) → length_at s d + total g ≤ n →
      v (prefix_at s d) g ≡ make (entry_at s d) g (map_feed (λ f. v f.prefix f.spacing) (feed_of (entry_at s d) g))
  pub fits : (d : ℕ) → d < s.count → (g : List ℕ) → length g ≡ suc (length_at s d) → length_at s d + total g ≤ n →
      C.fits (total g) (v (prefix_at s d) g)

-- The cells that were filled, of the rows that are kept, have their values: those of every row less
-- than `rows` before the last one that was begun.
abbrev pub Hold : {A : Type 0} → Content A → ℕ → ℕ → Scheme → (List ℕ → List ℕ → A) → List TableCell → List ℕ → Type 0
Hold C rows n s v cells T =
    (c : TableCell) → Memᴰ c cells → ((x : TableCell) → Memᴰ x cells → x.row < c.row + rows) →
    C.holds (total c.spacing) T (place_in rows n s c) ≡ v (prefix_at s c.entry) c.spacing

-- The value of a cell of counting: "gives 1 if p avoids all patterns, else 0" (01), or a sum
abbrev pub count_makes : List (List ℕ) → Makes ℕ
count_makes P e g fed = added_up (cond (avoids P e.prefix) 1 0) fed

-- the table after counting's steps at the cells, in the layout of n
abbrev pub count_walked : List (List ℕ) → ℕ → Scheme → List TableCell → List ℕ → List ℕ
count_walked P n s cells T = walked single (count_makes P) (rows_of (scheme_in s)) n s cells T
