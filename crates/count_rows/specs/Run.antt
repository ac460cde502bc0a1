-- What the passes over all rows give. Definitions only.
use Rattle.std.specs.Prelude.{ℕ, suc, ◌≤◌, ◌<◌, ◌≡◌, List, [], ◌∷◌, ◌++◌, length, get_or, drop, replicate}
use Rattle.word.specs.Ceilings.{COUNTS}
use Rattle.forms.specs.SchemeList.{EntryList}
use Rattle.forms.specs.SchemeMemory.{scheme_in}
use Rattle.forms.specs.declared.memory.Scheme.{Scheme}
use Rattle.verdict.specs.Value.{count_of}
use Rattle.count_step.specs.Step.{held}
use Rattle.count_plan.specs.Layout.{rows_of, cell_at}
use Rattle.count_walk.specs.Cells.{cells_of}
use Rattle.count_walk.specs.Walk.{count_walked}
use Rattle.count_rows.specs.Rows.{RootGiven}
use Rattle.count_entry.specs.declared.frame.Frame.{Frame}

-- m zeros in front of what the table has behind them: "After a count those cells hold 0, the rest
-- being untouched" (01)
abbrev pub cleared : ℕ → List ℕ → List ℕ
cleared m T = replicate m 0 ++ drop m T

-- what the cell of ε in row j holds after the rows up to j, in the layout of n
abbrev pub root_value : List (List ℕ) → ℕ → Scheme → ℕ → List ℕ → ℕ → ℕ
root_value P n s root T j = held (count_walked P n s (cells_of s j) T) (cell_at (rows_of (scheme_in s)) n s j root (j ∷ []))

-- the value in the last row
abbrev pub LastValue : List ℕ → List ℕ → Frame → ℕ → List ℕ → ℕ → Type 0
LastValue sheet places f root T r =
    (o : RootGiven sheet places f root) → r ≡ root_value o.framed.of.P f.last o.framed.of.s root T f.last

-- the values in the rows below j, and zeros
pub record ValuesTo (P : List (List ℕ)) (n : ℕ) (s : Scheme) (root : ℕ) (T : List ℕ) (j : ℕ) (values : List ℕ) : Type 0 where
  pub size : length values ≡ COUNTS
  pub below : (i : ℕ) → i < j → get_or values i 0 ≡ root_value P n s root T i
  pub rest : (i : ℕ) → j ≤ i → get_or values i 0 ≡ 0

abbrev pub Values : List ℕ → List ℕ → Frame → ℕ → List ℕ → List ℕ → Type 0
Values sheet places f root T values =
    (o : RootGiven sheet places f root) → ValuesTo o.framed.of.P f.last o.framed.of.s root T (suc f.last) values

-- the counts for the lengths up to n, and zeros
pub record Counts (P : List (List ℕ)) (E : List EntryList) (n : ℕ) (counts : List ℕ) : Type 0 where
  pub size : length counts ≡ COUNTS
  pub upto : (j : ℕ) → j ≤ n → get_or counts j 0 ≡ count_of P E j
  pub above : (j : ℕ) → n < j → get_or counts j 0 ≡ 0
