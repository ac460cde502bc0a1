-- What the plain evaluation works out from the sheet. Definitions only.
use Rattle.std.specs.Prelude.{ℕ, ◌+◌, ◌≤◌, ◌<◌, ◌≡◌, List, length, take}
use Rattle.word.specs.Ceilings.{COMPONENTS, PLAIN_LENGTH}
use Rattle.cell.specs.Cell.{total}
use Rattle.count_step.specs.Step.{capped}
use Rattle.count_plan.specs.Layout.{prefix_at, length_at}
use Rattle.count_plan.specs.SheetRows.{field_of, Sheet}
use Rattle.count_walk.specs.Values.{Solves, sum_from}

-- the cell of the entry with index e at the spacing in g, whose total is t
pub record CellAt (sheet : List ℕ) (e : ℕ) (g : List ℕ) (t : ℕ) : Type 0 where
  pub of : Sheet sheet
  pub inside : e < of.s.count
  pub seven : length g ≡ COMPONENTS
  pub whole : total (take (length_at of.s e + 1) g) ≡ t
  pub fits : length_at of.s e + t ≤ PLAIN_LENGTH

-- the value there, for every function that solves the recursion
abbrev pub Evaluates : List ℕ → ℕ → List ℕ → ℕ → ℕ → Type 0
Evaluates sheet e g t r =
    (c : CellAt sheet e g t) (v : List ℕ → List ℕ → ℕ) → Solves v c.of.P c.of.s →
    r ≡ v (prefix_at c.of.s e) (take (length_at c.of.s e + 1) g)

-- the sum over every next entry, for every function that solves the recursion
abbrev pub Sums : List ℕ → ℕ → List ℕ → ℕ → ℕ → Type 0
Sums sheet e g t r =
    (c : CellAt sheet e g t) (v : List ℕ → List ℕ → ℕ) → Solves v c.of.P c.of.s → field_of sheet e 1 ≡ 0 →
    r ≡ capped (sum_from v (prefix_at c.of.s e) (take (length_at c.of.s e + 1) g) 1 t)
