-- The basis of a set, as a set in memory. Definitions only.
use Rattle.std.specs.Prelude.{ℕ, ◌≤◌, ◌<◌, ◌≡◌, List, get_or}
use Rattle.word.specs.Ceilings.{DIGITS, PATTERNS}
use Rattle.cell.specs.Basis.{basis}
use Rattle.forms.specs.SchemeMemory.{no_pattern, patterns_in}
use Rattle.forms.specs.declared.memory.Patterns.{Patterns}

-- it holds the basis of the patterns P, and is within the ceilings
pub record IsBasis (P : List (List ℕ)) (r : Patterns) : Type 0 where
  pub holds : patterns_in r ≡ basis P
  pub few : r.count ≤ PATTERNS
  pub short : (i : ℕ) → i < r.count → (get_or r.items i no_pattern).length ≤ DIGITS
