-- The size of a cell, the listed prefixes, and the number that falls at each cell. Definitions
-- only.
use Rattle.std.specs.Prelude.{ℕ, ◌+◌, ◌*◌, ◌-◌, ◌≡◌, true, List, map, length}
use Rattle.cell.specs.Cell.{total, cell}
use Rattle.forms.specs.SchemeList.{EntryList}
use Rattle.scheme.specs.WellFormed.{listed}

-- the size of a cell
unfoldable pub size : List (List ℕ) → List ℕ → List ℕ → ℕ
size P p g = length (cell P p g)

-- 20!, the factorial of LENGTH: no cell of a length that is counted is larger
-- (ValueLaws.factorial_at_most)
abbrev pub HIGHEST : ℕ
HIGHEST = 2432902008176640000

-- values are numbers of 64 bits: below 2 ^ 64
abbrev pub VALUES : ℕ
VALUES = 18446744073709551616

-- p is the prefix of an entry
abbrev pub Listed : List EntryList → List ℕ → Type 0
Listed E p = listed (map (λ (e : EntryList). e.prefix) E) p ≡ true

-- "eight times the length less the prefix length falls at each cell" (01)
abbrev pub measure : List ℕ → List ℕ → ℕ
measure p g = 8 * (length p + total g) - length p
