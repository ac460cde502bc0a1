-- The gap vectors of an entry in one array, COMPONENTS numbers for each. Definitions only.
use Rattle.std.specs.Prelude.{ℕ, ◌*◌, ◌≤◌, List, map, length, take, drop}
use Rattle.word.specs.Ceilings.{COMPONENTS}
use Rattle.word.specs.Lists.{row}

-- the vector with index j of those that stand in one array, as many of its components as the width
-- says
abbrev pub vector_at : List ℕ → ℕ → ℕ → List ℕ
vector_at parts width j = take width (drop (COMPONENTS * j) parts)

-- the first n of them
unfoldable pub gaps_of : List ℕ → ℕ → ℕ → List (List ℕ)
gaps_of parts width n = map (vector_at parts width) (row 0 n)

-- the first n of them stand in the array
abbrev pub HasVectors : List ℕ → ℕ → Type 0
HasVectors parts n = COMPONENTS * n ≤ length parts
