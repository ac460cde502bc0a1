-- The values of cells added up, what one step of the count stores, and what steps at one spacing
-- after the other leave. Definitions only.
use Rattle.std.specs.Prelude.{ℕ, zero, suc, ◌+◌, min, List, [], ◌∷◌, get_or}
use Rattle.cell.specs.Cell.{total}
use Rattle.spacing.specs.Rank.{rank_of, next_of}
use Rattle.count_step.specs.Feed.{Feed, covered, alone, target, children, map_feed, reads_of}

-- the largest number of 64 bits, 2 ^ 64 - 1
abbrev pub LARGEST : ℕ
LARGEST = 18446744073709551615

-- A sum of values as the table holds it: the sum itself, or the largest number where the sum is
-- larger. In an accepted scheme no sum is: count_rows/specs/OverflowLaws.antt.
abbrev pub capped : ℕ → ℕ
capped n = min n LARGEST

-- What the cell with index i of the table holds, one number a cell.
abbrev pub held : List ℕ → ℕ → ℕ
held T i = get_or T i 0

-- The value of a cell, from the values of the cells that feed it; `one` is its value where no entry
-- follows the prefix.
abbrev pub added_up : ℕ → Feed ℕ → ℕ
added_up one covered = 0
added_up one alone = one
added_up one (target x) = x
added_up one (children l) = capped (total l)

-- What a step stores at the spacing g of an entry with the gap vectors B. n is the number of
-- positions that the entry deletes, or 0 where it expands, and vs are the values there; `one` is
-- the value at total 0 of an expanding entry.
abbrev pub step_of : List ℕ → List (List ℕ) → ℕ → List ℕ → ℕ → List ℕ → List ℕ → ℕ
step_of T B n vs one links g = added_up one (map_feed (held T) (reads_of B n vs links g))

-- the spacings from g on, m of them, each the next by rank after the one before it
unfoldable pub spacings_from : ℕ → List ℕ → List (List ℕ)
unfolding next_of
spacings_from zero g = []
spacings_from (suc m) g = g ∷ spacings_from m (next_of g)

-- the table after a step at each of these spacings in turn, whose cells stand from `at` on in the
-- order of their ranks; `put` puts what a step gives into a cell
unfoldable pub stored_at : {A : Type 0} → (List ℕ → ℕ → A → List ℕ) → (List ℕ → List ℕ → A) → ℕ → List (List ℕ) → List ℕ → List ℕ
unfolding rank_of
stored_at put step at [] T = T
stored_at put step at (g ∷ gs) T = stored_at put step at gs (put T (at + rank_of g) (step T g))
