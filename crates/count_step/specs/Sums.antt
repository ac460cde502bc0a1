-- Where the cells of the children stand, in the order in which the loops of a step go through them.
-- Definitions only.
use Rattle.std.specs.Prelude.{ℕ, suc, ◌+◌, List, [], ◌∷◌, ◌++◌, map, get_or}
use Rattle.word.specs.Lists.{row}
use Rattle.cell.specs.Cell.{total}
use Rattle.cell.specs.Binomial.{binomial}
use Rattle.spacing.specs.Rank.{rank_from}
use Rattle.count_step.specs.Step.{held}

-- the places `at` + C(z, col) for n values z in a row
abbrev pub part_places : ℕ → ℕ → ℕ → ℕ → List ℕ
part_places at col z n = map (λ y. at + binomial y col) (row z n)

-- The cells of every next entry, component by component: the child whose last entry is i + 1 has
-- its cells from `links` i on. The values of the components before are counted in s, and end below
-- a.
unfoldable pub places_from : List ℕ → ℕ → ℕ → ℕ → List ℕ → List ℕ
unfolding binomial rank_from
places_from links i s a [] = []
places_from links i s a (x ∷ g) =
    part_places (get_or links i 0 + (s + rank_from (suc i) (a + x) g)) (suc i) a x ++
    places_from links (suc i) (s + binomial (a + x) (suc i)) (suc (a + x)) g

unfoldable pub places_of : List ℕ → List ℕ → List ℕ
unfolding places_from
places_of links g = places_from links 0 0 0 g

-- what the table holds in these cells, added up
abbrev pub sum_of : List ℕ → List ℕ → ℕ
sum_of T places = total (map (held T) places)
