-- The rank of a spacing among those of its length and total, and the spacing that comes next.
-- Definitions only.
use Rattle.std.specs.Prelude.{ℕ, zero, suc, ◌+◌, List, [], ◌∷◌}
use Rattle.cell.specs.Binomial.{binomial}

-- The values of a cell's first entries, counted from 0 and in rising order, are c0 < c1 < ..: the
-- first is the first component of the spacing, and each other is one more than the value before it
-- and the component between them. The rank is C(c0, 1) + C(c1, 2) + ..; i values are counted
-- already, z is the next one, and the list is what follows of the spacing.
unfoldable pub rank_from : ℕ → ℕ → List ℕ → ℕ
unfolding binomial
rank_from i z [] = 0
rank_from i z (y ∷ g) = binomial z (suc i) + rank_from (suc i) (suc z + y) g

-- the same where the values before end below a
unfoldable pub rank_after : ℕ → ℕ → List ℕ → ℕ
unfolding rank_from
rank_after i a [] = 0
rank_after i a (x ∷ g) = rank_from i (a + x) g

-- the rank of a spacing
unfoldable pub rank_of : List ℕ → ℕ
unfolding rank_after
rank_of g = rank_after 0 0 g

-- The spacing that comes next by rank: the first component after the first that is not 0 gives one
-- to the component before it, which then also has what the first component had.
unfoldable pub carry : ℕ → List ℕ → List ℕ
carry t [] = t ∷ []
carry t (zero ∷ g) = zero ∷ carry t g
carry t (suc y ∷ g) = suc t ∷ (y ∷ g)

unfoldable pub next_of : List ℕ → List ℕ
unfolding carry
next_of [] = []
next_of (t ∷ g) = carry t g
