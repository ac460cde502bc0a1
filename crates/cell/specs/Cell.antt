-- Spacings, cells, deletion and merging, children: as document 01 words them. Definitions only.
use Rattle.std.specs.Prelude.{ℕ, zero, suc, ◌+◌, ◌-◌, Bool, true, false, not, ◌&&◌, cond, List, [], ◌∷◌, map, length, take, leb}
use Rattle.word.specs.Lists.{all, keep, each, row, one_to}
use Rattle.word.specs.Word.{avoids, longest, reduce, has, entry, perms}
use Rattle.cell.specs.Basis.{same, basis}

unfoldable pub total : List ℕ → ℕ
total [] = 0
total (x ∷ g) = x + total g

-- x put into its place in an ascending list
unfoldable pub insert : ℕ → List ℕ → List ℕ
insert x [] = x ∷ []
insert x (y ∷ u) = cond (leb x y) (x ∷ (y ∷ u)) (y ∷ insert x u)

unfoldable pub sort : List ℕ → List ℕ
unfolding insert
sort [] = []
sort (x ∷ u) = insert x (sort u)

-- how many numbers lie between a and the first of an ascending list, between each two of its
-- neighbours, and between the last and b
unfoldable pub between : ℕ → List ℕ → ℕ → List ℕ
between a [] b = (b - a - 1) ∷ []
between a (c ∷ u) b = (c - a - 1) ∷ between c u b

-- "For a permutation of length n whose first k entries, sorted, are c1 < .. < ck, it is (c1 − 1, c2
-- − c1 − 1, .., n − ck); for ε it is (n)" (01)
unfoldable pub spacing : ℕ → List ℕ → List ℕ
unfolding sort between
spacing n u = between 0 (sort u) (suc n)

-- "The cell (p; g) is the set of permutations of length k + total(g) that avoid every pattern and
-- whose first k entries reduce to p with spacing g" (01), listed in lexicographic order
unfoldable pub in_cell : List (List ℕ) → List ℕ → List ℕ → List ℕ → Bool
unfolding avoids reduce same spacing
in_cell P p g w = avoids P w && (same (reduce (take (length p) w)) p && same (spacing (length w) (take (length p) w)) g)

unfoldable pub cell : List (List ℕ) → List ℕ → List ℕ → List (List ℕ)
unfolding in_cell total perms
cell P p g = keep (in_cell P p g) (perms (length p + total g))

-- the entries at the positions that are not in R
unfoldable pub without : List ℕ → List ℕ → List ℕ
unfolding has entry
without R w = map (entry w) (keep (λ i. not (has i R)) (one_to (length w)))

-- "Deleting position r of p .. gives the reduced rest" (01), for a list of positions
unfoldable pub deleted : List ℕ → List ℕ → List ℕ
unfolding without reduce
deleted R w = reduce (without R w)

-- "In g, counting from 0, the components v − 1 and v are added into one" (01), for each value v of
-- a list; x is what component v - 1 holds
unfoldable pub merge_from : List ℕ → ℕ → ℕ → List ℕ → List ℕ
unfolding has
merge_from vs v x [] = x ∷ []
merge_from vs v x (y ∷ g) = cond (has v vs) (merge_from vs (suc v) (x + y) g) (x ∷ merge_from vs (suc v) y g)

unfoldable pub merge_values : List ℕ → List ℕ → List ℕ
unfolding merge_from
merge_values vs [] = []
merge_values vs (x ∷ g) = merge_from vs 1 x g

-- the spacing of the shorter prefix: merged around the values that p has at the deleted positions
unfoldable pub merged : List ℕ → List ℕ → List ℕ → List ℕ
unfolding merge_values entry
merged R p g = merge_values (map (entry p) R) g

-- "A child of p is a permutation one longer whose first k entries reduce to p" (01)
unfoldable pub children : List ℕ → List (List ℕ)
unfolding same reduce perms
children p = keep (λ q. same (reduce (take (length p) q)) p) (perms (suc (length p)))

-- g is at least b in each component
unfoldable pub at_least : List ℕ → List ℕ → Bool
at_least [] [] = true
at_least [] (y ∷ b) = false
at_least (x ∷ g) [] = false
at_least (x ∷ g) (y ∷ b) = leb y x && at_least g b

-- g is at least none of the listed vectors
unfoldable pub free : List (List ℕ) → List ℕ → Bool
unfolding at_least
free B g = all (λ b. not (at_least g b)) B

-- "From now on m is the longest of the patterns that contain no other pattern of the set" (02):
-- its length, "0 for no patterns" (01)
unfoldable pub m_of : List (List ℕ) → ℕ
unfolding longest basis
m_of P = longest (basis P)

-- the vectors with k components and total t, in lexicographic order
unfoldable pub vectors : ℕ → ℕ → List (List ℕ)
vectors zero zero = [] ∷ []
vectors zero (suc t) = []
vectors (suc k) t = each (λ x. map (λ g. x ∷ g) (vectors k (t - x))) (row 0 (suc t))

-- "the spacings that are at least no listed vector and have total at most m − 1" (01), for a prefix
-- of length k: by rising total, lexicographic within a total
unfoldable pub compared_to : ℕ → ℕ → List (List ℕ) → List (List ℕ)
unfolding vectors free
compared_to m k B = keep (free B) (each (vectors (suc k)) (row 0 m))

abbrev pub compared : List (List ℕ) → ℕ → List (List ℕ) → List (List ℕ)
compared P k B = compared_to (m_of P) k B
