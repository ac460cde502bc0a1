-- Words, containment, reduction, permutations and avoiders, as documents 000, 001 and 01 have them.
-- Definitions only.
use Rattle.std.specs.Prelude.{ℕ, zero, suc, max, Bool, true, false, not, ◌&&◌, cond, List, [], ◌∷◌, map, length, get_or, leb, ltb, eqb}
use Rattle.std.specs.Bool.{beq}
use Rattle.std.proofs.Math.Option.{Option}
use Rattle.word.specs.Lists.{all, any, keep, first, each, sublists, one_to}

-- a is below the entries of u in just the places where b is below those of v, and u is as long as v
unfoldable pub alike : ℕ → List ℕ → ℕ → List ℕ → Bool
alike a [] b [] = true
alike a [] b (y ∷ v) = false
alike a (x ∷ u) b [] = false
alike a (x ∷ u) b (y ∷ v) = beq (ltb a x) (ltb b y) && alike a u b v

-- Order isomorphism: "compare pairwise as the pattern's entries do" (01). Of two entries of a
-- permutation one is the smaller, so it is enough to ask of each entry and each later one whether
-- the first is below the second.
unfoldable pub iso : List ℕ → List ℕ → Bool
unfolding alike
iso [] [] = true
iso [] (y ∷ v) = false
iso (x ∷ u) [] = false
iso (x ∷ u) (y ∷ v) = alike x u y v && iso u v

-- "A permutation contains a pattern if some of its entries, in their order, compare pairwise as the
-- pattern's entries do" (01)
unfoldable pub contains : List ℕ → List ℕ → Bool
unfolding iso
contains β w = any (iso β) (sublists (length β) w)

-- the entry at a position; "positions count from 1" (01)
unfoldable pub entry : List ℕ → ℕ → ℕ
entry w zero = 0
entry w (suc i) = get_or w i 0

-- the positions of the copy that is lexicographically first (02, order 1), or none
unfoldable pub first_copy : List ℕ → List ℕ → Option (List ℕ)
unfolding iso entry
first_copy β w = first (λ at. iso β (map (entry w) at)) (sublists (length β) (one_to (length w)))

-- a word avoids a list of patterns if it contains none of them
unfoldable pub avoids : List (List ℕ) → List ℕ → Bool
unfolding contains
avoids P w = all (λ β. not (contains β w)) P

-- the length of the longest pattern, 0 for no patterns
unfoldable pub longest : List (List ℕ) → ℕ
longest [] = 0
longest (β ∷ P) = max (length β) (longest P)

-- how many entries of u are at most x
unfoldable pub under : List ℕ → ℕ → ℕ
under [] x = 0
under (y ∷ u) x = cond (leb y x) (suc (under u x)) (under u x)

-- "Reducing a word of distinct numbers replaces the smallest by 1, the next by 2, and so on" (01)
unfoldable pub reduce : List ℕ → List ℕ
unfolding under
reduce u = map (under u) u

-- x stands in w
unfoldable pub has : ℕ → List ℕ → Bool
has x w = any (eqb x) w

-- no entry stands twice
unfoldable pub distinct : List ℕ → Bool
unfolding has
distinct [] = true
distinct (x ∷ w) = not (has x w) && distinct w

-- x is one of the numbers 1 to n
unfoldable pub within : ℕ → ℕ → Bool
within n x = leb 1 x && leb x n

-- "A permutation of length k lists 1 to k, each once; ε has length 0" (01)
unfoldable pub is_perm : List ℕ → Bool
unfolding within distinct
is_perm w = all (within (length w)) w && distinct w

-- y, stepping over a: a number at or above a moves up by one
unfoldable pub bump : ℕ → ℕ → ℕ
bump a y = cond (ltb y a) y (suc y)

-- the permutations of length n, by their first entry: in lexicographic order
-- (AscendLaws.perms_ascend)
unfoldable pub perms : ℕ → List (List ℕ)
unfolding bump
perms zero = [] ∷ []
perms (suc n) = each (λ a. map (λ s. a ∷ map (bump a) s) (perms n)) (one_to (suc n))

-- the permutations of length n that avoid P, in lexicographic order
unfoldable pub avoiders : List (List ℕ) → ℕ → List (List ℕ)
unfolding avoids perms
avoiders P n = keep (avoids P) (perms n)

-- u comes before v in lexicographic order
unfoldable pub before : List ℕ → List ℕ → Bool
before u [] = false
before [] (y ∷ v) = true
before (x ∷ u) (y ∷ v) = cond (ltb x y) true (eqb x y && before u v)
