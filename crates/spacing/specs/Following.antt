-- The first spacing of a total, those that come after a spacing, and the next. Definitions only.
-- The order is the lexicographic one (LexLaws).
use Rattle.std.specs.Prelude.{ℕ, zero, suc, ◌+◌, ◌≡◌, Bool, true, false, cond, Option, Some, None, List, [], ◌∷◌, ◌++◌, map}
use Rattle.std.specs.Prelude.{length, take, drop}
use Rattle.cell.specs.Cell.{total, vectors}

-- the lexicographically first vector with k + 1 components and total t: k zeros, and then t
unfoldable pub first_vector : ℕ → ℕ → List ℕ
first_vector zero t = t ∷ []
first_vector (suc k) t = 0 ∷ first_vector k t

-- the vectors whose first component is above x, with k more components; t is what the others hold
-- where the first is x
unfoldable pub above : ℕ → ℕ → ℕ → List (List ℕ)
unfolding vectors
above k x zero = []
above k x (suc t) = map (λ g. suc x ∷ g) (vectors k t) ++ above k (suc x) t

-- the vectors that come after g, in lexicographic order, among those with as many components and
-- the same total
unfoldable pub later : List ℕ → List (List ℕ)
unfolding above total
later [] = []
later (x ∷ g) = map (λ h. x ∷ h) (later g) ++ above (length g) x (total g)

-- n comes next after v, if one was found, and else none comes after v: one is found exactly if one
-- comes after v. n has the total of v.
pub record Follows (v : List ℕ) (found : Bool) (n : List ℕ) : Type 0 where
  pub rest : later v ≡ cond found (n ∷ later n) []
  pub same_total : total n ≡ total v

-- whether a spacing was found
abbrev pub was_found : Option (List ℕ) → Bool
was_found None = false
was_found (Some n) = true

-- the array that was found, or g
abbrev pub found_or : List ℕ → Option (List ℕ) → List ℕ
found_or g None = g
found_or g (Some n) = n

-- The arrays g and n hold spacings of k + 1 components: n the one that comes next after that of g,
-- where one comes next; and where there is none, nothing is found, and n is g. Behind the spacing n
-- has what g has.
pub record Steps (g : List ℕ) (k : ℕ) (next : Option (List ℕ)) : Type 0 where
  pub follows : Follows (take (k + 1) g) (was_found next) (take (k + 1) (found_or g next))
  pub behind : drop (k + 1) (found_or g next) ≡ drop (k + 1) g
