-- The basis of a set of patterns: document 001 calls a set a basis when no member contains
-- another. Definitions only.
use Rattle.std.specs.Prelude.{ℕ, Bool, true, false, not, ◌&&◌, ◌||◌, List, [], ◌∷◌, eqb}
use Rattle.word.specs.Lists.{all, keep}
use Rattle.word.specs.Word.{contains}

-- the two lists have the same numbers in the same places
unfoldable pub same : List ℕ → List ℕ → Bool
same [] [] = true
same [] (y ∷ v) = false
same (x ∷ u) [] = false
same (x ∷ u) (y ∷ v) = eqb x y && same u v

-- β contains no other pattern of P
unfoldable pub basic : List (List ℕ) → List ℕ → Bool
unfolding same contains
basic P β = all (λ α. same α β || not (contains α β)) P

-- "the patterns that contain no other pattern of the set" (order 3), in their order
unfoldable pub basis : List (List ℕ) → List (List ℕ)
unfolding basic
basis P = keep (basic P) P
