-- What a pattern is, and the patterns that a set in memory holds. Definitions only.
use Rattle.std.specs.Prelude.{ℕ, zero, suc, Bool, false, cond, List, [], ◌∷◌, length, take, eqb}
use Rattle.word.specs.Word.{is_perm}

-- "a digit run is none, or a pattern is ε" (01, refusal 3): a pattern is a permutation of at least
-- one entry
abbrev pub is_pattern : List ℕ → Bool
is_pattern β = cond (eqb (length β) 0) false (is_perm β)

-- the patterns of a set in memory: of each of the first `count` rows as many digits as its
-- length says
abbrev pub patterns_of : List (List ℕ) → List ℕ → ℕ → List (List ℕ)
patterns_of rows lengths zero = []
patterns_of [] lengths (suc n) = []
patterns_of (r ∷ rows) [] (suc n) = []
patterns_of (r ∷ rows) (k ∷ lengths) (suc n) = take k r ∷ patterns_of rows lengths n
