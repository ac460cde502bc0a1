-- Words of first entries, and whether an avoider of a given length begins with them. Definitions
-- only.
use Rattle.std.specs.Prelude.{ℕ, Bool, not, ◌&&◌, ◌||◌, List, [], ◌∷◌, ◌++◌, length, take}
use Rattle.word.specs.Lists.{all, any, one_to}
use Rattle.word.specs.Word.{avoids, avoiders, has, distinct, within}
use Rattle.cell.specs.Basis.{same}

-- w has the entries of u in front
unfoldable pub begins : List ℕ → List ℕ → Bool
unfolding same
begins u w = same (take (length u) w) u

-- some avoider of length n begins with u
unfoldable pub completable : List (List ℕ) → ℕ → List ℕ → Bool
unfolding begins avoiders
completable P n u = any (begins u) (avoiders P n)

-- the entries of u are from 1 to n, and none stands twice
unfoldable pub begun : ℕ → List ℕ → Bool
unfolding within distinct
begun n u = all (within n) u && distinct u

-- v stands in u already, or u followed by v avoids the patterns
unfoldable pub allowed : List (List ℕ) → List ℕ → ℕ → Bool
unfolding has avoids
allowed P u v = has v u || avoids P (u ++ (v ∷ []))

-- every value from 1 to n is allowed after u
unfoldable pub all_allowed : List (List ℕ) → ℕ → List ℕ → Bool
unfolding allowed
all_allowed P n u = all (allowed P u) (one_to n)

-- v does not stand in u, and some avoider of length n begins with u followed by v
unfoldable pub goes_on : List (List ℕ) → ℕ → List ℕ → ℕ → Bool
unfolding has completable
goes_on P n u v = not (has v u) && completable P n (u ++ (v ∷ []))
