-- The unused values taken in pairs: in a completion two of them stand in one of two orders.
-- Definitions only.
use Rattle.std.specs.Prelude.{ℕ, Bool, true, ◌&&◌, ◌||◌, List, [], ◌∷◌, ◌++◌}
use Rattle.word.specs.Lists.{all}
use Rattle.word.specs.Word.{avoids}

-- u followed by b and a, in one of the two orders, avoids the patterns
unfoldable pub pair_allowed : List (List ℕ) → List ℕ → ℕ → ℕ → Bool
unfolding avoids
pair_allowed P u b a = avoids P (u ++ (a ∷ b ∷ [])) || avoids P (u ++ (b ∷ a ∷ []))

-- each value of the second list is allowed with every value before it: those of the first list, and
-- those of the second that stand before it
unfoldable pub pairs_behind : List (List ℕ) → List ℕ → List ℕ → List ℕ → Bool
unfolding pair_allowed
pairs_behind P u seen [] = true
pairs_behind P u seen (b ∷ rest) = all (pair_allowed P u b) seen && pairs_behind P u (seen ++ (b ∷ [])) rest

-- each two of the values are allowed
unfoldable pub all_pairs : List (List ℕ) → List ℕ → List ℕ → Bool
unfolding pairs_behind
all_pairs P u rest = pairs_behind P u [] rest
