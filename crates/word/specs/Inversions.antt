-- Inversions, and how many avoiders of a length have how many of them: document 004, chapter 4, and
-- order 5 of document 02. Definitions only.
use Rattle.std.specs.Prelude.{ℕ, suc, ◌+◌, ◌*◌, ◌-◌, ◌/◌, cond, List, [], ◌∷◌, map, length, ltb, eqb}
use Rattle.word.specs.Lists.{keep, row}
use Rattle.word.specs.Word.{avoiders}

-- how many entries of w are smaller than x
unfoldable pub smaller : ℕ → List ℕ → ℕ
smaller x [] = 0
smaller x (y ∷ w) = cond (ltb y x) (suc (smaller x w)) (smaller x w)

-- "the number of inversions, pairs where a larger entry precedes a smaller" (02, order 5): for each
-- entry the number of later entries below it, added up
unfoldable pub inversions : List ℕ → ℕ
unfolding smaller
inversions [] = 0
inversions (x ∷ w) = smaller x w + inversions w

-- "n(n − 1)/2" (02, order 5), the number of pairs of entries of a permutation of length n
unfoldable pub pairs : ℕ → ℕ
pairs n = n * (n - 1) / 2

-- how many of the words have q inversions
unfoldable pub inverted : List (List ℕ) → ℕ → ℕ
unfolding inversions
inverted l q = length (keep (λ w. eqb (inversions w) q) l)

-- how many figures there are for the length n: one for each of 0, 1, .., n(n - 1)/2
unfoldable pub figure_count : ℕ → ℕ
unfolding pairs
figure_count n = suc (pairs n)

-- the words by their number of inversions, as figures for the length n
unfoldable pub tally : ℕ → List (List ℕ) → List ℕ
unfolding inverted figure_count
tally n l = map (inverted l) (row 0 (figure_count n))

-- "the number of avoiders for 0, 1, .., n(n − 1)/2 inversions" (02, order 5)
unfoldable pub figures : List (List ℕ) → ℕ → List ℕ
unfolding tally avoiders
figures P n = tally n (avoiders P n)
