-- Words that laws and inner contracts use beside the definitions of Word.antt. Definitions only.
use Rattle.std.specs.Prelude.{ℕ, zero, suc, ◌*◌, pred, Bool, true, false, cond, ◌&&◌, List, [], ◌∷◌, ltb}
use Rattle.std.specs.Bool.{beq}

-- x is above the entries of b in just the places where y is above those of s, and b is as long as
-- s
unfoldable pub fits : List ℕ → ℕ → List ℕ → ℕ → Bool
fits [] x [] y = true
fits [] x (c ∷ s) y = false
fits (a ∷ b) x [] y = false
fits (a ∷ b) x (c ∷ s) y = beq (ltb a x) (ltb c y) && fits b x s y

-- y with the gap at a closed again
unfoldable pub unbump : ℕ → ℕ → ℕ
unbump a y = cond (ltb y a) y (pred y)

-- the number of permutations of length n
unfoldable pub factorial : ℕ → ℕ
factorial zero = 1
factorial (suc n) = suc n * factorial n
