-- The nearest earlier place at which a test passes. Definitions only.
use Rattle.std.specs.Prelude.{Option, Some, None, ltb, ℕ, zero, suc, Bool, cond}

-- the largest place below j at which the test passes, and i where it passes at none of them
unfoldable pub nearest_below : (ℕ → Bool) → ℕ → ℕ → ℕ
nearest_below t i zero = i
nearest_below t i (suc j) = cond (t j) j (nearest_below t i j)

-- the nearest place before i at which the test passes, and i where it passes at none before i
unfoldable pub nearest_twin : (ℕ → Bool) → ℕ → ℕ
unfolding nearest_below
nearest_twin t i = nearest_below t i i

-- a place before i, or none
abbrev pub place_before : ℕ → ℕ → Option ℕ
place_before i n = cond (ltb n i) (Some n) None
