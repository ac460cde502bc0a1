-- Numbers in base ten, as bytes. Definitions only.
use Rattle.std.specs.Prelude.{ℕ, zero, suc, ◌+◌, ◌/◌, ◌%◌, List, [], ◌∷◌, ◌++◌}

-- a number of 64 bits has so many digits at the most
abbrev pub NUMERAL : ℕ
NUMERAL = 20

-- the digits of a number in base 10, in ASCII, and none for 0; f is as large as the number or
-- larger
unfoldable pub digits_of : ℕ → ℕ → List ℕ
digits_of zero n = []
digits_of (suc f) zero = []
digits_of (suc f) (suc m) = digits_of f (suc m / 10) ++ ((0x30 + suc m % 10) ∷ [])

-- the digits before the last, and the last
unfoldable pub decimal : ℕ → List ℕ
decimal n = digits_of n (n / 10) ++ ((0x30 + n % 10) ∷ [])
