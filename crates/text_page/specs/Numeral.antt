-- The number that digits denote. Definitions only.
use Rattle.std.specs.Prelude.{ℕ, ◌+◌, ◌-◌, ◌*◌, Bool, ◌&&◌, List, [], ◌∷◌, leb}

-- a digit in ASCII
abbrev pub is_digit : ℕ → Bool
is_digit b = leb 0x30 b && leb b 0x39

-- the digits in base 10 after a number, the most significant first: each is ten times what came
-- before it and its own value
abbrev pub denotes_after : ℕ → List ℕ → ℕ
denotes_after n [] = n
denotes_after n (b ∷ l) = denotes_after (n * 10 + (b - 0x30)) l

abbrev pub denotes : List ℕ → ℕ
denotes l = denotes_after 0 l
