-- The three lines of an input, and the number that the third spells. Definitions only.
use Rattle.std.specs.Prelude.{ℕ, zero, suc, ◌+◌, ◌-◌, ◌*◌, Bool, not, ◌&&◌, cond, List, [], ◌∷◌, leb, eqb}
use Rattle.std.proofs.Math.Option.{Option, none, some}

-- "A line ends at byte 0A (hexadecimal)"
abbrev pub is_end : ℕ → Bool
is_end b = eqb b 0x0A

-- the line with the index k, counted from 0, without its end
abbrev pub line : ℕ → List ℕ → List ℕ
line k [] = []
line zero (b ∷ s) = cond (is_end b) [] (b ∷ line zero s)
line (suc k) (b ∷ s) = cond (is_end b) (line k s) (line (suc k) s)

-- what stands behind the first k line ends
abbrev pub behind : ℕ → List ℕ → List ℕ
behind k [] = []
behind zero (b ∷ s) = b ∷ s
behind (suc k) (b ∷ s) = cond (is_end b) (behind k s) (behind (suc k) s)

pub record Three : Type 0 where
  pub set : List ℕ
  pub scheme : List ℕ
  pub last : List ℕ

-- "A third line of no bytes counts as missing, and any byte after the third line's end as a
-- fourth."
abbrev pub unless_fourth : (third fourth : List ℕ) → Three → Option Three
unless_fourth [] fourth t = none
unless_fourth (b ∷ l) [] t = some t
unless_fourth (b ∷ l) (c ∷ r) t = none

-- the three lines, where none is missing and there is no fourth; a missing first or second line
-- leaves no third
abbrev pub three_lines : List ℕ → Option Three
three_lines s = unless_fourth (line 2 s) (behind 3 s) (record { set = line 0 s; scheme = line 1 s; last = line 2 s })

abbrev pub is_digit : ℕ → Bool
is_digit b = leb 0x30 b && leb b 0x39

-- the third line: "largest N (one or two digits, no leading zero)"
abbrev pub number_in : List ℕ → Option ℕ
number_in [] = none
number_in (a ∷ []) = cond (is_digit a) (some (a - 0x30)) none
number_in (a ∷ b ∷ []) = cond (is_digit a && not (eqb a 0x30) && is_digit b) (some ((a - 0x30) * 10 + (b - 0x30))) none
number_in (a ∷ b ∷ c ∷ l) = none
