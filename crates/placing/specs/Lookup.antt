-- Lists that are indexed by values.
use Rattle.std.specs.Prelude.{ℕ, ◌+◌, ◌*◌, ◌<◌, ◌≡◌, Bool, not, List, get_or, take, drop, eqb}
use Rattle.word.specs.Ceilings.{DIGITS, PATTERNS}

-- values that such a list reaches: 0 and the digits
abbrev pub VALUES : ℕ
VALUES = DIGITS + 1

-- bytes of the needed levels of a set: for each pattern, each total below DIGITS and each value one
abbrev pub NEEDS : ℕ
NEEDS = PATTERNS * DIGITS * VALUES

-- the part for the total t and the pattern at place i, indexed by values
abbrev pub need_at : List ℕ → ℕ → ℕ → List ℕ
need_at needs t i = take VALUES (drop ((i * DIGITS + t) * VALUES) needs)

-- what a list that is indexed by values says of a value
abbrev pub entry_of : List ℕ → ℕ → ℕ
entry_of a v = get_or a v 0

-- whether such a list flags a value
abbrev pub flagged : List ℕ → ℕ → Bool
flagged a v = not (eqb (get_or a v 0) 0)

-- it says of each value below n what f says
abbrev pub Says : List ℕ → ℕ → (ℕ → ℕ) → Type 0
Says a n f = (v : ℕ) → v < n → entry_of a v ≡ f v

-- it flags of the values below n those that f picks
abbrev pub Flags : List ℕ → ℕ → (ℕ → Bool) → Type 0
Flags a n f = (v : ℕ) → v < n → flagged a v ≡ f v
