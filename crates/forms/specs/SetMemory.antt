-- A set of patterns as containment takes it, and an array of arrays of digits with lengths beside
-- it. Definitions only.
use Rattle.std.specs.Prelude.{ℕ, ◌%◌, ◌<◌, ◌≡◌, List, [], map, length, get_or, take}
use Rattle.word.specs.Ceilings.{DIGITS, PATTERNS}
use Rattle.forms.specs.SchemeMemory.{padded, no_pattern}
use Rattle.forms.specs.declared.memory.Pattern.{Pattern}

-- the digits that memory holds of a pattern: as many as its length says of the array's DIGITS
abbrev pub held : Pattern → List ℕ
held p = take p.length (padded DIGITS p.digits)

-- those of each pattern of a slice
abbrev pub held_in : List Pattern → List (List ℕ)
held_in ps = map held ps

-- each row has the digits of a pattern
abbrev pub HasDigits : List Pattern → List (List ℕ) → Type 0
HasDigits items rows = (i : ℕ) → i < PATTERNS → (get_or rows i [] ≡ (get_or items i no_pattern).digits) ×
    (length (get_or rows i []) ≡ DIGITS)

-- each number is the length of a pattern, as a byte
abbrev pub HasLengths : List Pattern → List ℕ → Type 0
HasLengths items lengths = (i : ℕ) → i < PATTERNS → get_or lengths i 0 ≡ (get_or items i no_pattern).length % 256

-- the pattern at place i of a set in memory
abbrev pub pattern_at : List (List ℕ) → List ℕ → ℕ → List ℕ
pattern_at set lengths i = take (get_or lengths i 0) (get_or set i [])
