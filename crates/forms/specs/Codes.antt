-- A prefix as one number: its digits in base 256, the first one last, behind a 1. Definitions only.
use Rattle.std.specs.Prelude.{ℕ, ◌+◌, ◌*◌, ◌≤◌, ◌<◌, ◌≡◌, length}
use mathlib.Core.List.{List, [], ◌∷◌, map, Memᴰ}
use Rattle.word.specs.Ceilings.{PREFIX}

unfoldable pub code_of : List ℕ → ℕ
code_of [] = 1
code_of (d ∷ p) = d + 256 * code_of p

-- each number is a byte
abbrev pub Bytes : List ℕ → Type 0
Bytes [] = Unit {0}
Bytes (d ∷ p) = (d < 256) × Bytes p

-- the code of a list of at most PREFIX bytes
pub record IsCode (p : List ℕ) (code : ℕ) : Type 0 where
  pub short : length p ≤ PREFIX
  pub bytes : Bytes p
  pub is : code ≡ code_of p

-- the codes of all prefixes of a scheme, in their order
pub record Codes (ps : List (List ℕ)) (codes : List ℕ) : Type 0 where
  pub each : codes ≡ map code_of ps
  pub short : (p : List ℕ) → Memᴰ p ps → length p ≤ PREFIX
  pub bytes : (p : List ℕ) → Memᴰ p ps → Bytes p
