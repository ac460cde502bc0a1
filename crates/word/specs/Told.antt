-- An answer in the numbers of document 01. Definitions only.
use Rattle.std.specs.Prelude.{ℕ, List, [], ◌∷◌}
use Rattle.word.specs.Refusal.{number_of}
use Rattle.word.specs.Finding.{Finding, clean, fault}

-- "If the answer is an enum, a definition provides this paper's number and values for each of its
-- cases" (01): the number of the refusal, or 0 where nothing is refused; the index of the refusal,
-- or what the operation gives.
pub record Told : Type 0 where
  pub number : ℕ
  pub values : List ℕ

-- what is told where the tests find this, and where they find nothing gives these values
abbrev pub told_by : Finding → List ℕ → Told
told_by clean given = record { number = 0; values = given }
told_by (fault r i) given = record { number = number_of r; values = i ∷ [] }
