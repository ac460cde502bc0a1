-- The avoiders as they are listed one after the other (02, order 2). Definitions only.
use Rattle.std.specs.Prelude.{ℕ, ◌≤◌, ◌≡◌, Bool, true, false, List, [], length, take, Option, Some, None, Ok, Err}
use Rattle.std.proofs.Math.Option.{Option as Maybe, none, some}
use Rattle.word.specs.Ceilings.{WORD}
use Rattle.word.specs.Word.{avoiders}
use Rattle.word.specs.Finding.{Finding, clean, fault, first_fault}
use Rattle.lexicographic.specs.Answers.{Listed, first_tests}
use Rattle.avoider_lines.specs.declared.writing.Printed.{Printed}

abbrev pub is_given : Listed → Bool
is_given (Ok true) = true
is_given (Ok false) = false
is_given (Err e) = false

-- the avoider of length n in memory, or none
abbrev pub shown : ℕ → Option (List ℕ) → Maybe (List ℕ)
shown n (Some w) = some (take n w)
shown n None = none

-- the avoider, and none where the tests find a fault
abbrev pub unless_fault : Finding → Maybe (List ℕ) → Maybe (List ℕ)
unless_fault clean o = o
unless_fault (fault r i) o = none

abbrev pub listed_if : Finding → List (List ℕ) → List (List ℕ)
listed_if clean l = l
listed_if (fault r i) l = []

-- the avoiders that are listed: each of length n, in lexicographic order
abbrev pub listed : List (List ℕ) → ℕ → List (List ℕ)
listed P n = listed_if (first_fault (first_tests P n WORD)) (avoiders P n)

-- "prints each avoider on a line .. until the last": as many lines as there are avoiders, where no
-- write failed. No contract of the library says what is written; what each write is handed is
-- asked for by writing::write_bytes.
pub record PrintsAll (P : List (List ℕ)) (n : ℕ) (r : Printed) : Type 0 where
  pub all : r.whole ≡ true → r.lines ≡ length (listed P n)
  pub most : r.lines ≤ length (listed P n)
