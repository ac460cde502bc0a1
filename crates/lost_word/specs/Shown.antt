-- Words in memory that may be missing, and the lesser of two of them. Definitions only.
use Rattle.std.specs.Prelude.{ℕ, ◌+◌, ◌≤◌, ◌≡◌, cond, List, [], take, get_or, Option, Some, None}
use Rattle.std.proofs.Math.Option.{Option as Maybe, none, some}
use Rattle.word.specs.Ceilings.{DIGITS, PREFIX}
use Rattle.cell.specs.Cell.{total}
use Rattle.cell.specs.Built.{built}
use Rattle.cell.specs.Candidate.{violates, rest_of, lesser}
use Rattle.candidate.specs.Ready.{Looked}
use Rattle.placing.specs.declared.tables.Word.{Word}

-- r shows the word that there is, or none; the word is short
abbrev pub ShowsWord : Maybe (List ℕ) → Option Word → Type 0
ShowsWord none None = Unit {0}
ShowsWord none (Some w) = ⊥
ShowsWord (some v) None = ⊥
ShowsWord (some v) (Some w) = (take w.length w.entries ≡ v) × (w.length ≤ PREFIX + DIGITS)

-- a word that is there is short
abbrev pub IsShort : Option Word → Type 0
IsShort None = Unit {0}
IsShort (Some w) = w.length ≤ PREFIX + DIGITS

-- the word that r holds
abbrev pub shown : Option Word → Maybe (List ℕ)
shown None = none
shown (Some w) = some (take w.length w.entries)

-- the lesser of two words, either of which may be missing
abbrev pub lesser_shown : Maybe (List ℕ) → Maybe (List ℕ) → Maybe (List ℕ)
lesser_shown v none = v
lesser_shown v (some w) = lesser v w

-- the word of the pattern β with the deleted positions put back, if it violates at g
unfoldable pub lost_by : List (List ℕ) → List ℕ → List ℕ → List ℕ → List ℕ → Maybe (List ℕ)
unfolding violates built total
lost_by P p R g β = cond (violates P p R g β) (some (built p g (rest_of β (total g)))) none

-- r holds the word of the pattern at place i, for the positions and the spacing that the lists are
-- of
abbrev pub WordAnswer : List (List ℕ) → List ℕ → List ℕ → List ℕ → List ℕ → ℕ → ℕ → Option Word → Type 0
WordAnswer P needs p gone levels t i r =
    (R g : List ℕ) → Looked P needs p gone levels t R g → shown r ≡ lost_by P p R g (get_or P i [])
