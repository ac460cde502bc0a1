-- What the first and the next avoider of the patterns of a text give as one number. Definitions
-- only.
use Rattle.std.specs.Prelude.{ℕ, ◌-◌, ◌≡◌, List, length}
use Rattle.word.specs.Refusal.{number_of}
use Rattle.word.specs.Listing.{first_avoider, next_avoider}
use Rattle.word.specs.Finding.{Finding, first_fault}
use Rattle.forms.specs.SchemeMemory.{Fault, patterns_in, fault_of, or_else}
use Rattle.notation.specs.Answers.{read_fault, read_list}
use Rattle.notation.specs.PatternAnswers.{patterns_answer}
use Rattle.lexicographic.specs.Answers.{Listed, first_tests, next_tests, answered, page_after}
use Rattle.std.specs.Prelude.{Ok, Err, true, false}
use Rattle.twin_exports.specs.TextCounts.{largest}

-- given, nothing, or the largest number less the number of the refusal
abbrev pub listed_code : Listed → ℕ
listed_code (Ok true) = 1
listed_code (Ok false) = 0
listed_code (Err e) = largest - number_of e.refusal

-- the patterns that a text spells
abbrev pub patterns_of_text : List ℕ → List (List ℕ)
patterns_of_text s = read_list patterns_in (patterns_answer s)

-- what is found: by reading the set, and then by the tests of the list
abbrev pub found_on : List ℕ → (List (List ℕ) → List Finding) → Fault
found_on s tests = or_else (read_fault (patterns_answer s)) (fault_of (first_fault (tests (patterns_of_text s))))

-- the number r for the text s and the length n, with a page that holds `before`, and then `after`
pub record FirstOfText (s : List ℕ) (n : ℕ) (before after : List ℕ) (r : ℕ) : Type 0 where
  pub answer : r ≡ listed_code (answered (found_on s (λ P. first_tests P n (length before))) (first_avoider (patterns_of_text s) n))
  pub page : after ≡ page_after (found_on s (λ P. first_tests P n (length before))) (first_avoider (patterns_of_text s) n) before

-- the number r for the text s and the permutation w
pub record NextOfText (s w before after : List ℕ) (r : ℕ) : Type 0 where
  pub answer : r ≡ listed_code (answered (found_on s (λ P. next_tests P w (length before))) (next_avoider (patterns_of_text s) w))
  pub page : after ≡ page_after (found_on s (λ P. next_tests P w (length before))) (next_avoider (patterns_of_text s) w) before
