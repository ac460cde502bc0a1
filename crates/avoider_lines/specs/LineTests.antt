-- What is asked for in two lines, a set of patterns and a length, and what is refused (02, order
-- 2). Definitions only.
use Rattle.std.specs.Prelude.{ℕ, ◌≤◌, ◌≡◌, List, [], ◌∷◌, ltb, Option, Some, None, Result, Ok, Err, IfOk}
use Rattle.std.proofs.Math.Option.{Option as Maybe, none, some}
use Rattle.word.specs.Ceilings.{PATTERN_TEXT, WORD}
use Rattle.word.specs.Finding.{Finding, clean, fault, test, first_fault}
use Rattle.word.specs.declared.refusal.Refusal.TheVariants.{Misspelt, Oversize}
use Rattle.scheme.specs.WellFormed.{pattern_tests}
use Rattle.forms.specs.SchemeMemory.{Fault, patterns_in, fault_of, or_else}
use Rattle.forms.specs.declared.memory.Patterns.{Patterns}
use Rattle.word.specs.declared.refusal.Refused.{Refused}
use Rattle.text_grammar.specs.Grammar.{read_patterns}
use Rattle.text_patterns.specs.PatternMemory.{loaded_patterns}
use Rattle.notation.specs.Answers.{found_in, read_fault}
use Rattle.notation.specs.PatternAnswers.{PatternsRead, patterns_answer}
use Rattle.table_lines.specs.Lines.{number_in}
use Rattle.table_lines.specs.Kept.{Memory, kept_of, as_number}
use Rattle.avoider_lines.specs.TwoLines.{Two, two_lines, two_in}
use Rattle.avoider_lines.specs.declared.judging.Asked.{Asked}
use Rattle.avoider_lines.specs.declared.judging.Wrong.{Wrong}

-- the first line: the tests 1 to 4 of a set, with their index
abbrev pub set_found : List ℕ → Finding
set_found s = found_in pattern_tests PATTERN_TEXT read_patterns s

-- the second line: "a length with spaces or a leading zero" is 1, a length above 20 is 2
abbrev pub length_found : Option ℕ → Finding
length_found None = fault Misspelt 0
length_found (Some n) = test Oversize (ltb WORD n)

-- a missing line or a third is misspelt, tested before all else; then the set, then the length
abbrev pub line_tests : Maybe Two → List Finding
line_tests none = fault Misspelt 0 ∷ []
line_tests (some t) = set_found t.set ∷ length_found (as_number (number_in t.last)) ∷ []

-- the set in an answer of reading, and none beside a refusal
abbrev pub patterns_or : PatternsRead → Patterns
patterns_or (Ok m) = m
patterns_or (Err e) = loaded_patterns []

-- the set that is asked for, and none where a test of the lines or of the set has a fault
abbrev pub set_asked : Maybe Two → Patterns
set_asked none = loaded_patterns []
set_asked (some t) = patterns_or (patterns_answer t.set)

abbrev pub value_of : Option ℕ → ℕ
value_of None = 0
value_of (Some n) = n

-- the length that is asked for
abbrev pub length_asked : Maybe Two → ℕ
length_asked none = 0
length_asked (some t) = value_of (as_number (number_in t.last))

-- the finding in an answer, and what is asked for, which stands beside a refusal too
abbrev pub fault_in : Result Asked Wrong → Fault
fault_in (Ok a) = Ok tt
fault_in (Err w) = Err w.refused

abbrev pub asked_in : Result Asked Wrong → Asked
asked_in (Ok a) = a
asked_in (Err w) = w.asked

-- r is what the two lines ask for, or what is wrong with them
pub record Asks (lines : Maybe Two) (r : Result Asked Wrong) : Type 0 where
  pub fault : fault_in r ≡ fault_of (first_fault (line_tests lines))
  pub patterns : (asked_in r).patterns ≡ set_asked lines
  pub length : (asked_in r).length ≡ length_asked lines

-- r is what the lines in memory ask for
pub record AsksFor (memory : Memory) (r : Result Asked Wrong) : Type 0 where
  pub held : Asks (two_in memory) r
  -- where they were kept of an input, it is what the lines of that input ask for
  pub kept : (input : List ℕ) → memory ≡ kept_of input → Asks (two_lines input) r
  -- where nothing is wrong, the tests of the set find nothing, and the length is within its ceiling
  pub passes : IfOk r (λ a. (first_fault (pattern_tests (patterns_in a.patterns)) ≡ clean) × (a.length ≤ WORD))

-- r is what a set that was read and a number ask for
abbrev pub AsksBy : PatternsRead → Option ℕ → Result Asked Wrong → Type 0
AsksBy p m r = (fault_in r ≡ or_else (read_fault p) (fault_of (length_found m))) × ((asked_in r).patterns ≡ patterns_or p) ×
    ((asked_in r).length ≡ value_of m)

-- r is the length that a number asks for
abbrev pub LengthBy : Option ℕ → Result ℕ Refused → Type 0
LengthBy m r = (read_fault r ≡ fault_of (length_found m)) × IfOk r (λ n. n ≡ value_of m)
