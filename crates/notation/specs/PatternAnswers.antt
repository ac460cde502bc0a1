-- What reading and writing a set of patterns answer, and what the answer says of the text.
use Rattle.std.specs.Prelude.{ℕ, List, Ok, Err}
use Rattle.std.specs.declared.result.Result.{Result}
use Rattle.word.specs.Ceilings.{PATTERN_TEXT}
use Rattle.word.specs.Finding.{first_fault}
use Rattle.word.specs.declared.refusal.Refusal.{Refusal}
use Rattle.scheme.specs.WellFormed.{pattern_tests}
use Rattle.word.specs.Refusal.{refused_at}
use Rattle.word.specs.declared.refusal.Refused.{Refused}
use Rattle.forms.specs.SchemeMemory.{Fault, patterns_in, fault_of}
use Rattle.forms.specs.declared.memory.Patterns.{Patterns}
use Rattle.text_grammar.specs.Spelling.{SpellsPatterns, written_patterns}
use Rattle.text_grammar.specs.Grammar.{read_patterns}
use Rattle.text_patterns.specs.PatternMemory.{loaded_patterns}
use Rattle.notation.specs.Answers.{answer_to, read_fault, read_list, ReadsList, WritesList}
use Rattle.notation.specs.Written.{Written}

-- what reading a set of patterns answers: the patterns where there is no fault, or a refusal with
-- its index
abbrev pub PatternsRead : Type 0
PatternsRead = Result Patterns Refused

-- a refusal with its index
abbrev pub refused_patterns : Refusal → ℕ → PatternsRead
refused_patterns r i = Err (refused_at r i)

-- the patterns, or what their tests found
abbrev pub read_or : Fault → Patterns → PatternsRead
read_or (Ok u) m = Ok m
read_or (Err e) m = Err e

-- the answer to a text that spells a list: the tests 2 to 4
abbrev pub tested_patterns : List (List ℕ) → PatternsRead
tested_patterns P = read_or (fault_of (first_fault (pattern_tests P))) (loaded_patterns P)

-- "Pattern text 1,024 bytes" (01)
abbrev pub patterns_answer : List ℕ → PatternsRead
patterns_answer s = answer_to refused_patterns tested_patterns PATTERN_TEXT read_patterns s

-- the answer r to the text s, in terms of what the text spells
abbrev pub ReadsPatterns : List ℕ → PatternsRead → Type 0
ReadsPatterns s r = ReadsList PATTERN_TEXT read_patterns SpellsPatterns pattern_tests written_patterns read_fault
    (read_list patterns_in) tested_patterns s r

-- the answer to writing the list P, in terms of what the page spells afterwards
abbrev pub WritesPatterns : List (List ℕ) → List ℕ → List ℕ → Written → Type 0
WritesPatterns P before after r =
    WritesList SpellsPatterns pattern_tests written_patterns patterns_answer
    (λ l. Ok (loaded_patterns l)) (λ l. patterns_in (loaded_patterns l)) P before
    after r
