-- What the answers of the reader of patterns say of the text.
-- Assumes nothing.
use Prim.Native.Nat.{ℕ, ◌≤◌, ◌<◌}
use mathlib.Core.Path.{◌≡◌, refl, sym, ap, ◌∙◌}
use mathlib.Core.Bool.{true, not}
use mathlib.Core.List.{List, []}
use mathlib.Core.Option.{Option as Maybe, none, some}
use lib.ListN.{length}
use lib.Dec.{ltb}
use Rattle.word.specs.Ceilings.{PATTERN_TEXT}
use Rattle.word.specs.Finding.{Finding, clean, fault, first_fault}
use Rattle.word.specs.declared.refusal.Refusal.TheVariants.{Misspelt, Oversize, NoPermutation}
use Rattle.scheme.specs.WellFormed.{listed, pattern_tests}
use Rattle.std.specs.Prelude.{Option, Some, None}
use Rattle.forms.specs.SchemeMemory.{patterns_in, fault_of}
use Rattle.forms.specs.declared.memory.Patterns.{Patterns}
use Rattle.word.specs.Patterns.{is_pattern}
use Rattle.text_grammar.specs.Tokens.{tokens}
use Rattle.text_grammar.specs.Spelling.{SpellsPatterns, written_patterns}
use Rattle.notation.specs.Answers.{answer_from, read_fault, read_list}
use Rattle.text_grammar.specs.Grammar.{read_patterns}
use Rattle.text_patterns.specs.PatternMemory.{loaded_patterns, pattern_text}
use Rattle.text_patterns.specs.PatternLoading.{loaded_same, loaded_faults}
use Rattle.text_grammar.specs.SpellingLaws.{patterns_sound, patterns_complete, patterns_unique, patterns_written_read}
use Rattle.notation.specs.PatternAnswers.{PatternsRead, refused_patterns, read_or, tested_patterns, patterns_answer, ReadsPatterns}
use Rattle.notation.proofs.ReadingFaultLaws.{not_one, test_not_one, first_not_one, twin_not_one, all_not_one}
use Rattle.notation.proofs.AnswerLaws as any

-- the tests never refuse with 1
pub patterns_not_one : (P : List (List ℕ)) → not_one (first_fault (pattern_tests P)) ≡ true
patterns_not_one P =
    all_not_one (pattern_tests P)
    (rw (
      test_not_one Oversize refl (ltb 24 (length P)),
      first_not_one Oversize refl (λ (β : List ℕ). ltb 8 (length β)) 0 P,
      first_not_one NoPermutation refl (λ (β : List ℕ). not (is_pattern β)) 0 P,
      twin_not_one listed 0 [] P,
    ) refl)

-- the answer by the length of the text, by its spelling, by the tests
module _ (s : List ℕ) where
  pub answer_long : PATTERN_TEXT < length s → refused_patterns Oversize 0 ≡ patterns_answer s
  answer_long h = any.answer_long refused_patterns tested_patterns PATTERN_TEXT read_patterns s h

  module _ (t : Option Patterns) (h : length s ≤ PATTERN_TEXT) (e : t ≡ pattern_text (read_patterns (tokens s))) where
    -- what is answered to a text that spells this
    abbrev answer_by : Option Patterns → PatternsRead
    answer_by None = refused_patterns Misspelt 0
    answer_by (Some m) = read_or (fault_of (first_fault (pattern_tests (patterns_in m)))) m

    answer_same : (o : Maybe (List (List ℕ))) → answer_by (pattern_text o) ≡ answer_from refused_patterns tested_patterns o
    answer_same none = refl
    answer_same (some P) = rw (loaded_faults P) refl

    answer_is : answer_by t ≡ patterns_answer s
    answer_is =
        ap answer_by e ∙ answer_same (read_patterns (tokens s))
        ∙ any.answer_text refused_patterns tested_patterns PATTERN_TEXT read_patterns s h

    pub answer_misspelt : t ≡ None → refused_patterns Misspelt 0 ≡ patterns_answer s
    answer_misspelt k = sym (ap answer_by k) ∙ answer_is

    pub answer_tested : (m : Patterns) → t ≡ Some m → read_or (fault_of (first_fault (pattern_tests (patterns_in m)))) m ≡ patterns_answer s
    answer_tested m k = sym (ap answer_by k) ∙ answer_is

-- the finding and the list in an answer
or_fault : (x : Finding) (m : Patterns) → read_fault (read_or (fault_of x) m) ≡ fault_of x
or_fault clean m = refl
or_fault (fault r i) m = refl

or_list : (P : List (List ℕ)) → first_fault (pattern_tests P) ≡ clean → read_list patterns_in (tested_patterns P) ≡ P
or_list P e = rw e (loaded_same P e)

-- an answer that is the defined one has what the definition promises
pub answered : (s : List ℕ) (r : PatternsRead) → r ≡ patterns_answer s → (r ≡ patterns_answer s) × ReadsPatterns s r
answered s r e = (
  e,
  rw e (any.answer_reads PATTERN_TEXT SpellsPatterns pattern_tests written_patterns read_fault
      (read_list patterns_in) tested_patterns read_patterns refused_patterns s
      (patterns_sound s) (patterns_complete s) (patterns_unique s) (patterns_written_read s) (λ r i. refl)
      (λ (P : List (List ℕ)). or_fault (first_fault (pattern_tests P)) (loaded_patterns P)) or_list patterns_not_one),
)
