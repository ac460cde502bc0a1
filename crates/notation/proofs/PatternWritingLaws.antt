-- What the answers of the writer of patterns say: the page spells the patterns, and reading it
-- gives them back.
-- Assumes nothing.
use Prim.Native.Nat.{ℕ, ◌≤◌, ◌<◌}
use mathlib.Core.Path.{◌≡◌, refl, sym, ap, ◌∙◌}
use mathlib.Core.Bool.{true}
use mathlib.Core.List.{List, [], ◌++◌}
use lib.ListN.{length}
use Rattle.word.specs.Ceilings.{PATTERN_TEXT}
use Rattle.word.specs.Finding.{clean, first_fault}
use Rattle.word.specs.declared.refusal.Refusal.TheVariants.{ShortPage}
use Rattle.scheme.specs.WellFormed.{pattern_tests}
use Rattle.forms.specs.SchemeMemory.{Fault, patterns_in, fault_of, faulty}
use Rattle.std.specs.Prelude.{Ok, Err}
use Rattle.word.specs.Refusal.{refused_at}
use Rattle.text_grammar.specs.Spelling.{SpellsPatterns, written_patterns}
use Rattle.text_grammar.specs.SpellingLaws.{patterns_written_spells, patterns_read_written}
use Rattle.text_patterns.specs.PatternMemory.{loaded_patterns}
use Rattle.text_patterns.specs.PatternLoading.{loaded_same}
use Rattle.text_grammar.specs.Grammar.{read_patterns}
use Rattle.text_page.specs.Page.{Writes}
use Rattle.notation.specs.Written.{Written, written_or}
use Rattle.notation.specs.Answers.{answer_from}
use Rattle.notation.specs.PatternAnswers.{refused_patterns, tested_patterns, patterns_answer, WritesPatterns}
use Rattle.text_writer.proofs.FitLaws.{patterns_writable, patterns_short}
use Rattle.notation.proofs.AnswerLaws as any

-- the text of a list that passes its tests is read as that list
text_back : (P : List (List ℕ)) → first_fault (pattern_tests P) ≡ clean → patterns_answer (written_patterns P) ≡
    Ok (loaded_patterns P)
text_back P h =
    sym (any.answer_text refused_patterns tested_patterns PATTERN_TEXT read_patterns (written_patterns P) (patterns_short P h))
    ∙ ap (answer_from refused_patterns tested_patterns) (patterns_read_written P (patterns_writable P h)) ∙ rw h refl

pub patterns_refused : (P : List (List ℕ)) (before : List ℕ) (r : Written) (f : Fault) → f ≡
    fault_of (first_fault (pattern_tests P)) → faulty f ≡ true → r ≡ written_or f 0 →
    WritesPatterns P before before r
patterns_refused P before r f e h k =
    any.refused_page SpellsPatterns pattern_tests written_patterns patterns_answer
    (λ l. Ok (loaded_patterns l)) (λ l. patterns_in (loaded_patterns l)) P
    (λ h. patterns_written_spells P (patterns_writable P h)) (text_back P) (loaded_same P) before r f e h k

pub patterns_page_short : (P : List (List ℕ)) (before : List ℕ) → first_fault (pattern_tests P) ≡ clean →
    (u : List ℕ) (n : ℕ) → Writes (written_patterns P) 0 [] u n →
    length (u ++ before) < n → WritesPatterns P before (u ++ before) (Err (refused_at ShortPage 0))
patterns_page_short P before h u n run k =
    any.short_page SpellsPatterns pattern_tests written_patterns patterns_answer
    (λ l. Ok (loaded_patterns l)) (λ l. patterns_in (loaded_patterns l)) P
    (λ h. patterns_written_spells P (patterns_writable P h)) (text_back P) (loaded_same P) before h u n run k

pub patterns_done : (P : List (List ℕ)) (before : List ℕ) → first_fault (pattern_tests P) ≡ clean →
    (u : List ℕ) (n : ℕ) → Writes (written_patterns P) 0 [] u n →
    n ≤ length (u ++ before) → (after : List ℕ) (m : ℕ) → Writes (written_patterns P) 0 (u ++ before) after m →
    WritesPatterns P before after (Ok n)
patterns_done P before h u n run k after m w =
    any.written_page SpellsPatterns pattern_tests written_patterns patterns_answer
    (λ l. Ok (loaded_patterns l)) (λ l. patterns_in (loaded_patterns l)) P
    (λ h. patterns_written_spells P (patterns_writable P h)) (text_back P) (loaded_same P) before h u n run k after m w
