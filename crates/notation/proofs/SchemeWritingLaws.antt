-- What the answers of the writer of schemes say: the page spells the scheme, and reading it gives
-- it back.
-- Assumes nothing.
use Prim.Native.Nat.{ℕ, ◌≤◌, ◌<◌}
use mathlib.Core.Path.{◌≡◌, refl, sym, ap, ◌∙◌}
use mathlib.Core.Bool.{true}
use mathlib.Core.List.{List, [], ◌++◌}
use lib.ListN.{length}
use Rattle.word.specs.Ceilings.{SCHEME_TEXT}
use Rattle.word.specs.Finding.{clean, first_fault}
use Rattle.word.specs.declared.refusal.Refusal.TheVariants.{ShortPage}
use Rattle.scheme.specs.WellFormed.{scheme_tests}
use Rattle.forms.specs.SchemeList.{EntryList}
use Rattle.forms.specs.SchemeMemory.{Fault, scheme_in, fault_of, faulty}
use Rattle.std.specs.Prelude.{Ok, Err}
use Rattle.word.specs.Refusal.{refused_at}
use Rattle.text_grammar.specs.Spelling.{SpellsScheme, written_scheme}
use Rattle.text_grammar.specs.SpellingLaws.{scheme_written_spells, scheme_read_written}
use Rattle.text_schemes.specs.SchemeLoaded.{loaded_scheme}
use Rattle.text_schemes.specs.SchemeLoading.{loaded_scheme_same}
use Rattle.text_grammar.specs.Grammar.{read_entries}
use Rattle.text_page.specs.Page.{Writes}
use Rattle.notation.specs.Written.{Written, written_or}
use Rattle.notation.specs.Answers.{answer_from}
use Rattle.notation.specs.SchemeAnswers.{refused_scheme, tested_scheme, scheme_answer, WritesScheme}
use Rattle.text_writer.proofs.SchemeFitLaws.{scheme_writable, scheme_short}
use Rattle.notation.proofs.AnswerLaws as any

-- the text of a list that passes its tests is read as that list
text_back : (E : List EntryList) → first_fault (scheme_tests E) ≡ clean → scheme_answer (written_scheme E) ≡
    Ok (loaded_scheme E)
text_back E h =
    sym (any.answer_text refused_scheme tested_scheme SCHEME_TEXT read_entries (written_scheme E) (scheme_short E h))
    ∙ ap (answer_from refused_scheme tested_scheme) (scheme_read_written E (scheme_writable E h)) ∙ rw h refl

pub scheme_refused : (E : List EntryList) (before : List ℕ) (r : Written) (f : Fault) → f ≡
    fault_of (first_fault (scheme_tests E)) → faulty f ≡ true → r ≡ written_or f 0 →
    WritesScheme E before before r
scheme_refused E before r f e h k =
    any.refused_page SpellsScheme scheme_tests written_scheme scheme_answer
    (λ l. Ok (loaded_scheme l)) (λ l. scheme_in (loaded_scheme l)) E
    (λ h. scheme_written_spells E (scheme_writable E h)) (text_back E) (loaded_scheme_same E) before r f e h k

pub scheme_page_short : (E : List EntryList) (before : List ℕ) → first_fault (scheme_tests E) ≡ clean →
    (u : List ℕ) (n : ℕ) → Writes (written_scheme E) 0 [] u n →
    length (u ++ before) < n → WritesScheme E before (u ++ before) (Err (refused_at ShortPage 0))
scheme_page_short E before h u n run k =
    any.short_page SpellsScheme scheme_tests written_scheme scheme_answer
    (λ l. Ok (loaded_scheme l)) (λ l. scheme_in (loaded_scheme l)) E
    (λ h. scheme_written_spells E (scheme_writable E h)) (text_back E) (loaded_scheme_same E) before h u n run k

pub scheme_done : (E : List EntryList) (before : List ℕ) → first_fault (scheme_tests E) ≡ clean →
    (u : List ℕ) (n : ℕ) → Writes (written_scheme E) 0 [] u n →
    n ≤ length (u ++ before) → (after : List ℕ) (m : ℕ) → Writes (written_scheme E) 0 (u ++ before) after m →
    WritesScheme E before after (Ok n)
scheme_done E before h u n run k after m w =
    any.written_page SpellsScheme scheme_tests written_scheme scheme_answer
    (λ l. Ok (loaded_scheme l)) (λ l. scheme_in (loaded_scheme l)) E
    (λ h. scheme_written_spells E (scheme_writable E h)) (text_back E) (loaded_scheme_same E) before h u n run k after m w
