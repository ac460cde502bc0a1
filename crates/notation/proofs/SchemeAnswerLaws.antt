-- What the answers of the reader of schemes say of the text.
-- Assumes nothing.
use Prim.Native.Nat.{ℕ, ◌≤◌, ◌<◌}
use mathlib.Core.Path.{◌≡◌, refl, sym, ap, ◌∙◌}
use mathlib.Core.Bool.{Bool, true, false, not, true≢false}
use mathlib.Core.List.{List, [], map}
use mathlib.Core.Option.{Option as Maybe, none, some}
use lib.ListN.{length, replicate}
use lib.Dec.{ltb}
use Rattle.word.specs.Ceilings.{ENTRIES, SCHEME_TEXT}
use Rattle.word.specs.Finding.{Finding, clean, fault, first_fault}
use Rattle.word.specs.declared.refusal.Refusal.TheVariants.{Misspelt, Oversize, NoPermutation, Rootless, Width}
use Rattle.word.specs.declared.refusal.Refusal.TheVariants.{NoPosition, Childless, NoTarget}
use Rattle.scheme.specs.WellFormed.{listed, large_entry, twin_entry, wrong_width, outside, lacks_child, lacks_target, scheme_tests}
use Rattle.forms.specs.SchemeList.{EntryList}
use Rattle.forms.specs.SchemeMemory.{scheme_in, fault_of}
use Rattle.forms.specs.declared.memory.Entry.{Entry}
use Rattle.forms.specs.declared.memory.Scheme.{Scheme}
use Rattle.word.specs.Word.{is_perm}
use Rattle.text_grammar.specs.Tokens.{tokens}
use Rattle.text_grammar.specs.Spelling.{SpellsScheme, written_scheme}
use Rattle.notation.specs.Answers.{answer_from, read_fault, read_list}
use Rattle.text_grammar.specs.Grammar.{read_entries}
use Rattle.text_schemes.specs.SchemeLoaded.{entry_of, plain_entry, loaded_scheme}
use Rattle.text_schemes.specs.SchemeReading.{loaded_text}
use Rattle.text_schemes.specs.SchemeLoading.{loaded_scheme_same, loaded_scheme_faults}
use Rattle.text_grammar.specs.SpellingLaws.{scheme_sound, scheme_complete, scheme_unique, scheme_written_read}
use Rattle.notation.specs.SchemeAnswers.{SchemeRead, refused_scheme, read_scheme_or, tested_scheme, scheme_answer, ReadsScheme}
use Rattle.notation.proofs.ReadingFaultLaws.{not_one, test_not_one, first_not_one, twin_not_one, all_not_one}
use Rattle.notation.proofs.AnswerLaws as any

-- the tests never refuse with 1
pub scheme_not_one : (E : List EntryList) → not_one (first_fault (scheme_tests E)) ≡ true
scheme_not_one E =
    all_not_one (scheme_tests E)
    (rw (
      test_not_one Oversize refl (ltb 128 (length E)),
      first_not_one Oversize refl large_entry 0 E,
      first_not_one NoPermutation refl (λ (e : EntryList). not (is_perm e.prefix)) 0 E,
      twin_not_one twin_entry 0 [] E,
      test_not_one Rootless refl (not (listed (map (λ (e : EntryList). e.prefix) E) [])),
      first_not_one Width refl wrong_width 0 E,
      first_not_one NoPosition refl (λ (e : EntryList). outside (length e.prefix) e.rule) 0 E,
      first_not_one Childless refl (λ (e : EntryList). lacks_child (map (λ (d : EntryList). d.prefix) E) e.prefix e.rule) 0 E,
      first_not_one NoTarget refl (λ (e : EntryList). lacks_target (map (λ (d : EntryList). d.prefix) E) e.prefix e.rule) 0 E,
    ) refl)

-- an array of plain entries is a scheme without entries
pub none_loaded : (e : Entry) → e ≡ entry_of plain_entry → record { entries = replicate ENTRIES e; count = 0 } ≡ loaded_scheme []
unfolding loaded_scheme
none_loaded e h = rw h refl

-- whether a text spells a scheme, and the scheme
abbrev is_some : Maybe Scheme → Bool
is_some none = false
is_some (some m) = true

abbrev scheme_or : Scheme → Maybe Scheme → Scheme
scheme_or d none = d
scheme_or d (some m) = m

-- the answer by the length of the text, by its spelling, by the tests
module _ (s : List ℕ) where
  pub answer_long : SCHEME_TEXT < length s → refused_scheme Oversize 0 ≡ scheme_answer s
  answer_long h = any.answer_long refused_scheme tested_scheme SCHEME_TEXT read_entries s h

  module _ (h : length s ≤ SCHEME_TEXT) where
    misspelt_from : (o : Maybe (List EntryList)) → none ≡ loaded_text o →
        refused_scheme Misspelt 0 ≡ answer_from refused_scheme tested_scheme o
    misspelt_from none q = refl
    misspelt_from (some E) q = absurd (true≢false (sym (ap is_some q)))

    pub answer_misspelt : none ≡ loaded_text (read_entries (tokens s)) → refused_scheme Misspelt 0 ≡ scheme_answer s
    answer_misspelt e = misspelt_from (read_entries (tokens s)) e ∙
        any.answer_text refused_scheme tested_scheme SCHEME_TEXT read_entries s h

    tested_from : (m : Scheme) (o : Maybe (List EntryList)) → some m ≡ loaded_text o →
        read_scheme_or (fault_of (first_fault (scheme_tests (scheme_in m)))) m ≡ answer_from refused_scheme tested_scheme o
    tested_from m none q = absurd (true≢false (ap is_some q))
    tested_from m (some E) q = rw (ap (scheme_or m) q, loaded_scheme_faults E) refl

    pub answer_tested : (m : Scheme) → some m ≡ loaded_text (read_entries (tokens s)) →
        read_scheme_or (fault_of (first_fault (scheme_tests (scheme_in m)))) m ≡ scheme_answer s
    answer_tested m e = tested_from m (read_entries (tokens s)) e ∙
        any.answer_text refused_scheme tested_scheme SCHEME_TEXT read_entries s h

-- the finding and the list in an answer
or_fault : (x : Finding) (m : Scheme) → read_fault (read_scheme_or (fault_of x) m) ≡ fault_of x
or_fault clean m = refl
or_fault (fault r i) m = refl

or_list : (E : List EntryList) → first_fault (scheme_tests E) ≡ clean → read_list scheme_in (tested_scheme E) ≡ E
or_list E e = rw e (loaded_scheme_same E e)

-- an answer that is the defined one has what the definition promises
pub answered : (s : List ℕ) (r : SchemeRead) → r ≡ scheme_answer s → (r ≡ scheme_answer s) × ReadsScheme s r
answered s r e = (
  e,
  rw e (any.answer_reads SCHEME_TEXT SpellsScheme scheme_tests written_scheme read_fault
      (read_list scheme_in) tested_scheme read_entries refused_scheme s
      (scheme_sound s) (scheme_complete s) (scheme_unique s) (scheme_written_read s) (λ r i. refl)
      (λ (E : List EntryList). or_fault (first_fault (scheme_tests E)) (loaded_scheme E)) or_list scheme_not_one),
)
