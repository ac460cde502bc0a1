-- What judging two texts promises. Definitions only.
use Rattle.std.specs.Prelude.{Ok, Err, ℕ, ◌≤◌, ◌≡◌, true, List, [], ◌∷◌, ◌↔◌, length}
use Rattle.word.specs.Ceilings.{PATTERN_TEXT, SCHEME_TEXT, PAGE}
use Rattle.word.specs.declared.refusal.Refusal.TheVariants.{Irreversible}
use Rattle.word.specs.Finding.{first_fault}
use Rattle.forms.specs.SchemeList.{EntryList}
use Rattle.forms.specs.SchemeMemory.{Fault, patterns_in, scheme_in, fault_of, or_else, told_or}
use Rattle.text_page.specs.Page.{overlay}
use Rattle.text_grammar.specs.Spelling.{SpellsPatterns, SpellsScheme}
use Rattle.notation.specs.Answers.{read_fault, read_list}
use Rattle.notation.specs.PatternAnswers.{PatternsRead, patterns_answer}
use Rattle.notation.specs.SchemeAnswers.{SchemeRead, scheme_answer}
use Rattle.verdict.specs.Verdict.{Verdict, claim_tests, compared_cells, answered, verdict_of, told_verdict, accepted}
use Rattle.verdict.specs.Truth.{WellFormed, AllTrue}
use Rattle.verdict.specs.Witness.{bytes_shown}
use Rattle.word.specs.Refusal.{refused_at}
use Rattle.judge.specs.Judgement.{page_test, EntryWitness, Judges}
use Rattle.judge_texts.specs.declared.TextsJudged.{TextsJudged}

-- what is found in what was read: the faults of reading, of the set before the scheme, and then
-- those of the claims
abbrev pub fault_read : PatternsRead → SchemeRead → Fault
fault_read p q = or_else (read_fault p) (or_else (read_fault q)
    (fault_of (first_fault (claim_tests (read_list patterns_in p) (read_list scheme_in q)))))

abbrev pub cells_read : PatternsRead → SchemeRead → ℕ
cells_read p q = compared_cells (read_list patterns_in p) (read_list scheme_in q)

-- what was read of both is well-formed
abbrev pub IsReadWell : PatternsRead → SchemeRead → Type 0
IsReadWell (Ok p) (Ok q) = WellFormed (patterns_in p) (scheme_in q)
IsReadWell (Ok p) (Err e) = Unit {0}
IsReadWell (Err e) q = Unit {0}

-- the verdict on what was read
abbrev pub verdict_read : PatternsRead → SchemeRead → Verdict
verdict_read p q = answered (fault_read p q) (cells_read p q)

-- "Text length comes before spelling, then the numbers in order, each over the whole input. Here
-- the input is one text or one list: patterns are judged before the scheme" (01)
abbrev pub verdict_of_texts : List ℕ → List ℕ → Verdict
verdict_of_texts s t = verdict_read (patterns_answer s) (scheme_answer t)

-- the texts are within their ceilings, they spell a set and a scheme, this is well-formed, and its
-- claims are true at every length
pub record TextsTrue (s t : List ℕ) : Type 0 where
  pub patterns : List (List ℕ)
  pub scheme : List EntryList
  pub short : length s ≤ PATTERN_TEXT
  pub short_scheme : length t ≤ SCHEME_TEXT
  pub spells : SpellsPatterns s patterns
  pub spells_scheme : SpellsScheme t scheme
  pub formed : WellFormed patterns scheme
  pub claims : AllTrue patterns scheme

-- where no page is lent: the answer r to the texts s and t
pub record JudgesTextsWithoutPage (s t : List ℕ) (r : Verdict) : Type 0 where
  pub verdict : r ≡ verdict_of_texts s t
  -- the number and the value of document 01
  pub numbers : told_verdict r ≡ told_or (fault_read (patterns_answer s) (scheme_answer t))
      (cells_read (patterns_answer s) (scheme_answer t) ∷ [])
  -- where the texts spell lists, it is the verdict on these
  pub spelt : (P : List (List ℕ)) (E : List EntryList) → length s ≤ PATTERN_TEXT → length t ≤ SCHEME_TEXT →
      SpellsPatterns s P → SpellsScheme t E → r ≡ verdict_of P E
  pub exactly : (accepted r ≡ true) ↔ TextsTrue s t

-- the answer with the lists that were read: those of the definition; where it accepts, the texts
-- spell them, they are well-formed, and the claims are true
pub record JudgesAndReads (s t : List ℕ) (r : TextsJudged) : Type 0 where
  pub judges : JudgesTextsWithoutPage s t r.verdict
  pub patterns : r.patterns ≡ patterns_answer s
  pub scheme : r.scheme ≡ scheme_answer t
  pub spells : accepted r.verdict ≡ true → SpellsPatterns s (read_list patterns_in r.patterns)
  pub spells_scheme : accepted r.verdict ≡ true → SpellsScheme t (read_list scheme_in r.scheme)
  pub formed : accepted r.verdict ≡ true → WellFormed (read_list patterns_in r.patterns) (read_list scheme_in r.scheme)
  pub claims : accepted r.verdict ≡ true → AllTrue (read_list patterns_in r.patterns) (read_list scheme_in r.scheme)

-- what is found where a page of n bytes is lent: "A page under 32 bytes is refused 13, tested
-- before all else" (02, order 1)
abbrev pub fault_read_on : ℕ → PatternsRead → SchemeRead → Fault
fault_read_on n p q = or_else (fault_of (page_test n)) (fault_read p q)

abbrev pub verdict_read_on : ℕ → PatternsRead → SchemeRead → Verdict
verdict_read_on n p q = answered (fault_read_on n p q) (cells_read p q)

-- the page afterwards: with refusal 11 it begins with the witness
abbrev pub page_read : PatternsRead → SchemeRead → List ℕ → List ℕ
page_read p q page =
    overlay 0 (bytes_shown (read_list patterns_in p) (read_list scheme_in q) (fault_read_on (length page) p q)) page

-- the answer r to the texts s and t, with a page that holds `before`, and then `after`
pub record JudgesTexts (s t before after : List ℕ) (r : Verdict) : Type 0 where
  pub verdict : r ≡ verdict_read_on (length before) (patterns_answer s) (scheme_answer t)
  pub numbers : told_verdict r ≡ told_or (fault_read_on (length before) (patterns_answer s) (scheme_answer t))
      (cells_read (patterns_answer s) (scheme_answer t) ∷ [])
  pub page : after ≡ page_read (patterns_answer s) (scheme_answer t) before
  -- where the texts spell lists, it is what judging these promises, the witness included
  pub spelt : (P : List (List ℕ)) (E : List EntryList) → length s ≤ PATTERN_TEXT → length t ≤ SCHEME_TEXT →
      SpellsPatterns s P → SpellsScheme t E → Judges P E before after r
  pub exactly : PAGE ≤ length before → (accepted r ≡ true) ↔ TextsTrue s t
  -- the same verdict as without a page
  pub same : PAGE ≤ length before → r ≡ verdict_of_texts s t
  -- with refusal 11 the texts spell lists, and the page begins with a witness for the refused entry
  pub witness : (i : ℕ) → r ≡ Err (refused_at Irreversible i) → (P : List (List ℕ)) × (E : List EntryList) ×
      SpellsPatterns s P × SpellsScheme t E × EntryWitness P E i after
