-- Laws of judging texts with a page: what the equations for the verdict and for the page promise.
use Rattle.std.specs.Prelude.{Ok, Err, ℕ, ◌≤◌, ◌<◌, ◌≡◌, refl, Bool, true, false, cond, List, ◌⊎◌, length, ltb}
use Rattle.std.proofs.Common.{arith, sym, ap, ap₂, ◌∙◌, inl, inr, lt-ltb, le-ltb}
use Rattle.std.proofs.Math.Option.{Option, none, some}
use Rattle.word.specs.Ceilings.{PATTERN_TEXT, SCHEME_TEXT, PAGE}
use Rattle.word.specs.ListLaws.{below_or_not}
use Rattle.word.specs.Finding.{first_fault, test}
use Rattle.word.specs.declared.refusal.Refusal.TheVariants.{Oversize, Irreversible, ShortPage}
use Rattle.forms.specs.SchemeList.{EntryList}
use Rattle.forms.specs.SchemeMemory.{Fault, patterns_in, scheme_in, fault_of, or_else, faulty}
use Rattle.word.specs.Refusal.{refused_at}
use Rattle.scheme.specs.WellFormed.{pattern_tests, scheme_tests}
use Rattle.wellformed.proofs.OrderLaws.{or_else_fault, or_else_clean}
use Rattle.text_grammar.specs.Spelling.{SpellsPatterns, SpellsScheme}
use Rattle.text_grammar.specs.Tokens.{tokens}
use Rattle.text_grammar.specs.Grammar.{read_patterns, read_entries}
use Rattle.text_page.specs.Page.{overlay}
use Rattle.notation.specs.Answers.{answer_from, read_fault, read_list}
use Rattle.notation.specs.PatternAnswers.{refused_patterns, tested_patterns, patterns_answer, ReadsPatterns}
use Rattle.notation.specs.SchemeAnswers.{refused_scheme, tested_scheme, scheme_answer, ReadsScheme}
use Rattle.verdict.specs.Verdict.{Verdict, claim_tests, compared_cells, judge_tests, answered, told_verdict}
use Rattle.verdict.specs.Witness.{bytes_shown}
use Rattle.judge.specs.Judgement.{page_test, Judges}
use Rattle.judge.proofs.JudgementLaws.{refused_answer, told_answered, or_else_assoc, verdict_parts}
use Rattle.judge_texts.specs.TextJudgement.{fault_read, cells_read, verdict_of_texts, JudgesTextsWithoutPage}
use Rattle.judge_texts.specs.TextJudgement.{fault_read_on, verdict_read_on, page_read, JudgesTexts}
use Rattle.judge_texts.specs.TextVerdictLaws.{patterns_short, scheme_short, read_fault_lem, read_scheme_fault, spelt_fault, spelt_list}
use Rattle.judge_texts.specs.TextVerdictLaws.{spelt_scheme_fault, spelt_scheme_list, refused_texts, judged_texts, or_else_clean_both}
use Rattle.judge.proofs.WitnessPageLaws.{number_in, number_found_lem, earlier_nine, nothing_shown, page_kept}
use Rattle.scheme.specs.NumberLaws.{patterns_nine, scheme_nine}
use Rattle.judge.proofs.WitnessPageLaws.{judges_short, judges_long}

-- reading finds numbers up to 9
read_nine : (s : List ℕ) → number_in (read_fault (patterns_answer s)) ≤ 9
read_nine s = go (ltb PATTERN_TEXT (length s)) (read_patterns (tokens s))
  where
    go : (b : Bool) (o : Option (List (List ℕ))) →
        number_in (read_fault (cond b (refused_patterns Oversize 0)
        (answer_from refused_patterns tested_patterns o))) ≤ 9
    go true o = omega arith
    go false none = omega arith
    go false (some P) =
        rw (
          read_fault_lem (fault_of (first_fault (pattern_tests P))) _,
          number_found_lem (first_fault (pattern_tests P)),
        ) (patterns_nine P)

scheme_read_nine : (t : List ℕ) → number_in (read_fault (scheme_answer t)) ≤ 9
scheme_read_nine t = go (ltb SCHEME_TEXT (length t)) (read_entries (tokens t))
  where
    go : (b : Bool) (o : Option (List EntryList)) →
        number_in (read_fault (cond b (refused_scheme Oversize 0) (answer_from refused_scheme tested_scheme o))) ≤ 9
    go true o = omega arith
    go false none = omega arith
    go false (some E) =
        rw (read_scheme_fault (fault_of (first_fault (scheme_tests E))) _, number_found_lem (first_fault (scheme_tests E))) (scheme_nine E)

-- the test of the page, in front of what is found in what was read
on_short : (n : ℕ) (f : Fault) → n < PAGE → or_else (fault_of (page_test n)) f ≡ Err (refused_at ShortPage 0)
on_short n f h = ap (λ (b : Bool). or_else (fault_of (test ShortPage b)) f) (lt-ltb n PAGE h)

on_long : (n : ℕ) (f : Fault) → PAGE ≤ n → or_else (fault_of (page_test n)) f ≡ f
on_long n f h = ap (λ (b : Bool). or_else (fault_of (test ShortPage b)) f) (le-ltb n PAGE h)

-- the number of a verdict
abbrev number_on : Verdict → ℕ
number_on (Ok n) = 0
number_on (Err e) = number_in (Err e)

-- a short page is refused before the texts are read
pub texts_short : (s t page : List ℕ) → length page < PAGE → JudgesTexts s t page page (Err (refused_at ShortPage 0))
texts_short s t page h =
    let e = on_short (length page) (fault_read (patterns_answer s) (scheme_answer t)) h in
    let P = read_list patterns_in (patterns_answer s) in
    let E = read_list scheme_in (scheme_answer t) in
    let cells = cells_read (patterns_answer s) (scheme_answer t) in
    let verdict : Err (refused_at ShortPage 0) ≡ verdict_read_on (length page) (patterns_answer s) (scheme_answer t) =
    sym (ap (λ (f : Fault). answered f cells) e) in
    record {
      verdict = verdict;
      numbers = ap told_verdict verdict ∙ told_answered (fault_read_on (length page) (patterns_answer s) (scheme_answer t)) cells;
      page = page_kept P E (Err (refused_at ShortPage 0)) page (λ n. omega arith) ∙
          sym (ap (λ (f : Fault). overlay 0 (bytes_shown P E f) page) e);
      spelt = λ Q F a b u v. judges_short Q F page h;
      exactly = λ long. absurd (omega arith);
      same = λ long. absurd (omega arith);
      witness = λ i q. let n : number_in (Err (refused_at ShortPage 0)) ≡ 11 = ap number_on q in absurd (omega arith);
    }

-- What was read from the texts s and t.
module _ (s t : List ℕ) (reading : ReadsPatterns s (patterns_answer s)) (reading-scheme : ReadsScheme t (scheme_answer t)) where
  abbrev P : List (List ℕ)
  P = read_list patterns_in (patterns_answer s)

  abbrev E : List EntryList
  E = read_list scheme_in (scheme_answer t)

  abbrev reading_fault : Fault
  reading_fault = or_else (read_fault (patterns_answer s)) (read_fault (scheme_answer t))

  abbrev claimed : Fault
  claimed = fault_of (first_fault (claim_tests P E))

  found_parts : fault_read (patterns_answer s) (scheme_answer t) ≡ or_else reading_fault claimed
  found_parts = or_else_assoc (read_fault (patterns_answer s)) (read_fault (scheme_answer t)) claimed

  read_small : number_in reading_fault ≤ 9
  read_small = earlier_nine (read_fault (patterns_answer s)) (read_fault (scheme_answer t)) (read_nine s) (scheme_read_nine t)

  -- a fault of reading is what is found, and writes nothing
  pub found_reading : faulty reading_fault ≡ true → fault_read (patterns_answer s) (scheme_answer t) ≡ reading_fault
  found_reading h = found_parts ∙ or_else_fault reading_fault claimed h

  pub found_claimed : faulty reading_fault ≡ false → fault_read (patterns_answer s) (scheme_answer t) ≡ claimed
  found_claimed h = found_parts ∙ or_else_clean reading_fault claimed h

  -- the verdict on the texts without a page
  texts_without : JudgesTextsWithoutPage s t (verdict_of_texts s t)
  texts_without = go (faulty reading_fault) refl
    where
      go : (b : Bool) → faulty reading_fault ≡ b → JudgesTextsWithoutPage s t (verdict_of_texts s t)
      go true h =
          let j = (refused_texts s t (patterns_answer s) refl reading (scheme_answer t) refl reading-scheme reading_fault refl h
          (answered reading_fault 0) refl).judges in
          rw j.verdict at j
      go false h =
          let j = (judged_texts s t (patterns_answer s) refl reading (scheme_answer t) refl reading-scheme reading_fault refl h
          (answered claimed (compared_cells P E)) refl).judges in
          rw j.verdict at j

  module _ (before after : List ℕ) (r : Verdict) (verdict : r ≡ verdict_read_on (length before) (patterns_answer s) (scheme_answer t))
      (page : after ≡ page_read (patterns_answer s) (scheme_answer t) before) where
    same_texts : PAGE ≤ length before → r ≡ verdict_of_texts s t
    same_texts long = verdict ∙ ap (λ (f : Fault). answered f (cells_read (patterns_answer s) (scheme_answer t)))
        (on_long (length before) (fault_read (patterns_answer s) (scheme_answer t)) long)

    page_long_read : PAGE ≤ length before → after ≡ overlay 0 (bytes_shown P E (fault_read (patterns_answer s) (scheme_answer t))) before
    page_long_read long = page ∙ ap (λ (f : Fault). overlay 0 (bytes_shown P E f) before)
        (on_long (length before) (fault_read (patterns_answer s) (scheme_answer t)) long)

    page_short_read : length before < PAGE → after ≡ before
    page_short_read short =
        page ∙ ap (λ (f : Fault). overlay 0 (bytes_shown P E f) before)
        (on_short (length before) (fault_read (patterns_answer s) (scheme_answer t)) short) ∙
        sym (page_kept P E (Err (refused_at ShortPage 0)) before (λ n. omega arith))

    -- on lists that the texts spell
    module _ (Q : List (List ℕ)) (F : List EntryList) (a : length s ≤ PATTERN_TEXT) (b : length t ≤ SCHEME_TEXT)
        (u : SpellsPatterns s Q) (v : SpellsScheme t F) where
      list_parts : fault_of (first_fault (judge_tests Q F)) ≡ or_else reading_fault (fault_of (first_fault (claim_tests Q F)))
      list_parts =
          verdict_parts Q F ∙
          ap₂ (λ (x y : Fault). or_else (or_else x y) (fault_of (first_fault (claim_tests Q F))))
          (sym (spelt_fault s (patterns_answer s) reading Q a u)) (sym (spelt_scheme_fault t (scheme_answer t) reading-scheme F b v))

      same_bytes : bytes_shown P E (fault_read (patterns_answer s) (scheme_answer t)) ≡
          bytes_shown Q F (fault_of (first_fault (judge_tests Q F)))
      same_bytes = go (faulty reading_fault) refl
        where
          other : number_in reading_fault ≡ 11 → ⊥
          other e = omega (arith, read_small)

          go : (c : Bool) → faulty reading_fault ≡ c →
              bytes_shown P E (fault_read (patterns_answer s) (scheme_answer t)) ≡
              bytes_shown Q F (fault_of (first_fault (judge_tests Q F)))
          go true h =
              ap (bytes_shown P E) (found_reading h) ∙ nothing_shown P E reading_fault other ∙ sym (nothing_shown Q F reading_fault other) ∙
              ap (bytes_shown Q F) (sym (list_parts ∙ or_else_fault reading_fault (fault_of (first_fault (claim_tests Q F))) h))
          go false h =
              let (x, y) = or_else_clean_both (read_fault (patterns_answer s)) (read_fault (scheme_answer t)) h in
              ap (bytes_shown P E) (found_claimed h) ∙
              ap₂ (λ (X : List (List ℕ)) (Y : List EntryList). bytes_shown X Y (fault_of (first_fault (claim_tests X Y))))
              (spelt_list s (patterns_answer s) reading Q a u x) (spelt_scheme_list t (scheme_answer t) reading-scheme F b v y) ∙
              ap (bytes_shown Q F) (sym (list_parts ∙ or_else_clean reading_fault (fault_of (first_fault (claim_tests Q F))) h))

      pub judges_spelt : Judges Q F before after r
      judges_spelt = go (below_or_not (length before) PAGE)
        where
          go : (length before < PAGE) ⊎ (PAGE ≤ length before) → Judges Q F before after r
          go (inl short) =
              let e : r ≡ Err (refused_at ShortPage 0) = verdict ∙
              ap (λ (f : Fault). answered f (cells_read (patterns_answer s) (scheme_answer t)))
              (on_short (length before) (fault_read (patterns_answer s) (scheme_answer t)) short) in
              rw (e, page_short_read short) (judges_short Q F before short)
          go (inr long) =
              judges_long Q F before after r long (same_texts long ∙ texts_without.spelt Q F a b u v)
              (page_long_read long ∙ ap (λ (l : List ℕ). overlay 0 l before) same_bytes)

    -- with refusal 11 both texts were read
    read_clean : (i : ℕ) → r ≡ Err (refused_at Irreversible i) → faulty reading_fault ≡ false
    read_clean i e = go (faulty reading_fault) refl (below_or_not (length before) PAGE)
      where
        number_answered : (f : Fault) (n : ℕ) → number_on (answered f n) ≡ number_in f
        number_answered (Ok u) n = refl
        number_answered (Err e) n = refl

        eleven : number_in (fault_read_on (length before) (patterns_answer s) (scheme_answer t)) ≡ 11
        eleven = sym (number_answered (fault_read_on (length before) (patterns_answer s) (scheme_answer t))
            (cells_read (patterns_answer s) (scheme_answer t))) ∙
            ap number_on (sym verdict ∙ e)

        go : (c : Bool) → faulty reading_fault ≡ c → (length before < PAGE) ⊎ (PAGE ≤ length before) → c ≡ false
        go false h l = refl
        go true h (inl short) =
            let n : number_in (Err (refused_at ShortPage 0)) ≡ 11 =
            sym (ap number_in (on_short (length before) (fault_read (patterns_answer s) (scheme_answer t)) short)) ∙ eleven in
            absurd (omega arith)
        go true h (inr long) =
            let n : number_in reading_fault ≡ 11 =
            sym (ap number_in (on_long (length before) (fault_read (patterns_answer s) (scheme_answer t)) long ∙ found_reading h))
            ∙ eleven in
            absurd (omega (arith, read_small))

    pub texts_on_page : JudgesTexts s t before after r
    texts_on_page =
        record {
          verdict = verdict;
          numbers = ap told_verdict verdict ∙
              told_answered (fault_read_on (length before) (patterns_answer s) (scheme_answer t))
              (cells_read (patterns_answer s) (scheme_answer t));
          page = page;
          spelt = λ Q F a b u v. judges_spelt Q F a b u v;
          exactly = λ long. rw (same_texts long) texts_without.exactly;
          same = same_texts;
          witness = λ i e.
              let (x, y) = or_else_clean_both (read_fault (patterns_answer s)) (read_fault (scheme_answer t)) (read_clean i e) in
              let u = reading.reads x in
              let v = reading-scheme.reads y in
              (P, E, u, v, (judges_spelt P E (patterns_short s x) (scheme_short t y) u v).witness i e);
        }

  -- The ways through the code: a fault of reading, and the claims of what was read.

  pub texts_refused : (page : List ℕ) (r : Verdict) → PAGE ≤ length page → faulty reading_fault ≡ true → r ≡ answered reading_fault 0 →
      JudgesTexts s t page page r
  texts_refused page r long h e =
      let f = on_long (length page) (fault_read (patterns_answer s) (scheme_answer t)) long ∙ found_reading h in
      texts_on_page page page r
      (e ∙ refused_answer reading_fault 0 (cells_read (patterns_answer s) (scheme_answer t)) h ∙
      sym (ap (λ (x : Fault). answered x (cells_read (patterns_answer s) (scheme_answer t))) f))
      (page_kept P E reading_fault page (λ n. omega (arith, read_small)) ∙ sym (ap (λ (x : Fault). overlay 0 (bytes_shown P E x) page) f))

  pub texts_judged : (before after : List ℕ) (r : Verdict) → PAGE ≤ length before → faulty reading_fault ≡ false →
      r ≡ answered claimed (compared_cells P E) → after ≡ overlay 0 (bytes_shown P E claimed) before → JudgesTexts s t before after r
  texts_judged before after r long h e q =
      let f = on_long (length before) (fault_read (patterns_answer s) (scheme_answer t)) long ∙ found_claimed h in
      texts_on_page before after r
      (e ∙ sym (ap (λ (x : Fault). answered x (cells_read (patterns_answer s) (scheme_answer t))) f))
      (q ∙ sym (ap (λ (x : Fault). overlay 0 (bytes_shown P E x) before) f))
