-- Laws of judging texts: what reading found decides, and the verdict on spelt lists is that on the
-- lists.
use Rattle.std.specs.Prelude.{Ok, Err, ℕ, ◌≤◌, ◌≡◌, refl, Bool, true, false, cond, List, [], ◌∷◌, length, ltb}
use Rattle.std.proofs.Common.{arith, sym, ap, ap₂, ◌∙◌, ltb-false}
use Rattle.word.specs.Ceilings.{PATTERN_TEXT, SCHEME_TEXT}
use Rattle.word.specs.ListLaws.{true_not_false}
use Rattle.word.specs.Finding.{first_fault}
use Rattle.word.specs.declared.refusal.Refusal.TheVariants.{Oversize}
use Rattle.forms.specs.SchemeList.{EntryList}
use Rattle.scheme.specs.WellFormed.{pattern_tests, scheme_tests}
use Rattle.forms.specs.SchemeMemory.{Fault, patterns_in, scheme_in, fault_of, or_else, faulty, told_or}
use Rattle.forms.specs.declared.memory.Patterns.{Patterns}
use Rattle.forms.specs.declared.memory.Scheme.{Scheme}
use Rattle.wellformed.proofs.OrderLaws.{or_else_fault, or_else_clean}
use Rattle.text_grammar.specs.Spelling.{SpellsPatterns, SpellsScheme}
use Rattle.text_grammar.specs.Tokens.{tokens}
use Rattle.text_grammar.specs.Grammar.{read_patterns, read_entries}
use Rattle.text_grammar.specs.SpellingLaws.{patterns_unique, scheme_unique}
use Rattle.notation.specs.Answers.{answer_from, read_fault, read_list}
use Rattle.notation.specs.PatternAnswers.{PatternsRead, read_or, refused_patterns, tested_patterns, patterns_answer, ReadsPatterns}
use Rattle.notation.specs.SchemeAnswers.{SchemeRead, read_scheme_or, refused_scheme, tested_scheme, scheme_answer, ReadsScheme}
use Rattle.verdict.specs.Verdict.{Verdict, claim_tests, compared_cells, answered, verdict_of, told_verdict, accepted}
use Rattle.verdict.specs.Truth.{WellFormed, AllTrue}
use Rattle.verdict.specs.VerdictLaws.{accepted_exactly}
use Rattle.judge.proofs.JudgementLaws.{refused_answer, told_answered, or_else_assoc, verdict_parts}
use Rattle.judge_texts.specs.TextJudgement.{fault_read, cells_read, verdict_read, verdict_of_texts, TextsTrue, JudgesAndReads, IsReadWell}
use Rattle.judge_texts.specs.declared.TextsJudged.{TextsJudged}

-- a refusal accepts nothing
refused_not : (f : Fault) (n : ℕ) → faulty f ≡ true → accepted (answered f n) ≡ true → ⊥
refused_not (Ok u) n h a = true_not_false (sym h)
refused_not (Err e) n h a = true_not_false (sym a)

-- the verdict on two texts, in the numbers of document 01
told_texts : (s t : List ℕ) (r : Verdict) → r ≡ verdict_of_texts s t →
    told_verdict r ≡ told_or (fault_read (patterns_answer s) (scheme_answer t)) (cells_read (patterns_answer s) (scheme_answer t) ∷ [])
told_texts s t r e = ap told_verdict e ∙ told_answered (fault_read (patterns_answer s) (scheme_answer t))
    (cells_read (patterns_answer s) (scheme_answer t))

-- a clean answer comes from a text within its ceiling
pub patterns_short : (s : List ℕ) → (read_fault (patterns_answer s)) ≡ Ok tt → length s ≤ PATTERN_TEXT
patterns_short s e = go (ltb PATTERN_TEXT (length s)) refl e
  where
    go : (b : Bool) → ltb PATTERN_TEXT (length s) ≡ b →
        read_fault (cond b (refused_patterns Oversize 0) (answer_from refused_patterns tested_patterns
        (read_patterns (tokens s)))) ≡ Ok tt → length s ≤ PATTERN_TEXT
    go true p q = let z : ◌≡◌ {A = ℕ} 0 1 = cc in absurd (omega arith)
    go false p q = ltb-false PATTERN_TEXT (length s) p

pub scheme_short : (t : List ℕ) → (read_fault (scheme_answer t)) ≡ Ok tt → length t ≤ SCHEME_TEXT
scheme_short t e = go (ltb SCHEME_TEXT (length t)) refl e
  where
    go : (b : Bool) → ltb SCHEME_TEXT (length t) ≡ b →
        read_fault (cond b (refused_scheme Oversize 0) (answer_from refused_scheme tested_scheme
        (read_entries (tokens t)))) ≡ Ok tt → length t ≤ SCHEME_TEXT
    go true p q = let z : ◌≡◌ {A = ℕ} 0 1 = cc in absurd (omega arith)
    go false p q = ltb-false SCHEME_TEXT (length t) p

-- the fault of a list that was read is that of its tests
pub read_fault_lem : (f : Fault) (m : Patterns) → read_fault (read_or f m) ≡ f
read_fault_lem (Ok u) m = refl
read_fault_lem (Err e) m = refl

pub read_scheme_fault : (f : Fault) (m : Scheme) → read_fault (read_scheme_or f m) ≡ f
read_scheme_fault (Ok u) m = refl
read_scheme_fault (Err e) m = refl

module _ (s : List ℕ) (p : PatternsRead) (reading : ReadsPatterns s p) (P : List (List ℕ))
    (short : length s ≤ PATTERN_TEXT) (spells : SpellsPatterns s P) where
  pub spelt_fault : (read_fault p) ≡ fault_of (first_fault (pattern_tests P))
  spelt_fault = ap (λ (x : PatternsRead). read_fault x) (reading.spelt P short spells) ∙
      read_fault_lem (fault_of (first_fault (pattern_tests P))) _

  pub spelt_list : (read_fault p) ≡ Ok tt → read_list patterns_in p ≡ P
  spelt_list e = patterns_unique s (read_list patterns_in p) P (reading.reads e) spells

module _ (t : List ℕ) (q : SchemeRead) (reading : ReadsScheme t q) (E : List EntryList)
    (short : length t ≤ SCHEME_TEXT) (spells : SpellsScheme t E) where
  pub spelt_scheme_fault : (read_fault q) ≡ fault_of (first_fault (scheme_tests E))
  spelt_scheme_fault = ap (λ (x : SchemeRead). read_fault x) (reading.spelt E short spells) ∙
      read_scheme_fault (fault_of (first_fault (scheme_tests E))) _

  pub spelt_scheme_list : (read_fault q) ≡ Ok tt → read_list scheme_in q ≡ E
  spelt_scheme_list e = scheme_unique t (read_list scheme_in q) E (reading.reads e) spells

-- an answer by a fault: the refusal stands whatever comes behind it
refusal : (f g : Fault) (n : ℕ) → faulty f ≡ true → answered f 0 ≡ answered (or_else f g) n
refusal f g n h = refused_answer f 0 n h ∙ ap (λ (x : Fault). answered x n) (sym (or_else_fault f g h))

pub or_else_clean_both : (a b : Fault) → faulty (or_else a b) ≡ false → (a ≡ Ok tt) × (b ≡ Ok tt)
or_else_clean_both (Ok u) (Ok v) h = (refl, refl)
or_else_clean_both (Ok u) (Err e) h = absurd (true_not_false h)
or_else_clean_both (Err e) b h = absurd (true_not_false h)

-- What is read from texts within their ceilings that spell a well-formed scheme with true claims
module _ (s t : List ℕ) (w : TextsTrue s t) where
  module _ (p : PatternsRead) (reading : ReadsPatterns s p) where
    pub set_clean : (read_fault p) ≡ Ok tt
    set_clean = spelt_fault s p reading w.patterns w.short w.spells ∙ ap fault_of w.formed.patterns

    pub set_list : read_list patterns_in p ≡ w.patterns
    set_list = spelt_list s p reading w.patterns w.short w.spells set_clean

  module _ (q : SchemeRead) (reading : ReadsScheme t q) where
    pub scheme_clean : (read_fault q) ≡ Ok tt
    scheme_clean = spelt_scheme_fault t q reading w.scheme w.short_scheme w.spells_scheme ∙ ap fault_of w.formed.scheme

    pub scheme_list : read_list scheme_in q ≡ w.scheme
    scheme_list = spelt_scheme_list t q reading w.scheme w.short_scheme w.spells_scheme scheme_clean

-- What was read from the texts s and t.
module _ (s t : List ℕ) (p : PatternsRead) (is : p ≡ patterns_answer s) (reading : ReadsPatterns s p)
    (q : SchemeRead) (is_scheme : q ≡ scheme_answer t)
    (reading-scheme : ReadsScheme t q) where
  abbrev P : List (List ℕ)
  P = read_list patterns_in p

  abbrev E : List EntryList
  E = read_list scheme_in q

  abbrev judged : Verdict → TextsJudged
  judged v = record { verdict = v; patterns = p; scheme = q }

  -- the verdict on what was read is that on the texts
  verdict_read_lem : answered (or_else (or_else (read_fault p) (read_fault q)) (fault_of (first_fault (claim_tests P E))))
      (compared_cells P E) ≡ verdict_of_texts s t
  verdict_read_lem =
      ap (λ (x : Fault). answered x (compared_cells P E))
      (sym (or_else_assoc (read_fault p) (read_fault q) (fault_of (first_fault (claim_tests P E))))) ∙
      ap₂ verdict_read is is_scheme

  -- the verdict on lists that the texts spell
  verdict_lists : (Q : List (List ℕ)) (F : List EntryList) → length s ≤ PATTERN_TEXT → length t ≤ SCHEME_TEXT →
      SpellsPatterns s Q → SpellsScheme t F →
      answered (or_else (or_else (read_fault p) (read_fault q)) (fault_of (first_fault (claim_tests Q F)))) (compared_cells Q F) ≡
      verdict_of Q F
  verdict_lists Q F a b u v =
      ap (λ (x : Fault). answered x (compared_cells Q F))
      (ap₂ (λ (x y : Fault). or_else (or_else x y) (fault_of (first_fault (claim_tests Q F))))
      (spelt_fault s p reading Q a u) (spelt_scheme_fault t q reading-scheme F b v) ∙
      sym (verdict_parts Q F))

  -- true texts have no fault
  true_clean : TextsTrue s t → or_else (read_fault p) (read_fault q) ≡ Ok tt
  true_clean w =
      ap₂ or_else (set_clean s t w p reading) (scheme_clean s t w q reading-scheme)

  module _ (fault : Fault) (found : fault ≡ or_else (read_fault p) (read_fault q)) where
    -- a fault of reading refuses
    module _ (h : faulty fault ≡ true) (r : Verdict) (e : r ≡ answered fault 0) where
      not_accepted : accepted r ≡ true → ⊥
      not_accepted a = refused_not fault 0 h (ap accepted (sym e) ∙ a)

      refused_so : (g : Fault) (n : ℕ) → r ≡ answered (or_else (or_else (read_fault p) (read_fault q)) g) n
      refused_so g n = e ∙ refusal fault g n h ∙ ap (λ (x : Fault). answered (or_else x g) n) found

      refused_verdict : r ≡ verdict_of_texts s t
      refused_verdict = refused_so (fault_of (first_fault (claim_tests P E))) (compared_cells P E) ∙ verdict_read_lem

      pub refused_texts : JudgesAndReads s t (judged r)
      refused_texts =
          record {
            judges = record {
              verdict = refused_verdict;
              numbers = told_texts s t r refused_verdict;
              spelt = λ Q F a b u v. refused_so (fault_of (first_fault (claim_tests Q F))) (compared_cells Q F) ∙ verdict_lists Q F a b u v;
              exactly = (
                λ a. absurd (not_accepted a),
                λ w. absurd (true_not_false (sym h ∙ ap faulty (found ∙ true_clean w))),
              );
            };
            patterns = is;
            scheme = is_scheme;
            spells = λ a. absurd (not_accepted a);
            spells_scheme = λ a. absurd (not_accepted a);
            formed = λ a. absurd (not_accepted a);
            claims = λ a. absurd (not_accepted a);
          }

    -- without one the lists are well-formed, and their claims decide
    module _ (h : faulty fault ≡ false) where
      both_clean : ((read_fault p) ≡ Ok tt) × ((read_fault q) ≡ Ok tt)
      both_clean = or_else_clean_both (read_fault p) (read_fault q) (ap faulty (sym found) ∙ h)

      pub texts_formed : WellFormed P E
      texts_formed = record { patterns = reading.passes both_clean.0; scheme = reading-scheme.passes both_clean.1 }

      module _ (r : Verdict) (e : r ≡ answered (fault_of (first_fault (claim_tests P E))) (compared_cells P E)) where
        nothing_before : (g : Fault) (n : ℕ) → answered g n ≡ answered (or_else (or_else (read_fault p) (read_fault q)) g) n
        nothing_before g n = sym (ap₂ (λ (x y : Fault). answered (or_else (or_else x y) g) n) both_clean.0 both_clean.1)

        on_lists : (Q : List (List ℕ)) (F : List EntryList) → length s ≤ PATTERN_TEXT → length t ≤ SCHEME_TEXT →
            SpellsPatterns s Q → SpellsScheme t F → r ≡ verdict_of Q F
        on_lists Q F a b u v =
            e ∙
            ap₂ (λ (X : List (List ℕ)) (Y : List EntryList). answered (fault_of (first_fault (claim_tests X Y))) (compared_cells X Y))
            (spelt_list s p reading Q a u both_clean.0) (spelt_scheme_list t q reading-scheme F b v both_clean.1) ∙
            nothing_before (fault_of (first_fault (claim_tests Q F))) (compared_cells Q F) ∙ verdict_lists Q F a b u v

        short : length s ≤ PATTERN_TEXT
        short = patterns_short s (ap (λ (x : PatternsRead). read_fault x) (sym is) ∙ both_clean.0)

        short_scheme : length t ≤ SCHEME_TEXT
        short_scheme = scheme_short t (ap (λ (x : SchemeRead). read_fault x) (sym is_scheme) ∙ both_clean.1)

        spells_set : SpellsPatterns s P
        spells_set = reading.reads both_clean.0

        spells_list : SpellsScheme t E
        spells_list = reading-scheme.reads both_clean.1

        accepted_lists : accepted r ≡ true → WellFormed P E × AllTrue P E
        accepted_lists a = (accepted_exactly P E).0 (ap accepted (sym (on_lists P E short short_scheme spells_set spells_list)) ∙ a)

        true_texts : accepted r ≡ true → TextsTrue s t
        true_texts a =
            record {
              patterns = P;
              scheme = E;
              short = short;
              short_scheme = short_scheme;
              spells = spells_set;
              spells_scheme = spells_list;
              formed = (accepted_lists a).0;
              claims = (accepted_lists a).1;
            }

        accept : TextsTrue s t → accepted r ≡ true
        accept w =
            ap accepted (on_lists w.patterns w.scheme w.short w.short_scheme w.spells w.spells_scheme) ∙
            (accepted_exactly w.patterns w.scheme).1 (w.formed, w.claims)

        judged_verdict : r ≡ verdict_of_texts s t
        judged_verdict = e ∙ nothing_before (fault_of (first_fault (claim_tests P E))) (compared_cells P E) ∙ verdict_read_lem

        pub judged_texts : JudgesAndReads s t (judged r)
        judged_texts =
            record {
              judges = record {
                verdict = judged_verdict;
                numbers = told_texts s t r judged_verdict;
                spelt = on_lists;
                exactly = (true_texts, accept);
              };
              patterns = is;
              scheme = is_scheme;
              spells = λ a. spells_set;
              spells_scheme = λ a. spells_list;
              formed = λ a. (accepted_lists a).0;
              claims = λ a. (accepted_lists a).1;
            }

  -- what was read is well-formed
  pub read_well : IsReadWell p q
  read_well = go p q reading reading-scheme
    where
      go : (p : PatternsRead) (q : SchemeRead) → ReadsPatterns s p → ReadsScheme t q → IsReadWell p q
      go (Ok m) (Ok n) u v = record { patterns = u.passes refl; scheme = v.passes refl }
      go (Ok m) (Err e) u v = tt
      go (Err e) q u v = tt

  -- the verdict on what was read, whichever it is
  pub texts_read : (r : Verdict) → r ≡ verdict_read p q → JudgesAndReads s t (judged r)
  texts_read r e = go (faulty (or_else (read_fault p) (read_fault q))) refl
    where
      found : Fault
      found = or_else (read_fault p) (read_fault q)

      claimed : Fault
      claimed = fault_of (first_fault (claim_tests P E))

      parts : r ≡ answered (or_else found claimed) (compared_cells P E)
      parts = e ∙ ap (λ (x : Fault). answered x (compared_cells P E)) (or_else_assoc (read_fault p) (read_fault q) claimed)

      go : (b : Bool) → faulty found ≡ b → JudgesAndReads s t (judged r)
      go true h = refused_texts found refl h r (parts ∙ sym (refusal found claimed (compared_cells P E) h))
      go false h = judged_texts found refl h r (parts ∙ ap (λ (x : Fault). answered x (compared_cells P E)) (or_else_clean found claimed h))
