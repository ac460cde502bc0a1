-- Laws of counting on texts: a fault of reading refuses, and else the lists decide.
use Rattle.std.specs.Prelude.{ℕ, ◌≤◌, ◌≡◌, refl, true, false, List, [], length}
use Rattle.std.proofs.Common.{sym, ap, ap₂, ◌∙◌}
use Rattle.word.specs.Ceilings.{LENGTH, PLAIN_LENGTH as PLAIN}
use Rattle.word.specs.Word.{avoiders}
use Rattle.word.specs.ListLaws.{true_not_false}
use Rattle.forms.specs.SchemeList.{EntryList}
use Rattle.forms.specs.SchemeMemory.{Fault, patterns_in, scheme_in, or_else, faulty}
use Rattle.wellformed.proofs.OrderLaws.{or_else_fault, or_else_clean}
use Rattle.notation.specs.Answers.{read_fault, read_list}
use Rattle.notation.specs.PatternAnswers.{PatternsRead, patterns_answer, ReadsPatterns}
use Rattle.notation.specs.SchemeAnswers.{SchemeRead, scheme_answer, ReadsScheme}
use Rattle.verdict.specs.Verdict.{verdict_of, accepted}
use Rattle.verdict.specs.VerdictLaws.{accepted_exactly}
use Rattle.judge_texts.specs.TextJudgement.{TextsTrue}
use Rattle.judge_texts.specs.TextVerdictLaws.{set_clean, set_list, scheme_clean, scheme_list}
use Rattle.count_plan.specs.Layout.{need_of}
use Rattle.count_answer.specs.Counting.{Counted, counted_or, table_after, Counts, PlainCounts}
use Rattle.count_answer.proofs.CountLaws.{refused_count, refused_table}
use Rattle.word.specs.declared.refusal.Refused.{Refused}
use Rattle.forms.specs.declared.memory.Patterns.{Patterns}
use Rattle.forms.specs.declared.memory.Scheme.{Scheme}
use Rattle.std.specs.Prelude.{Ok, Err}
use Rattle.std.specs.declared.result.Result.{Result}
use Rattle.twin_exports.specs.TextCounts.{code_of, both_read, count_in, CountsTexts, PlainTexts}

-- reading both finds what reading the set finds, and then what reading the scheme finds
pub both_found : (p : PatternsRead) (q : SchemeRead) → read_fault (both_read p q) ≡ or_else (read_fault p) (read_fault q)
both_found (Ok p) (Ok q) = refl
both_found (Ok p) (Err e) = refl
both_found (Err e) q = refl

-- where both are read, these are their lists
pub both_lists : (p : PatternsRead) (q : SchemeRead) (P : Patterns) (S : Scheme) → both_read p q ≡ Ok (P, S) →
    (read_list patterns_in p ≡ patterns_in P) × (read_list scheme_in q ≡ scheme_in S)
both_lists (Ok p) (Ok q) P S h = (ap first h, ap second h)
  where
    first : Result (Patterns × Scheme) Refused → List (List ℕ)
    first (Ok x) = patterns_in x.0
    first (Err e) = []

    second : Result (Patterns × Scheme) Refused → List EntryList
    second (Ok x) = scheme_in x.1
    second (Err e) = []
both_lists (Ok p) (Err e) P S h = absurd (true_not_false (ap (λ (x : Result (Patterns × Scheme) Refused). faulty (read_fault x)) h))
both_lists (Err e) q P S h = absurd (true_not_false (ap (λ (x : Result (Patterns × Scheme) Refused). faulty (read_fault x)) h))

-- What was read from the texts s and t.
module _ (s t : List ℕ) (p : PatternsRead) (reads : (p ≡ patterns_answer s) × ReadsPatterns s p) (q : SchemeRead)
    (reads_scheme : (q ≡ scheme_answer t) × ReadsScheme t q) (f : Fault) (found : f ≡ or_else (read_fault p) (read_fault q)) where
  is : p ≡ patterns_answer s
  is = reads.0

  is_scheme : q ≡ scheme_answer t
  is_scheme = reads_scheme.0

  read_fault_lem : f ≡ or_else (read_fault (patterns_answer s)) (read_fault (scheme_answer t))
  read_fault_lem = found ∙ ap₂ (λ (x : PatternsRead) (y : SchemeRead). or_else (read_fault x) (read_fault y)) is is_scheme

  -- accepted texts are read without a fault, and their lists are accepted
  module _ (w : TextsTrue s t) where
    pub none_found : faulty f ≡ false
    none_found = ap faulty (found ∙ ap₂ or_else (set_clean s t w p reads.1) (scheme_clean s t w q reads_scheme.1))

    pub lists_accepted : accepted (verdict_of (read_list patterns_in p) (read_list scheme_in q)) ≡ true
    lists_accepted =
        ap₂ (λ (P : List (List ℕ)) (E : List EntryList). accepted (verdict_of P E)) (set_list s t w p reads.1)
        (scheme_list s t w q reads_scheme.1) ∙
        (accepted_exactly w.patterns w.scheme).1 (w.formed, w.claims)

  -- a fault of reading
  pub first_found : faulty f ≡ true → (g : Fault) → or_else (or_else (read_fault (patterns_answer s)) (read_fault (scheme_answer t))) g ≡ f
  first_found h g = ap (λ (x : Fault). or_else x g) (sym read_fault_lem) ∙ or_else_fault f g h

  pub kept_so : faulty f ≡ true → (g : Fault) (m : ℕ) (T : List ℕ) →
      T ≡ table_after (or_else (or_else (read_fault (patterns_answer s)) (read_fault (scheme_answer t))) g) m T
  kept_so h g m T = refused_table f m T h ∙ ap (λ (x : Fault). table_after x m T) (sym (first_found h g))

  module _ (h : faulty f ≡ true) (g : Fault) (v : ℕ) (c : Counted) (e : c ≡ counted_or f 0) where
    refused_so : c ≡ counted_or (or_else (or_else (read_fault (patterns_answer s)) (read_fault (scheme_answer t))) g) v
    refused_so = e ∙ refused_count f 0 v h ∙ ap (λ (x : Fault). counted_or x v) (sym (first_found h g))

  pub count_refused : faulty f ≡ true → (n : ℕ) (T : List ℕ) (c : Counted) (r : ℕ) → c ≡ counted_or f 0 → r ≡
      code_of c → CountsTexts s t n T T r
  count_refused h n T c r e k =
      record {
        answer = k ∙ ap code_of (refused_so h _ (count_in s t n) c e);
        table = kept_so h _ (need_of n (read_list scheme_in (scheme_answer t))) T;
        counts = λ w a b. absurd (true_not_false (sym h ∙ none_found w));
      }

  pub plain_refused : faulty f ≡ true → (n : ℕ) (c : Counted) (r : ℕ) → c ≡ counted_or f 0 → r ≡ code_of c → PlainTexts s t n r
  plain_refused h n c r e k =
      record {
        answer = k ∙ ap code_of (refused_so h _ (count_in s t n) c e);
        counts = λ w a. absurd (true_not_false (sym h ∙ none_found w));
      }

  -- where reading finds nothing, the lists decide
  module _ (h : faulty f ≡ false) where
    pub then_found : (g : Fault) → g ≡ or_else (or_else (read_fault (patterns_answer s)) (read_fault (scheme_answer t))) g
    then_found g = sym (ap (λ (x : Fault). or_else x g) (sym read_fault_lem) ∙ or_else_clean f g h)

    pub count_done : (n : ℕ) (T T' : List ℕ) (c : Counted) (r : ℕ) →
        Counts (read_list patterns_in p) (read_list scheme_in q) n T T' c → r ≡ code_of c →
        CountsTexts s t n T T' r
    count_done n T T' c r d k =
        record {
          answer = k ∙ ap code_of (moved.answer ∙ ap (λ (x : Fault). counted_or x (count_in s t n)) (then_found _));
          table = moved.table ∙ ap (λ (x : Fault). table_after x (need_of n (read_list scheme_in (scheme_answer t))) T) (then_found _);
          counts = λ (w : TextsTrue s t) (a : n ≤ LENGTH) (b : need_of n w.scheme ≤ length T).
              k ∙ ap code_of (d.counts (lists_accepted w) a (rw (scheme_list s t w q reads_scheme.1) b)) ∙
              ap (λ (P : List (List ℕ)). length (avoiders P n)) (set_list s t w p reads.1);
        }
      where
        moved : Counts (read_list patterns_in (patterns_answer s)) (read_list scheme_in (scheme_answer t)) n T T' c
        moved = rw (← is, ← is_scheme) d

    pub plain_done : (n : ℕ) (c : Counted) (r : ℕ) →
        PlainCounts (read_list patterns_in p) (read_list scheme_in q) n c → r ≡ code_of c → PlainTexts s t n r
    plain_done n c r d k =
        record {
          answer = k ∙ ap code_of (moved.answer ∙ ap (λ (x : Fault). counted_or x (count_in s t n)) (then_found _));
          counts = λ (w : TextsTrue s t) (a : n ≤ PLAIN).
              k ∙ ap code_of (d.counts (lists_accepted w) a) ∙
              ap (λ (P : List (List ℕ)). length (avoiders P n)) (set_list s t w p reads.1);
        }
      where
        moved : PlainCounts (read_list patterns_in (patterns_answer s)) (read_list scheme_in (scheme_answer t)) n c
        moved = rw (← is, ← is_scheme) d
