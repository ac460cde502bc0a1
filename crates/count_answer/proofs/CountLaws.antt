-- Laws of counting: the tests in their order, and what an accepted count is.
use Rattle.std.specs.Prelude.{ℕ, ◌≤◌, ◌<◌, ◌≡◌, refl, Bool, true, false, List, [], ◌∷◌, ◌++◌, length, ltb, Ok, Err}
use Rattle.std.proofs.Common.{arith, sym, ap, ap₂, ◌∙◌}
use borrow.Author.Tests.{lt-ltb, le-ltb}
use Rattle.word.specs.Ceilings.{LENGTH, PLAIN_LENGTH as PLAIN}
use Rattle.word.specs.Word.{avoiders}
use Rattle.word.specs.ListLaws.{true_not_false}
use Rattle.word.specs.Finding.{Finding, test, first_fault}
use Rattle.word.specs.Told.{told_by}
use Rattle.word.specs.declared.refusal.Refusal.TheVariants.{Oversize, ShortTable}
use Rattle.forms.specs.SchemeList.{EntryList}
use Rattle.forms.specs.SchemeMemory.{Fault, fault_of, or_else, faulty, told_or}
use Rattle.forms.specs.ToldLaws.{told_found}
use Rattle.word.specs.Refusal.{refused_at}
use Rattle.wellformed.proofs.OrderLaws.{or_else_fault, or_else_clean, not_faulty, faults_append}
use Rattle.verdict.specs.Verdict.{Verdict, compared_cells, judge_tests, answered, verdict_of, accepted}
use Rattle.verdict.specs.VerdictLaws.{accepted_clean, accepted_exactly}
use Rattle.count_plan.specs.Layout.{need_of}
use Rattle.verdict.specs.Value.{count_of}
use Rattle.verdict.specs.ValueLaws.{count_avoiders}
use Rattle.count_answer.specs.Counting.{table_tests, count_tests, length_tests, plain_tests, fault_in, Counted, counted_or}
use Rattle.count_answer.specs.Counting.{told_counted, table_after, Counts, PlainCounts}

-- the fault in a verdict is that of its tests
pub verdict_fault : (P : List (List ℕ)) (E : List EntryList) (v : Verdict) → v ≡ verdict_of P E → fault_in v ≡
    fault_of (first_fault (judge_tests P E))
verdict_fault P E v e = ap fault_in e ∙ read (fault_of (first_fault (judge_tests P E))) (compared_cells P E)
  where
    read : (f : Fault) (n : ℕ) → fault_in (answered f n) ≡ f
    read (Ok u) n = refl
    read (Err e) n = refl

-- a clean verdict accepts
pub clean_accepts : (v : Verdict) → fault_in v ≡ Ok tt → accepted v ≡ true
clean_accepts (Ok n) e = refl
clean_accepts (Err x) e = let z : ◌≡◌ {A = ℕ} 0 1 =
    cc in absurd (omega arith)

-- the tests of n and of the table
pub length_refused : (E : List EntryList) (n cells : ℕ) → LENGTH < n →
    fault_of (first_fault (table_tests E n cells)) ≡ Err (refused_at Oversize 0)
length_refused E n cells h = rw (lt-ltb LENGTH n h) refl

pub table_refused : (E : List EntryList) (n cells : ℕ) → n ≤ LENGTH → cells < need_of n E →
    fault_of (first_fault (table_tests E n cells)) ≡ Err (refused_at ShortTable 0)
table_refused E n cells h k = rw (le-ltb LENGTH n h, lt-ltb cells (need_of n E) k) refl

pub table_serves : (E : List EntryList) (n cells : ℕ) → n ≤ LENGTH → need_of n E ≤ cells →
    fault_of (first_fault (table_tests E n cells)) ≡ Ok tt
table_serves E n cells h k = rw (le-ltb LENGTH n h, le-ltb cells (need_of n E) k) refl

-- where they find nothing, n is at most LENGTH and the table is long enough
pub table_good : (E : List EntryList) (n cells : ℕ) → fault_of (first_fault (table_tests E n cells)) ≡ Ok tt →
    (n ≤ LENGTH) × (need_of n E ≤ cells)
table_good E n cells e = go (ltb LENGTH n) (ltb cells (need_of n E)) refl refl e
  where
    go : (a b : Bool) → ltb LENGTH n ≡ a → ltb cells (need_of n E) ≡ b →
        fault_of (first_fault (test Oversize a ∷ test ShortTable b ∷ [])) ≡ Ok tt → (n ≤ LENGTH) ×
        (need_of n E ≤ cells)
    go true b p q r = let z : ◌≡◌ {A = ℕ} 0 1 = cc in absurd (omega arith)
    go false true p q r = let z : ◌≡◌ {A = ℕ} 0 1 = cc in absurd (omega arith)
    go false false p q r = (borrow.Author.Tests.ltb-false LENGTH n p, borrow.Author.Tests.ltb-false cells (need_of n E) q)

-- the test of n in the plain evaluation
pub length_serves : (n : ℕ) → n ≤ PLAIN → fault_of (first_fault (length_tests n)) ≡ Ok tt
length_serves n h = rw (le-ltb PLAIN n h) refl

pub length_long : (n : ℕ) → PLAIN < n → fault_of (first_fault (length_tests n)) ≡ Err (refused_at Oversize 0)
length_long n h = rw (lt-ltb PLAIN n h) refl

pub length_good : (n : ℕ) → fault_of (first_fault (length_tests n)) ≡ Ok tt → n ≤ PLAIN
length_good n e = go (ltb PLAIN n) refl e
  where
    go : (a : Bool) → ltb PLAIN n ≡ a → fault_of (first_fault (test Oversize a ∷ [])) ≡ Ok tt → n ≤ PLAIN
    go true p r = let z : ◌≡◌ {A = ℕ} 0 1 = cc in absurd (omega arith)
    go false p r = borrow.Author.Tests.ltb-false PLAIN n p

-- an answer to a refusal does not ask for the count, and leaves the table
pub refused_count : (f : Fault) (m n : ℕ) → faulty f ≡ true → counted_or f m ≡ counted_or f n
refused_count (Ok u) m n h = absurd (true_not_false (sym h))
refused_count (Err e) m n h = refl

pub refused_table : (f : Fault) (m : ℕ) (t : List ℕ) → faulty f ≡ true → t ≡ table_after f m t
refused_table (Ok u) m t h = absurd (true_not_false (sym h))
refused_table (Err e) m t h = refl

-- an answer by what the tests find, in the numbers of document 01
told_counted_lem : (x : Finding) (n : ℕ) (r : Counted) → r ≡ counted_or (fault_of x) n → told_counted r ≡ told_by x (n ∷ [])
told_counted_lem x n r e = ap told_counted e ∙ by_fault (fault_of x) ∙ told_found x (n ∷ [])
  where
    by_fault : (f : Fault) → told_counted (counted_or f n) ≡ told_or f (n ∷ [])
    by_fault (Ok u) = refl
    by_fault (Err e) = refl

module _ (P : List (List ℕ)) (E : List EntryList) where
  -- an accepted scheme has no fault in the tests of judging
  pub accepted_judged : accepted (verdict_of P E) ≡ true → fault_of (first_fault (judge_tests P E)) ≡ Ok tt
  accepted_judged a = ap fault_of (accepted_clean (first_fault (judge_tests P E)) (compared_cells P E) a)

  -- the count of an accepted scheme
  count_exact : accepted (verdict_of P E) ≡ true → (n : ℕ) → count_of P E n ≡ length (avoiders P n)
  count_exact a n = let (formed, claims) = (accepted_exactly P E).0 a in count_avoiders P E formed claims n

  -- what the equations of an answer promise
  pub counts_so : (n : ℕ) (before after : List ℕ) (r : Counted) → r ≡
      counted_or (fault_of (first_fault (count_tests P E n (length before)))) (count_of P E n) →
      after ≡ table_after (fault_of (first_fault (count_tests P E n (length before)))) (need_of n E) before → Counts P E n before after r
  counts_so n before after r e t =
      record {
        answer = e;
        numbers = told_counted_lem (first_fault (count_tests P E n (length before))) (count_of P E n) r e;
        table = t;
        counts = λ a h k.
            e ∙
            ap (λ (f : Fault). counted_or f (count_of P E n))
            (faults_append (judge_tests P E) (table_tests E n (length before)) ∙
            ap₂ or_else (accepted_judged a) (table_serves E n (length before) h k)) ∙
            ap Ok (count_exact a n);
      }

  pub plain_so : (n : ℕ) (r : Counted) → r ≡ counted_or (fault_of (first_fault (plain_tests P E n))) (count_of P E n) → PlainCounts P E n r
  plain_so n r e =
      record {
        answer = e;
        numbers = told_counted_lem (first_fault (plain_tests P E n)) (count_of P E n) r e;
        counts = λ a h.
            e ∙
            ap (λ (f : Fault). counted_or f (count_of P E n))
            (faults_append (judge_tests P E) (length_tests n) ∙ ap₂ or_else (accepted_judged a) (short h)) ∙
            ap Ok (count_exact a n);
      }
    where
      short : n ≤ PLAIN → fault_of (first_fault (length_tests n)) ≡ Ok tt
      short h = length_serves n h

  -- Two parts of tests: a fault in the first refuses, then one in the second.
  module _ (l : List Finding) (f : Fault) (is : f ≡ fault_of (first_fault (judge_tests P E))) where
    pub first_refuses : faulty f ≡ true → fault_of (first_fault (judge_tests P E ++ l)) ≡ f
    first_refuses h =
        faults_append (judge_tests P E) l ∙ ap (λ (x : Fault). or_else x (fault_of (first_fault l))) (sym is) ∙
        or_else_fault f (fault_of (first_fault l)) h

    pub then_second : faulty f ≡ false → fault_of (first_fault (judge_tests P E ++ l)) ≡ fault_of (first_fault l)
    then_second h =
        faults_append (judge_tests P E) l ∙ ap (λ (x : Fault). or_else x (fault_of (first_fault l))) (sym is) ∙
        or_else_clean f (fault_of (first_fault l)) h

  -- Counting by the table: f is what judging found.
  module _ (n : ℕ) (T : List ℕ) (f : Fault) (is : f ≡ fault_of (first_fault (judge_tests P E))) where
    by_fault : (g : Fault) → fault_of (first_fault (count_tests P E n (length T))) ≡ g → faulty g ≡ true →
        (r : Counted) → r ≡ counted_or g 0 → Counts P E n T T r
    by_fault g e h r q =
        counts_so n T T r (q ∙ refused_count g 0 (count_of P E n) h ∙ ap (λ (x : Fault). counted_or x (count_of P E n)) (sym e))
        (refused_table g (need_of n E) T h ∙ ap (λ (x : Fault). table_after x (need_of n E) T) (sym e))

    pub refused_judging : faulty f ≡ true → (r : Counted) → r ≡ counted_or f 0 → Counts P E n T T r
    refused_judging h = by_fault f (first_refuses (table_tests E n (length T)) f is h) h

    -- g is what the tests of n and of the table found
    module _ (h : faulty f ≡ false) (g : Fault) (found : g ≡ fault_of (first_fault (table_tests E n (length T)))) where
      tests_so : fault_of (first_fault (count_tests P E n (length T))) ≡ g
      tests_so = then_second (table_tests E n (length T)) f is h ∙ sym found

      pub refused_n_or_table : faulty g ≡ true → (r : Counted) → r ≡ counted_or g 0 → Counts P E n T T r
      refused_n_or_table k = by_fault g tests_so k

      module _ (k : faulty g ≡ false) where
        pub served : (n ≤ LENGTH) × (need_of n E ≤ length T)
        served = table_good E n (length T) (sym found ∙ not_faulty g k)

        pub done : (T' : List ℕ) (v : ℕ) (r : Counted) → T' ≡ table_after (Ok tt) (need_of n E) T → v ≡ count_of P E n →
            r ≡ counted_or g v → Counts P E n T T' r
        done T' v r t e q =
            counts_so n T T' r (q ∙ ap₂ counted_or (sym tests_so) e)
            (t ∙ ap (λ (x : Fault). table_after x (need_of n E) T) (sym (tests_so ∙ not_faulty g k)))

  -- Plain evaluation: f is what judging found.
  module _ (n : ℕ) (f : Fault) (is : f ≡ fault_of (first_fault (judge_tests P E))) where
    pub plain_refused : faulty f ≡ true → (r : Counted) → r ≡ counted_or f 0 → PlainCounts P E n r
    plain_refused h r q =
        plain_so n r (q ∙ refused_count f 0 (count_of P E n) h ∙ ap (λ (x : Fault). counted_or x (count_of P E n))
        (sym (first_refuses (length_tests n) f is h)))

    module _ (h : faulty f ≡ false) (g : Fault) (found : g ≡ fault_of (first_fault (length_tests n))) where
      pub plain_long : faulty g ≡ true → (r : Counted) → r ≡ counted_or g 0 → PlainCounts P E n r
      plain_long k r q =
          plain_so n r (q ∙ refused_count g 0 (count_of P E n) k ∙
          ap (λ (x : Fault). counted_or x (count_of P E n)) (sym (then_second (length_tests n) f is h ∙ sym found)))

      pub plain_done : (v : ℕ) (r : Counted) → v ≡ count_of P E n → r ≡ counted_or g v → PlainCounts P E n r
      plain_done v r e q = plain_so n r (q ∙ ap₂ counted_or (sym (then_second (length_tests n) f is h ∙ sym found)) e)
