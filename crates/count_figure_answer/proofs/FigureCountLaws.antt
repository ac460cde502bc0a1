-- Laws of counting by inversions: the tests in their order, and what an accepted scheme's figures
-- are.
use Rattle.std.specs.Prelude.{ℕ, ◌≤◌, ◌<◌, ◌≡◌, refl, Bool, true, false, List, [], ◌∷◌, ◌++◌, length, get_or, take, drop, ltb, Ok, Err}
use Rattle.std.proofs.Common.{arith, sym, ap, ap₂, ◌∙◌, take_at, lt-ltb, le-ltb, ltb-false}
use Rattle.std.proofs.Math.ListN.{get_or-append}
use Rattle.word.specs.Ceilings.{REFINED}
use Rattle.word.specs.Word.{avoiders}
use Rattle.word.specs.Inversions.{pairs, figure_count, figures}
use Rattle.word.proofs.InversionLaws.{tally_length}
use Rattle.word.specs.ListLaws.{true_not_false}
use Rattle.word.specs.Finding.{Finding, test, first_fault}
use Rattle.word.specs.Told.{told_by}
use Rattle.word.specs.declared.refusal.Refusal.TheVariants.{Oversize, ShortTable, ShortPage}
use Rattle.cell.specs.Cell.{total}
use Rattle.cell.proofs.FigureLaws.{figures_total, figure_at}
use Rattle.forms.specs.SchemeList.{EntryList}
use Rattle.forms.specs.SchemeMemory.{Fault, fault_of, or_else, faulty, told_or}
use Rattle.forms.specs.ToldLaws.{told_found}
use Rattle.word.specs.Refusal.{refused_at}
use Rattle.wellformed.proofs.OrderLaws.{not_faulty, faults_append}
use Rattle.verdict.specs.Verdict.{judge_tests, verdict_of, accepted}
use Rattle.verdict.specs.VerdictLaws.{accepted_exactly}
use Rattle.verdict.specs.ValueLaws.{count_avoiders}
use Rattle.count_figures.specs.FigureSizeLaws.{count_is_lem}
use Rattle.count_answer.specs.Counting.{table_after}
use Rattle.count_answer.proofs.CountLaws.{refused_table, accepted_judged, first_refuses, then_second}
use Rattle.count_figure_answer.specs.FigureCounting.{figure_need, figure_tests, inversion_tests, Figured, figured_or, told_figured}
use Rattle.count_figure_answer.specs.FigureCounting.{results_after, Promised, CountsByInversions}

-- The tests of n, of the table and of the results
module _ (E : List EntryList) (n cells results : ℕ) where
  pub length_refused : REFINED < n → fault_of (first_fault (figure_tests E n cells results)) ≡ Err (refused_at Oversize 0)
  length_refused h = rw (lt-ltb REFINED n h) refl

  pub table_refused : n ≤ REFINED → cells < figure_need n E →
      fault_of (first_fault (figure_tests E n cells results)) ≡ Err (refused_at ShortTable 0)
  table_refused h k = rw (le-ltb REFINED n h, lt-ltb cells (figure_need n E) k) refl

  pub results_refused : n ≤ REFINED → figure_need n E ≤ cells → results < figure_count n →
      fault_of (first_fault (figure_tests E n cells results)) ≡ Err (refused_at ShortPage 0)
  results_refused h k l = rw (le-ltb REFINED n h, le-ltb cells (figure_need n E) k, lt-ltb results (figure_count n) l) refl

  pub figures_serve : n ≤ REFINED → figure_need n E ≤ cells → figure_count n ≤ results →
      fault_of (first_fault (figure_tests E n cells results)) ≡ Ok tt
  figures_serve h k l = rw (le-ltb REFINED n h, le-ltb cells (figure_need n E) k, le-ltb results (figure_count n) l) refl

  -- where they find nothing, n is at most REFINED and both slices are long enough
  pub figures_good : fault_of (first_fault (figure_tests E n cells results)) ≡ Ok tt →
      (n ≤ REFINED) × (figure_need n E ≤ cells) × (figure_count n ≤ results)
  figures_good e = go (ltb REFINED n) (ltb cells (figure_need n E)) (ltb results (figure_count n)) refl refl refl e
    where
      go : (a b d : Bool) → ltb REFINED n ≡ a → ltb cells (figure_need n E) ≡ b → ltb results (figure_count n) ≡ d →
          fault_of (first_fault (test Oversize a ∷ test ShortTable b ∷ test ShortPage d ∷ [])) ≡ Ok tt →
          (n ≤ REFINED) × (figure_need n E ≤ cells) × (figure_count n ≤ results)
      go true b d p q s r = let z : ◌≡◌ {A = ℕ} 0 1 = cc in absurd (omega arith)
      go false true d p q s r = let z : ◌≡◌ {A = ℕ} 0 1 = cc in absurd (omega arith)
      go false false true p q s r = let z : ◌≡◌ {A = ℕ} 0 1 = cc in absurd (omega arith)
      go false false false p q s r =
          (ltb-false REFINED n p, ltb-false cells (figure_need n E) q, ltb-false results (figure_count n) s)

-- an answer to a refusal does not ask for the number of figures, and leaves the results
pub refused_figures : (f : Fault) (m n : ℕ) → faulty f ≡ true → figured_or f m ≡ figured_or f n
refused_figures (Ok u) m n h = absurd (true_not_false (sym h))
refused_figures (Err e) m n h = refl

pub refused_results : (f : Fault) (x r : List ℕ) → faulty f ≡ true → r ≡ results_after f x r
refused_results (Ok u) x r h = absurd (true_not_false (sym h))
refused_results (Err e) x r h = refl

-- an answer by what the tests find, in the numbers of document 01
told_figured_lem : (x : Finding) (n : ℕ) (r : Figured) → r ≡ figured_or (fault_of x) n → told_figured r ≡ told_by x (n ∷ [])
told_figured_lem x n r e = ap told_figured e ∙ by_fault (fault_of x) ∙ told_found x (n ∷ [])
  where
    by_fault : (f : Fault) → told_figured (figured_or f n) ≡ told_or f (n ∷ [])
    by_fault (Ok u) = refl
    by_fault (Err e) = refl

pub figures_length : (P : List (List ℕ)) (n : ℕ) → length (figures P n) ≡ figure_count n
unfolding figures
figures_length P n = tally_length n (avoiders P n)

module _ (P : List (List ℕ)) (E : List EntryList) (n : ℕ) (T R : List ℕ) where
  abbrev found : Fault
  found = fault_of (first_fault (inversion_tests P E n (length T) (length R)))

  -- what an accepted scheme's figures are
  promised : accepted (verdict_of P E) ≡ true → (S : List ℕ) (r : Figured) → r ≡ Ok (figure_count n) →
      S ≡ figures P n ++ drop (length (figures P n)) R → Promised P E n S r
  promised a S r written s =
      let (formed, truth) = (accepted_exactly P E).0 a in
      let front : take (figure_count n) S ≡ figures P n =
      ap (take (figure_count n)) s ∙ take_at (figures P n) (drop (length (figures P n)) R) (figure_count n) (figures_length P n) in
      let sum : total (take (figure_count n) S) ≡ length (avoiders P n) = ap total front ∙ figures_total P n in
      record {
        written = written;
        each = λ (q : ℕ) (h : q ≤ pairs n).
            ap (λ (l : List ℕ). get_or l q 0) s ∙
            get_or-append (figures P n) (drop (length (figures P n)) R) 0 q (omega (arith, figures_length P n, count_is_lem n)) ∙
            figure_at P n q h;
        sum = sum;
        plain = sum ∙ sym (count_avoiders P E formed truth n);
      }

  -- what the equations of an answer promise
  figured_so : (U S : List ℕ) (r : Figured) → r ≡ figured_or found (figure_count n) → U ≡ table_after found (figure_need n E) T →
      S ≡ results_after found (figures P n) R → CountsByInversions P E n T U R S r
  figured_so U S r e t s =
      record {
        answer = e;
        numbers = told_figured_lem (first_fault (inversion_tests P E n (length T) (length R))) (figure_count n) r e;
        table = t;
        results = s;
        counts = λ a h k l.
            let clean : found ≡ Ok tt =
            faults_append (judge_tests P E) (figure_tests E n (length T) (length R)) ∙
            ap₂ or_else (accepted_judged P E a) (figures_serve E n (length T) (length R) h k l) in
            promised a S r (e ∙ ap (λ (f : Fault). figured_or f (figure_count n)) clean)
            (s ∙ ap (λ (f : Fault). results_after f (figures P n) R) clean);
      }

  by_fault : (g : Fault) → found ≡ g → faulty g ≡ true → (r : Figured) → r ≡ figured_or g 0 → CountsByInversions P E n T T R R r
  by_fault g e h r q =
      figured_so T R r
      (q ∙ refused_figures g 0 (figure_count n) h ∙ ap (λ (x : Fault). figured_or x (figure_count n)) (sym e))
      (refused_table g (figure_need n E) T h ∙ ap (λ (x : Fault). table_after x (figure_need n E) T) (sym e))
      (refused_results g (figures P n) R h ∙ ap (λ (x : Fault). results_after x (figures P n) R) (sym e))

  -- f is what judging found
  module _ (f : Fault) (is : f ≡ fault_of (first_fault (judge_tests P E))) where
    pub refused_judging : faulty f ≡ true → (r : Figured) → r ≡ figured_or f 0 → CountsByInversions P E n T T R R r
    refused_judging h = by_fault f (first_refuses P E (figure_tests E n (length T) (length R)) f is h) h

    -- g is what the tests of n, of the table and of the results found
    module _ (h : faulty f ≡ false) (g : Fault) (said : g ≡ fault_of (first_fault (figure_tests E n (length T) (length R)))) where
      tests_so : found ≡ g
      tests_so = then_second P E (figure_tests E n (length T) (length R)) f is h ∙ sym said

      pub refused_slices : faulty g ≡ true → (r : Figured) → r ≡ figured_or g 0 → CountsByInversions P E n T T R R r
      refused_slices k = by_fault g tests_so k

      module _ (k : faulty g ≡ false) where
        pub served : (n ≤ REFINED) × (figure_need n E ≤ length T) × (figure_count n ≤ length R)
        served = figures_good E n (length T) (length R) (sym said ∙ not_faulty g k)

        pub done : (U S : List ℕ) (v : ℕ) (r : Figured) → U ≡ table_after (Ok tt) (figure_need n E) T →
            S ≡ results_after (Ok tt) (figures P n) R → v ≡ figure_count n → r ≡ figured_or g v → CountsByInversions P E n T U R S r
        done U S v r t s e q =
            figured_so U S r (q ∙ ap₂ figured_or (sym tests_so) e)
            (t ∙ ap (λ (x : Fault). table_after x (figure_need n E) T) (sym (tests_so ∙ not_faulty g k)))
            (s ∙ ap (λ (x : Fault). results_after x (figures P n) R) (sym (tests_so ∙ not_faulty g k)))
