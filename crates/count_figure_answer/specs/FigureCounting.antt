-- What counting by inversions answers, and what it leaves in the table and in the results.
-- Definitions only.
use Rattle.std.specs.Prelude.{ℕ, ◌≤◌, ◌≡◌, true, List, [], ◌∷◌, ◌++◌, length, get_or, take, drop, ltb, Ok, Err}
use Rattle.word.specs.Ceilings.{REFINED}
use Rattle.word.specs.Word.{avoiders}
use Rattle.word.specs.Inversions.{pairs, inverted, figure_count, figures}
use Rattle.word.specs.Finding.{Finding, clean, fault, test, first_fault}
use Rattle.word.specs.Told.{Told, told_by}
use Rattle.word.specs.declared.refusal.Refusal.TheVariants.{Oversize, ShortTable, ShortPage}
use Rattle.cell.specs.Cell.{total}
use Rattle.forms.specs.SchemeList.{EntryList}
use Rattle.std.specs.declared.result.Result.{Result}
use Rattle.word.specs.declared.refusal.Refused.{Refused}
use Rattle.forms.specs.SchemeMemory.{Fault, fault_of}
use Rattle.verdict.specs.Verdict.{judge_tests, verdict_of, accepted}
use Rattle.verdict.specs.Value.{count_of}
use Rattle.count_plan.specs.Layout.{rows_of, need_with}
use Rattle.count_answer.specs.Counting.{table_after}

-- "Table need is that of order 4 times n(n − 1)/2 + 1" (02, order 5)
abbrev pub figure_need : ℕ → List EntryList → ℕ
figure_need n E = need_with (rows_of E) (figure_count n) n E

-- "For n up to 12"; "It refuses a results slice shorter than n(n − 1)/2 + 1 with 13, after 12" (02,
-- order 5)
abbrev pub figure_tests : List EntryList → ℕ → ℕ → ℕ → List Finding
figure_tests E n cells results =
    test Oversize (ltb REFINED n) ∷ test ShortTable (ltb cells (figure_need n E)) ∷ test ShortPage (ltb results (figure_count n)) ∷ []

-- the scheme is judged first, as by counting
abbrev pub inversion_tests : List (List ℕ) → List EntryList → ℕ → ℕ → ℕ → List Finding
inversion_tests P E n cells results = judge_tests P E ++ figure_tests E n cells results

-- the answer of counting by inversions: how many figures, or a refusal with its index
abbrev pub Figured : Type 0
Figured = Result ℕ Refused

abbrev pub figured_or : Fault → ℕ → Figured
figured_or (Ok u) n = Ok n
figured_or (Err e) n = Err e

-- the answer in the numbers of document 01
abbrev pub told_figured : Figured → Told
told_figured (Ok n) = told_by clean (n ∷ [])
told_figured (Err e) = told_by (fault e.refusal e.index) []

-- "fill a lent slice with the number of avoiders .., the rest of the slice untouched" (02, order
-- 5); "Lent memory keeps its content" (01)
abbrev pub results_after : Fault → List ℕ → List ℕ → List ℕ
results_after (Ok u) x r = x ++ drop (length x) r
results_after (Err e) x r = r

-- "Each figure equals that of direct listing, and they add up to the plain count" (02, order 5)
pub record Promised (P : List (List ℕ)) (E : List EntryList) (n : ℕ) (S : List ℕ) (r : Figured) : Type 0 where
  pub written : r ≡ Ok (figure_count n)
  pub each : (q : ℕ) → q ≤ pairs n → get_or S q 0 ≡ inverted (avoiders P n) q
  pub sum : total (take (figure_count n) S) ≡ length (avoiders P n)
  pub plain : total (take (figure_count n) S) ≡ count_of P E n

-- the answer r to the patterns P, the scheme E and the length n, with a table that holds T, and
-- then U, and results that hold R, and then S
pub record CountsByInversions (P : List (List ℕ)) (E : List EntryList) (n : ℕ) (T U R S : List ℕ) (r : Figured) : Type 0 where
  pub answer : r ≡ figured_or (fault_of (first_fault (inversion_tests P E n (length T) (length R)))) (figure_count n)
  -- the number and the value in the numbers of document 01
  pub numbers : told_figured r ≡ told_by (first_fault (inversion_tests P E n (length T) (length R))) (figure_count n ∷ [])
  pub table : U ≡ table_after (fault_of (first_fault (inversion_tests P E n (length T) (length R)))) (figure_need n E) T
  pub results : S ≡ results_after (fault_of (first_fault (inversion_tests P E n (length T) (length R)))) (figures P n) R
  -- for an accepted scheme, n up to 12 and slices that are long enough, whatever they held
  pub counts : accepted (verdict_of P E) ≡ true → n ≤ REFINED → figure_need n E ≤ length T → figure_count n ≤ length R →
      Promised P E n S r
