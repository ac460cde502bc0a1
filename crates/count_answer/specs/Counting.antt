-- What counting answers, and what it leaves in the table. Definitions only.
use Rattle.std.specs.Prelude.{ℕ, ◌≤◌, ◌≡◌, true, List, [], ◌∷◌, ◌++◌, length, drop, replicate, ltb, Ok, Err}
use Rattle.word.specs.Ceilings.{LENGTH, PLAIN_LENGTH as PLAIN}
use Rattle.word.specs.Word.{avoiders}
use Rattle.word.specs.Finding.{Finding, clean, fault, test, first_fault}
use Rattle.word.specs.Told.{Told, told_by}
use Rattle.word.specs.declared.refusal.Refusal.TheVariants.{Oversize, ShortTable}
use Rattle.forms.specs.SchemeList.{EntryList}
use Rattle.std.specs.declared.result.Result.{Result}
use Rattle.word.specs.declared.refusal.Refused.{Refused}
use Rattle.forms.specs.SchemeMemory.{Fault, fault_of}
use Rattle.verdict.specs.Verdict.{Verdict, judge_tests, verdict_of, accepted}
use Rattle.count_plan.specs.Layout.{need_of}
use Rattle.verdict.specs.Value.{count_of}

-- "the scheme before n, n before table" (01); a count is for n up to LENGTH, and a table is short
-- with fewer cells than needed
abbrev pub table_tests : List EntryList → ℕ → ℕ → List Finding
table_tests E n cells = test Oversize (ltb LENGTH n) ∷ test ShortTable (ltb cells (need_of n E)) ∷ []

-- "judging and counting test all up to 11" (01)
abbrev pub count_tests : List (List ℕ) → List EntryList → ℕ → ℕ → List Finding
count_tests P E n cells = judge_tests P E ++ table_tests E n cells

-- "a plain evaluation for n up to 9 (above it 2), without a table" (01)
abbrev pub length_tests : ℕ → List Finding
length_tests n = test Oversize (ltb PLAIN n) ∷ []

abbrev pub plain_tests : List (List ℕ) → List EntryList → ℕ → List Finding
plain_tests P E n = judge_tests P E ++ length_tests n

-- the fault that a verdict found
abbrev pub fault_in : Verdict → Fault
fault_in (Ok n) = Ok tt
fault_in (Err e) = Err e

-- the answer of counting: the count, or a refusal with its index
abbrev pub Counted : Type 0
Counted = Result ℕ Refused

abbrev pub counted_or : Fault → ℕ → Counted
counted_or (Ok u) v = Ok v
counted_or (Err e) v = Err e

-- the answer in the numbers of document 01
abbrev pub told_counted : Counted → Told
told_counted (Ok v) = told_by clean (v ∷ [])
told_counted (Err e) = told_by (fault e.refusal e.index) []

-- "uses that many cells from the front .. After a count those cells hold 0, the rest being
-- untouched"; "Lent memory keeps its content" (01)
abbrev pub table_after : Fault → ℕ → List ℕ → List ℕ
table_after (Ok u) need t = replicate need 0 ++ drop need t
table_after (Err e) need t = t

-- the answer r to the patterns P, the scheme E, the length n and a table that holds `before`, and
-- then `after`
pub record Counts (P : List (List ℕ)) (E : List EntryList) (n : ℕ) (before after : List ℕ) (r : Counted) : Type 0 where
  pub answer : r ≡ counted_or (fault_of (first_fault (count_tests P E n (length before)))) (count_of P E n)
  -- the number and the value of document 01
  pub numbers : told_counted r ≡ told_by (first_fault (count_tests P E n (length before))) (count_of P E n ∷ [])
  pub table : after ≡ table_after (fault_of (first_fault (count_tests P E n (length before)))) (need_of n E) before
  -- "If accepted, then for every n from 0 to 20 and every table long enough, whatever it held, the
  -- count .. is exactly the number of permutations of 1 to n that contain none of the patterns"
  pub counts : accepted (verdict_of P E) ≡ true → n ≤ LENGTH → need_of n E ≤ length before → r ≡ Ok (length (avoiders P n))

-- the answer of the plain evaluation
pub record PlainCounts (P : List (List ℕ)) (E : List EntryList) (n : ℕ) (r : Counted) : Type 0 where
  pub answer : r ≡ counted_or (fault_of (first_fault (plain_tests P E n))) (count_of P E n)
  pub numbers : told_counted r ≡ told_by (first_fault (plain_tests P E n)) (count_of P E n ∷ [])
  pub counts : accepted (verdict_of P E) ≡ true → n ≤ PLAIN → r ≡ Ok (length (avoiders P n))
