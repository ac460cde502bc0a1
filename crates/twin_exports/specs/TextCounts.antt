-- What counting on two texts gives as one number. Definitions only.
use Rattle.std.specs.Prelude.{ℕ, ◌-◌, ◌≤◌, ◌≡◌, List, length}
use Rattle.word.specs.Ceilings.{LENGTH, PLAIN_LENGTH as PLAIN}
use Rattle.word.specs.Word.{avoiders}
use Rattle.word.specs.Finding.{Finding, first_fault}
use Rattle.forms.specs.SchemeList.{EntryList}
use Rattle.forms.specs.SchemeMemory.{Fault, patterns_in, scheme_in, fault_of, or_else}
use Rattle.notation.specs.Answers.{read_fault, read_list}
use Rattle.notation.specs.PatternAnswers.{PatternsRead, patterns_answer}
use Rattle.notation.specs.SchemeAnswers.{SchemeRead, scheme_answer}
use Rattle.count_plan.specs.Layout.{need_of}
use Rattle.verdict.specs.Value.{count_of}
use Rattle.judge_texts.specs.TextJudgement.{TextsTrue}
use Rattle.word.specs.Refusal.{number_of}
use Rattle.count_answer.specs.Counting.{Counted, count_tests, plain_tests, counted_or, table_after}
use Rattle.std.specs.Prelude.{Ok, Err}
use Rattle.std.specs.declared.result.Result.{Result}
use Rattle.word.specs.declared.refusal.Refused.{Refused}
use Rattle.forms.specs.declared.memory.Patterns.{Patterns}
use Rattle.forms.specs.declared.memory.Scheme.{Scheme}

-- 2 to the 64 less 1, the largest number of 64 bits
abbrev pub largest : ℕ
largest = 18446744073709551615

-- the count, or the largest number less the number of the refusal; no count is as large
abbrev pub code_of : Counted → ℕ
code_of (Ok v) = v
code_of (Err e) = largest - number_of e.refusal

-- both lists, or the refusal of the first that is refused
abbrev pub both_read : PatternsRead → SchemeRead → Result (Patterns × Scheme) Refused
both_read (Ok p) (Ok q) = Ok (p, q)
both_read (Ok p) (Err e) = Err e
both_read (Err e) q = Err e

-- what is found: by reading the set, by reading the scheme, and by the tests of the lists
abbrev pub found_in : List ℕ → List ℕ → (List (List ℕ) → List EntryList → List Finding) → Fault
found_in s t tests =
    or_else (or_else (read_fault (patterns_answer s)) (read_fault (scheme_answer t)))
    (fault_of (first_fault (tests (read_list patterns_in (patterns_answer s)) (read_list scheme_in (scheme_answer t)))))

abbrev pub count_in : List ℕ → List ℕ → ℕ → ℕ
count_in s t n = count_of (read_list patterns_in (patterns_answer s)) (read_list scheme_in (scheme_answer t)) n

-- the number r for the texts s and t, the length n and a table that holds `before`, and then
-- `after`
pub record CountsTexts (s t : List ℕ) (n : ℕ) (before after : List ℕ) (r : ℕ) : Type 0 where
  pub answer : r ≡ code_of (counted_or (found_in s t (λ P E. count_tests P E n (length before))) (count_in s t n))
  pub table : after ≡ table_after (found_in s t (λ P E. count_tests P E n (length before)))
      (need_of n (read_list scheme_in (scheme_answer t))) before
  -- "If accepted, then for every n from 0 to 20 and every table long enough, whatever it held, the
  -- count .. is exactly the number of permutations of 1 to n that contain none of the patterns".
  -- Texts are accepted exactly if TextsTrue holds of them (JudgesTextsWithoutPage.exactly).
  pub counts : (w : TextsTrue s t) → n ≤ LENGTH → need_of n w.scheme ≤ length before → r ≡ length (avoiders w.patterns n)

-- the same for the plain evaluation
pub record PlainTexts (s t : List ℕ) (n r : ℕ) : Type 0 where
  pub answer : r ≡ code_of (counted_or (found_in s t (λ P E. plain_tests P E n)) (count_in s t n))
  pub counts : (w : TextsTrue s t) → n ≤ PLAIN → r ≡ length (avoiders w.patterns n)
