-- What the table program prints, as a function of its input. Definitions only.
use Rattle.std.specs.Prelude.{ℕ, suc, ◌+◌, ◌≤◌, ◌≡◌, List, [], map, length, take, Option, Some, None, Result, Ok, Err}
use Rattle.std.proofs.Math.Option.{Option as Maybe, none, some}
use Rattle.word.specs.Lists.{row}
use Rattle.word.specs.Word.{avoiders}
use Rattle.word.specs.Ceilings.{LENGTH, CELLS}
use Rattle.word.specs.Finding.{fault, first_fault}
use Rattle.word.specs.Told.{told_by}
use Rattle.word.specs.declared.refusal.Refusal.TheVariants.{Misspelt}
use Rattle.word.specs.declared.refusal.Refused.{Refused}
use Rattle.forms.specs.SchemeList.{EntryList}
use Rattle.forms.specs.SchemeMemory.{Fault, patterns_in, scheme_in, fault_of, told_or}
use Rattle.text_page.specs.Page.{Writes}
use Rattle.notation.specs.Answers.{read_list}
use Rattle.notation.specs.PatternAnswers.{PatternsRead, patterns_answer}
use Rattle.notation.specs.SchemeAnswers.{SchemeRead, scheme_answer}
use Rattle.judge_texts.specs.TextJudgement.{verdict_of_texts, TextsTrue}
use Rattle.verdict.specs.Truth.{WellFormed, AllTrue}
use Rattle.verdict.specs.Value.{count_of}
use Rattle.count_plan.specs.Layout.{need_of}
use Rattle.count_answer.specs.Counting.{table_tests, fault_in}
use Rattle.table_lines.specs.Lines.{Three, three_lines, number_in}
use Rattle.table_lines.specs.Kept.{Memory, kept_of, three_in, as_number}
use Rattle.table_text.specs.Printed.{PAGE, bfile_text, refusal_line}
use Rattle.table_print.specs.declared.printing.Table.{Table}

-- a text, or the line of a refusal in its place
abbrev pub printed_or : Fault → List ℕ → List ℕ
printed_or (Ok u) text = text
printed_or (Err e) text = refusal_line (told_or (Err e) [])

-- the b-file of the counts for 0 to n; n above 20 is 2, and a need of more cells than it holds 12
abbrev pub length_text : List (List ℕ) → List EntryList → ℕ → List ℕ
length_text P E n = printed_or (fault_of (first_fault (table_tests E n CELLS))) (bfile_text (map (count_of P E) (row 0 (suc n))))

-- the line of the refusal 1, misspelt, whose index is 0
abbrev pub misspelt_line : List ℕ
misspelt_line = refusal_line (told_by (fault Misspelt 0) [])

-- "largest N (one or two digits, no leading zero)" (01)
abbrev pub number_text : List (List ℕ) → List EntryList → Option ℕ → List ℕ
number_text P E None = misspelt_line
number_text P E (Some n) = length_text P E n

-- "then the lines are judged in order" (01): the set, the scheme, the number
abbrev pub lines_text : Three → List ℕ
lines_text t =
    printed_or (fault_in (verdict_of_texts t.set t.scheme))
    (number_text (read_list patterns_in (patterns_answer t.set)) (read_list scheme_in (scheme_answer t.scheme))
    (as_number (number_in t.last)))

-- "A missing line or a fourth is misspelt, tested before all else" (01)
abbrev pub table_text : Maybe Three → List ℕ
table_text none = misspelt_line
table_text (some t) = lines_text t

-- the b-file of the numbers of permutations of 1 to j that contain none of the patterns, for j
-- from 0 to n
abbrev pub avoiders_text : List (List ℕ) → ℕ → List ℕ
avoiders_text P n = bfile_text (map (λ j. length (avoiders P j)) (row 0 (suc n)))

-- what was read of accepted texts is well-formed, and its claims are true
pub record AcceptedLists (p : PatternsRead) (q : SchemeRead) : Type 0 where
  pub formed : WellFormed (read_list patterns_in p) (read_list scheme_in q)
  pub claims : AllTrue (read_list patterns_in p) (read_list scheme_in q)

-- what is printed of a table in memory, or of a refusal in its place
abbrev pub printed_table : Result Table Refused → List ℕ
printed_table (Ok t) = bfile_text (take (t.last + 1) t.counts)
printed_table (Err e) = printed_or (Err e) []

-- what is printed from the lines in memory on a page that held `before`, and then `after`: its
-- first r bytes
pub record Prints (memory : Memory) (before after : List ℕ) (r : ℕ) : Type 0 where
  pub text : Writes (table_text (three_in memory)) 0 before after r
  -- where they were kept of an input, this is the text for the lines of that input
  pub kept : (input : List ℕ) → memory ≡ kept_of input → Writes (table_text (three_lines input)) 0 before after r
  -- "If accepted, then .. the count .. is exactly the number of permutations of 1 to n that contain
  -- none of the patterns": so are the printed counts. Texts are accepted exactly if TextsTrue holds
  -- of them (JudgesTextsWithoutPage.exactly).
  pub counts : (t : Three) → three_in memory ≡ some t → (w : TextsTrue t.set t.scheme) (n : ℕ) →
      number_in t.last ≡ some n → n ≤ LENGTH →
      need_of n w.scheme ≤ CELLS → Writes (avoiders_text w.patterns n) 0 before after r
  -- a page of 512 bytes is always enough
  pub fits : r ≤ PAGE
