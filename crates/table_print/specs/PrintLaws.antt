-- Laws of what the table program prints: the kept part of a line decides, and the printed counts
-- are the numbers of avoiders.
use Rattle.std.specs.Prelude.{ℕ, suc, ◌+◌, ◌≤◌, ◌≡◌, refl, Bool, true, false, cond, length, get_or, take, Option, Ok, Err}
use Rattle.std.proofs.Common.{add-one, arith, sym, ap, ap₂, ◌∙◌}
use mathlib.Core.List.{List, [], map, Memᴰ}
use Rattle.std.proofs.Math.Option.{Option as Maybe, none, some}
use Rattle.word.specs.Lists.{row}
use Rattle.word.specs.Word.{avoiders}
use Rattle.word.specs.ListLaws.{true_not_false, map_same, row_out}
use Rattle.word.specs.Ceilings.{LENGTH, PATTERN_TEXT, SCHEME_TEXT, CELLS}
use Rattle.word.specs.Finding.{first_fault}
use Rattle.forms.specs.SchemeList.{EntryList}
use Rattle.forms.specs.SchemeMemory.{Fault, patterns_in, scheme_in, fault_of, or_else, faulty}
use Rattle.forms.specs.declared.memory.Patterns.{Patterns}
use Rattle.forms.specs.declared.memory.Scheme.{Scheme}
use Rattle.text_grammar.specs.Grammar.{read_patterns, read_entries}
use Rattle.text_page.specs.Page.{Writes}
use Rattle.text_page.specs.PageLaws.{writes_as}
use Rattle.notation.specs.Answers.{read_list}
use Rattle.notation.specs.PatternAnswers.{PatternsRead, refused_patterns, tested_patterns, patterns_answer, ReadsPatterns}
use Rattle.notation.specs.SchemeAnswers.{SchemeRead, refused_scheme, tested_scheme, scheme_answer, ReadsScheme}
use Rattle.notation.proofs.AnswerLaws.{answer_cut}
use Rattle.notation.proofs.PatternAnswerLaws as pattern-answers
use Rattle.notation.proofs.SchemeAnswerLaws as scheme-answers
use Rattle.verdict.specs.Verdict.{Verdict, claim_tests, compared_cells, answered}
use Rattle.verdict.specs.VerdictLaws.{claims_clean}
use Rattle.verdict.specs.Value.{count_of}
use Rattle.verdict.specs.ValueLaws.{count_avoiders}
use Rattle.count_plan.specs.Layout.{need_of}
use Rattle.count_rows.specs.Run.{Counts}
use Rattle.forms.specs.MemoryLaws.{take_row}
use Rattle.judge_texts.specs.TextJudgement.{verdict_read, verdict_of_texts, TextsTrue, JudgesAndReads}
use Rattle.judge_texts.specs.TextVerdictLaws.{set_clean, set_list, scheme_clean, scheme_list}
use Rattle.judge_texts.specs.declared.TextsJudged.{TextsJudged}
use Rattle.count_answer.specs.Counting.{fault_in}
use Rattle.count_answer.proofs.CountLaws.{clean_accepts, table_serves, table_good}
use Rattle.counting.specs.AllCounts.{AllCounted}
use Rattle.table_lines.specs.Lines.{Three, three_lines, number_in}
use Rattle.table_lines.specs.Kept.{set_room, scheme_room, last_room, Memory, kept_of, is_complete, held_lines, three_in, as_number}
use Rattle.table_lines.specs.LastNumberLaws.{number_front}
use Rattle.table_lines.specs.CallerLaws.{fronts, fronts_if, kept_three}
use Rattle.table_text.specs.Printed.{PAGE, bfile_text}
use Rattle.table_print.specs.TableText.{printed_or, length_text, misspelt_line, number_text, lines_text}
use Rattle.table_print.specs.TableText.{table_text, avoiders_text, Prints, AcceptedLists}

-- the first bytes of a text are enough
pub patterns_cut : (s : List ℕ) → patterns_answer (take set_room s) ≡ patterns_answer s
patterns_cut s = answer_cut refused_patterns tested_patterns PATTERN_TEXT read_patterns s

pub scheme_cut : (s : List ℕ) → scheme_answer (take scheme_room s) ≡ scheme_answer s
scheme_cut s = answer_cut refused_scheme tested_scheme SCHEME_TEXT read_entries s

-- the text by what was read of the set and of the scheme, and the number
abbrev read_text : PatternsRead → SchemeRead → Option ℕ → List ℕ
read_text p q n = printed_or (fault_in (verdict_read p q)) (number_text (read_list patterns_in p) (read_list scheme_in q) n)

-- so the first bytes of the three lines are enough
pub fronts_text : (t : Three) → lines_text (fronts t) ≡ lines_text t
fronts_text t =
    ap₂ (λ (p : PatternsRead) (q : SchemeRead). read_text p q (as_number (number_in (take last_room t.last))))
    (patterns_cut t.set) (scheme_cut t.scheme) ∙
    ap (λ (n : Maybe ℕ). read_text (patterns_answer t.set) (scheme_answer t.scheme) (as_number n)) (number_front t.last)

fronts_table : (o : Maybe Three) → table_text (fronts_if o) ≡ table_text o
fronts_table none = refl
fronts_table (some t) = fronts_text t

-- what was kept of an input decides as the input does
pub kept_text : (input : List ℕ) → table_text (three_in (kept_of input)) ≡ table_text (three_lines input)
kept_text input = ap table_text (kept_three input) ∙ fronts_table (three_lines input)

-- the counts in memory are those that are printed
pub counts_taken : (P : List (List ℕ)) (E : List EntryList) (n : ℕ) (counts : List ℕ) → n ≤ LENGTH → Counts P E n counts →
    take (n + 1) counts ≡ map (count_of P E) (row 0 (suc n))
counts_taken P E n counts h c =
    ap (λ m. take m counts) (add-one n) ∙ take_row counts 0 (suc n) (omega (arith, c.size)) ∙
    map_same (λ i. get_or counts i 0) (count_of P E) (row 0 (suc n))
    (λ (i : ℕ) (m : Memᴰ i (row 0 (suc n))). c.upto i (omega (arith, row_out 0 (suc n) m)))

-- the text of all counts
pub counted_text : (P : List (List ℕ)) (E : List EntryList) (n : ℕ) (counts : List ℕ) → AllCounted P E n CELLS (Ok counts) →
    bfile_text (take (n + 1) counts) ≡ length_text P E n
counted_text P E n counts (found, c) =
    ap bfile_text (counts_taken P E n counts (table_good E n CELLS (sym found)).0 c) ∙
    ap (λ (f : Fault). printed_or f (bfile_text (map (count_of P E) (row 0 (suc n))))) found

-- the lists of an accepted verdict
pub accepted_lists : (s t : List ℕ) (j : TextsJudged) → JudgesAndReads s t j → (f : Fault) → f ≡
    fault_in j.verdict → f ≡ Ok tt → AcceptedLists j.patterns j.scheme
accepted_lists s t j judges f is found =
    let a = clean_accepts j.verdict (sym is ∙ found) in
    record { formed = judges.formed a; claims = judges.claims a }

-- Where the two texts of three lines are accepted, the text is that of the numbers of avoiders.
module _ (t : Three) (w : TextsTrue t.set t.scheme) where
  abbrev p : PatternsRead
  p = patterns_answer t.set

  abbrev q : SchemeRead
  q = scheme_answer t.scheme

  reads : ReadsPatterns t.set p
  reads = (pattern-answers.answered t.set p refl).1

  reads_scheme : ReadsScheme t.scheme q
  reads_scheme = (scheme-answers.answered t.scheme q refl).1

  claims_so : fault_of (first_fault (claim_tests (read_list patterns_in p) (read_list scheme_in q))) ≡ Ok tt
  claims_so = ap₂ (λ (P : List (List ℕ)) (E : List EntryList). fault_of (first_fault (claim_tests P E)))
      (set_list t.set t.scheme w p reads) (scheme_list t.set t.scheme w q reads_scheme) ∙
      ap fault_of (claims_clean w.patterns w.scheme w.formed.patterns w.formed.scheme w.claims)

  accepted_so : fault_in (verdict_of_texts t.set t.scheme) ≡ Ok tt
  accepted_so =
      ap₂ (λ (x y : Fault). fault_in
      (answered (or_else x
      (or_else y (fault_of (first_fault (claim_tests (read_list patterns_in p) (read_list scheme_in q))))))
      (compared_cells (read_list patterns_in p) (read_list scheme_in q))))
      (set_clean t.set t.scheme w p reads) (scheme_clean t.set t.scheme w q reads_scheme) ∙
      ap (λ (x : Fault). fault_in (answered x (compared_cells (read_list patterns_in p) (read_list scheme_in q)))) claims_so

  -- the counts of 01 are the numbers of avoiders
  counts_so : (n : ℕ) → map (count_of w.patterns w.scheme) (row 0 (suc n)) ≡
      map (λ j. length (avoiders w.patterns j)) (row 0 (suc n))
  counts_so n =
      map_same (count_of w.patterns w.scheme) (λ j. length (avoiders w.patterns j)) (row 0 (suc n))
      (λ (j : ℕ) (m : Memᴰ j (row 0 (suc n))). count_avoiders w.patterns w.scheme w.formed w.claims j)

  pub counts_text : (n : ℕ) → number_in t.last ≡ some n → n ≤ LENGTH → need_of n w.scheme ≤ CELLS →
      lines_text t ≡ avoiders_text w.patterns n
  counts_text n e h k =
      ap₂ (λ (f : Fault) (o : Maybe ℕ). printed_or f (number_text (read_list patterns_in p) (read_list scheme_in q)
      (as_number o))) accepted_so e ∙
      ap₂ (λ (P : List (List ℕ)) (E : List EntryList). length_text P E n) (set_list t.set t.scheme w p reads)
      (scheme_list t.set t.scheme w q reads_scheme) ∙
      ap (λ (f : Fault). printed_or f (bfile_text (map (count_of w.patterns w.scheme) (row 0 (suc n)))))
      (table_serves w.scheme n CELLS h k) ∙
      ap bfile_text (counts_so n)

-- what is written for the lines in memory keeps the promise
pub prints : (memory : Memory) (before after : List ℕ) (r : ℕ) →
    Writes (table_text (three_in memory)) 0 before after r → r ≤ PAGE → Prints memory before after r
prints memory before after r w few =
    record {
      text = w;
      kept = λ input k. writes_as w (ap (λ (m : Memory). table_text (three_in m)) k ∙ kept_text input);
      counts = λ t e v n d h m. writes_as w (ap table_text e ∙ counts_text t v n d h m);
      fits = few;
    }

-- the line of a refusal asks for no text
pub only_line : (g : Fault) (text : List ℕ) → faulty g ≡ true → printed_or g [] ≡ printed_or g text
only_line (Ok u) text h = absurd (true_not_false (sym h))
only_line (Err e) text h = refl

-- The text for the lines in memory, as the code comes to it.
module _ (k : Memory) where
  pub missing_text : is_complete k.lines ≡ false → misspelt_line ≡ table_text (three_in k)
  missing_text e = sym (ap (λ (b : Bool). table_text (cond b (some (held_lines k)) none)) e)

  abbrev given : List ℕ
  given = number_text (read_list patterns_in (patterns_answer (held_lines k).set))
      (read_list scheme_in (scheme_answer (held_lines k).scheme)) (as_number (number_in (held_lines k).last))

  there_text : is_complete k.lines ≡ true → table_text (three_in k) ≡ lines_text (held_lines k)
  there_text e = ap (λ (b : Bool). table_text (cond b (some (held_lines k)) none)) e

  module _ (there : is_complete k.lines ≡ true) (j : TextsJudged)
      (judges : JudgesAndReads (held_lines k).set (held_lines k).scheme j) (f : Fault)
      (is : f ≡ fault_in j.verdict) where
    fault_so : f ≡ fault_in (verdict_of_texts (held_lines k).set (held_lines k).scheme)
    fault_so = is ∙ ap fault_in judges.judges.verdict

    pub refused_text : faulty f ≡ true → printed_or f [] ≡ table_text (three_in k)
    refused_text h = only_line f given h ∙ ap (λ (x : Fault). printed_or x given) fault_so ∙ sym (there_text there)

    -- accepted lines: the number decides
    pub accepted_text : f ≡ Ok tt → (m : Option ℕ) → m ≡ as_number (number_in (held_lines k).last) →
        number_text (read_list patterns_in j.patterns) (read_list scheme_in j.scheme) m ≡ table_text (three_in k)
    accepted_text found m number =
        ap (number_text (read_list patterns_in j.patterns) (read_list scheme_in j.scheme)) number ∙
        ap₂ (λ (x : PatternsRead) (y : SchemeRead). number_text (read_list patterns_in x) (read_list scheme_in y)
        (as_number (number_in (held_lines k).last))) judges.patterns judges.scheme ∙
        ap (λ (x : Fault). printed_or x given) (sym found ∙ fault_so) ∙ sym (there_text there)

  -- what was read of accepted lines: the number decides
  pub read_accepted : is_complete k.lines ≡ true → (j : TextsJudged) → JudgesAndReads (held_lines k).set (held_lines k).scheme j →
      (n : ℕ) → j.verdict ≡ Ok n → (P : Patterns) → j.patterns ≡ Ok P → (E : Scheme) → j.scheme ≡ Ok E →
      (m : Option ℕ) → m ≡ as_number (number_in (held_lines k).last) →
      number_text (patterns_in P) (scheme_in E) m ≡ table_text (three_in k)
  read_accepted there j judges n accepted P set E entries m number =
      ap (number_text (patterns_in P) (scheme_in E)) number ∙
      ap₂ (λ (x : PatternsRead) (y : SchemeRead). number_text (read_list patterns_in x) (read_list scheme_in y)
      (as_number (number_in (held_lines k).last))) (sym set ∙ judges.patterns) (sym entries ∙ judges.scheme) ∙
      ap (λ (v : Verdict). printed_or (fault_in v) given) (sym accepted ∙ judges.judges.verdict) ∙ sym (there_text there)
