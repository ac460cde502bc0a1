-- Laws of counting by inversions on texts: a fault of reading refuses, and else the lists decide.
use Rattle.std.specs.Prelude.{ℕ, ◌≤◌, ◌≡◌, true, false, List, length}
use Rattle.std.proofs.Common.{sym, ap, ◌∙◌}
use Rattle.word.specs.Ceilings.{REFINED}
use Rattle.word.specs.Word.{avoiders}
use Rattle.word.specs.Inversions.{inverted, figure_count, figures}
use Rattle.word.specs.ListLaws.{true_not_false}
use Rattle.forms.specs.SchemeMemory.{Fault, patterns_in, scheme_in, or_else, faulty}
use Rattle.notation.specs.Answers.{read_fault, read_list}
use Rattle.notation.specs.PatternAnswers.{PatternsRead, patterns_answer, ReadsPatterns}
use Rattle.notation.specs.SchemeAnswers.{SchemeRead, scheme_answer, ReadsScheme}
use Rattle.judge_texts.specs.TextJudgement.{TextsTrue}
use Rattle.judge_texts.specs.TextVerdictLaws.{set_list, scheme_list}
use Rattle.count_answer.specs.Counting.{table_after}
use Rattle.count_figure_answer.specs.FigureCounting.{Figured, figure_need, figured_or, results_after, CountsByInversions}
use Rattle.count_figure_answer.proofs.FigureCountLaws.{refused_figures, refused_results}
use Rattle.twin_exports.specs.TextCountLaws.{none_found, lists_accepted, first_found, kept_so, then_found}
use Rattle.twin_exports.specs.TextCounts.{code_of}
use Rattle.twin_exports.specs.FigureTexts.{FiguresOfTexts}

-- What was read from the texts s and t.
module _ (s t : List ℕ) (p : PatternsRead) (reads : (p ≡ patterns_answer s) × ReadsPatterns s p) (q : SchemeRead)
    (reads_scheme : (q ≡ scheme_answer t) × ReadsScheme t q) (f : Fault) (found : f ≡ or_else (read_fault p) (read_fault q))
    (n : ℕ) (T R : List ℕ) (d : Figured) (r : ℕ) (k : r ≡ code_of d) where
  -- a fault of reading
  pub figures_refused : faulty f ≡ true → d ≡ figured_or f 0 → FiguresOfTexts s t n T T R R r
  figures_refused h e =
      record {
        answer = k ∙ ap code_of (e ∙ refused_figures f 0 (figure_count n) h ∙ ap (λ (x : Fault). figured_or x (figure_count n))
            (sym (first_found s t p reads q reads_scheme f found h _)));
        table = kept_so s t p reads q reads_scheme f found h _ (figure_need n (read_list scheme_in (scheme_answer t))) T;
        results = refused_results f (figures (read_list patterns_in (patterns_answer s)) n) R h ∙
            ap (λ (x : Fault). results_after x (figures (read_list patterns_in (patterns_answer s)) n) R)
            (sym (first_found s t p reads q reads_scheme f found h _));
        counts = λ w a b c. absurd (true_not_false (sym h ∙ none_found s t p reads q reads_scheme f found w));
      }

  -- where reading finds nothing, the lists decide
  pub figures_done : faulty f ≡ false → (U S : List ℕ) →
      CountsByInversions (read_list patterns_in p) (read_list scheme_in q) n T U R S d → FiguresOfTexts s t n T U R S r
  figures_done h U S c =
      record {
        answer = k ∙ ap code_of (moved.answer ∙ ap (λ (x : Fault). figured_or x (figure_count n))
            (then_found s t p reads q reads_scheme f found h _));
        table = moved.table ∙ ap (λ (x : Fault). table_after x (figure_need n (read_list scheme_in (scheme_answer t))) T)
            (then_found s t p reads q reads_scheme f found h _);
        results = moved.results ∙ ap (λ (x : Fault). results_after x (figures (read_list patterns_in (patterns_answer s)) n) R)
            (then_found s t p reads q reads_scheme f found h _);
        counts = λ (w : TextsTrue s t) (a : n ≤ REFINED) (b : figure_need n w.scheme ≤ length T) (e : figure_count n ≤ length R).
            let so = c.counts (lists_accepted s t p reads q reads_scheme f found w) a (rw (scheme_list s t w q reads_scheme.1) b) e in (
              k ∙ ap code_of so.written,
              λ i l. so.each i l ∙ ap (λ (P : List (List ℕ)). inverted (avoiders P n) i) (set_list s t w p reads.1),
            );
      }
    where
      moved : CountsByInversions (read_list patterns_in (patterns_answer s)) (read_list scheme_in (scheme_answer t)) n T U R S d
      moved = rw (← reads.0, ← reads_scheme.0) c
