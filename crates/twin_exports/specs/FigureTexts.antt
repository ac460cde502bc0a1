-- What counting by inversions on two texts gives as one number, and leaves. Definitions only.
use Rattle.std.specs.Prelude.{ℕ, ◌≤◌, ◌≡◌, List, length, get_or}
use Rattle.word.specs.Ceilings.{REFINED}
use Rattle.word.specs.Word.{avoiders}
use Rattle.word.specs.Inversions.{pairs, inverted, figure_count, figures}
use Rattle.forms.specs.SchemeMemory.{Fault, patterns_in, scheme_in}
use Rattle.notation.specs.Answers.{read_list}
use Rattle.notation.specs.PatternAnswers.{patterns_answer}
use Rattle.notation.specs.SchemeAnswers.{scheme_answer}
use Rattle.judge_texts.specs.TextJudgement.{TextsTrue}
use Rattle.count_answer.specs.Counting.{table_after}
use Rattle.count_figure_answer.specs.FigureCounting.{figure_need, inversion_tests, figured_or, results_after}
use Rattle.twin_exports.specs.TextCounts.{code_of, found_in}

-- what is found, with a table of this many cells and so many results
abbrev pub figures_found : List ℕ → List ℕ → ℕ → ℕ → ℕ → Fault
figures_found s t n cells results = found_in s t (λ P E. inversion_tests P E n cells results)

-- the number r for the texts s and t and the length n, with a table that holds T, and then U, and
-- results that hold R, and then S
pub record FiguresOfTexts (s t : List ℕ) (n : ℕ) (T U R S : List ℕ) (r : ℕ) : Type 0 where
  pub answer : r ≡ code_of (figured_or (figures_found s t n (length T) (length R)) (figure_count n))
  pub table : U ≡ table_after (figures_found s t n (length T) (length R)) (figure_need n (read_list scheme_in (scheme_answer t))) T
  pub results : S ≡ results_after (figures_found s t n (length T) (length R)) (figures (read_list patterns_in (patterns_answer s)) n) R
  -- "Each figure equals that of direct listing" (02, order 5), for accepted texts
  pub counts : (w : TextsTrue s t) → n ≤ REFINED → figure_need n w.scheme ≤ length T → figure_count n ≤ length R →
      (r ≡ figure_count n) × ((q : ℕ) → q ≤ pairs n → get_or S q 0 ≡ inverted (avoiders w.patterns n) q)
