-- What is worked out of n, of the table and of the results, and what counting by inversions in that
-- table is given. Definitions only.
use Rattle.std.specs.Prelude.{ℕ, ◌≤◌, ◌≡◌, List, length, Ok, Err}
use Rattle.word.specs.Ceilings.{REFINED}
use Rattle.word.specs.Finding.{first_fault}
use Rattle.word.specs.Inversions.{figure_count}
use Rattle.forms.specs.SchemeMemory.{patterns_in, scheme_in, fault_of}
use Rattle.forms.specs.declared.memory.Patterns.{Patterns}
use Rattle.forms.specs.declared.memory.Scheme.{Scheme}
use Rattle.verdict.specs.Truth.{WellFormed, AllTrue}
use Rattle.count_plan.specs.Layout.{rows_of}
use Rattle.count_plan.specs.Plan.{Places}
use Rattle.count_entry.specs.Frames.{frame_of}
use Rattle.count_answer.specs.Measuring.{LaidOut}
use Rattle.count_answer.specs.declared.measure.Measure.{Measure}
use Rattle.std.specs.declared.result.Result.{Result}
use Rattle.word.specs.declared.refusal.Refused.{Refused}
use Rattle.count_figure_answer.specs.FigureCounting.{figure_need, figure_tests}

-- the refusal is what the tests of n, of the table and of the results find; where they find none,
-- the places and the layout are those of n
abbrev pub FiguresMeasured : Scheme → ℕ → ℕ → ℕ → Result Measure Refused → Type 0
FiguresMeasured s n cells results (Ok m) =
    (Ok tt ≡ fault_of (first_fault (figure_tests (scheme_in s) n cells results))) × LaidOut s n m
FiguresMeasured s n cells results (Err e) = Err e ≡ fault_of (first_fault (figure_tests (scheme_in s) n cells results))

-- an accepted scheme, a table of this layout that is long enough, and results that are
pub record FiguresGiven (patterns : Patterns) (s : Scheme) (m : Measure) (T R : List ℕ) : Type 0 where
  pub formed : WellFormed (patterns_in patterns) (scheme_in s)
  pub truth : AllTrue (patterns_in patterns) (scheme_in s)
  pub small : m.frame.last ≤ REFINED
  pub placed : Places m.frame.last s m.places
  pub framed : m.frame ≡ frame_of m.places m.frame.last s.count (rows_of (scheme_in s))
  pub room : figure_need m.frame.last (scheme_in s) ≤ length T
  pub space : figure_count m.frame.last ≤ length R
