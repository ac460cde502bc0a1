-- A table that is measured for counting by inversions.
-- Assumes nothing.
use Prim.Native.Nat.{ℕ, ◌*◌, ◌≤◌}
use native.Mathlib.Omega.{arith}
use mathlib.Core.Path.{◌≡◌, sym, ap, ◌∙◌, subst}
use mathlib.Core.List.{List}
use lib.ListN.{length}
use Rattle.word.specs.Ceilings.{REFINED}
use Rattle.word.specs.Inversions.{figure_count}
use Rattle.forms.specs.SchemeMemory.{patterns_in, scheme_in}
use Rattle.forms.specs.declared.memory.Patterns.{Patterns}
use Rattle.forms.specs.declared.memory.Scheme.{Scheme}
use Rattle.verdict.specs.Truth.{WellFormed, AllTrue}
use Rattle.count_plan.specs.Layout.{rows_of}
use Rattle.count_plan.specs.Plan.{Places}
use Rattle.count_entry.specs.Frames.{frame_of}
use Rattle.count_entry.specs.declared.frame.Frame.{Frame}
use Rattle.count_answer.proofs.MeasureLaws.{frame_need}
use Rattle.count_answer.specs.declared.measure.Measure.{Measure}
use Rattle.count_figure_answer.specs.FigureCounting.{figure_need}
use Rattle.count_answer.specs.Measuring.{LaidOut}
use Rattle.count_figure_answer.specs.FigureMeasuring.{FiguresGiven}

-- the need, by the layout of n
pub figure_need_lem : (n : ℕ) (s : Scheme) (places : List ℕ) → Places n s places → (f : Frame) →
    f ≡ frame_of places n s.count (rows_of (scheme_in s)) → figure_count n * (f.rows * f.width) ≡ figure_need n (scheme_in s)
figure_need_lem n s places p f is = ap (λ m. figure_count n * m) (frame_need n s places p f is ∙ omega arith)

pub given_of : (patterns : Patterns) (s : Scheme) (n : ℕ) (m : Measure) (T R : List ℕ) → LaidOut s n m →
    WellFormed (patterns_in patterns) (scheme_in s) → AllTrue (patterns_in patterns) (scheme_in s) →
    n ≤ REFINED → figure_need n (scheme_in s) ≤ length T → figure_count n ≤ length R → FiguresGiven patterns s m T R
given_of patterns s n m T R w formed truth small room space =
    let last : n ≡ m.frame.last = sym (ap (λ (x : Frame). x.last) w.framed) in
    record {
      formed = formed;
      truth = truth;
      small = omega arith;
      placed = subst (λ k. Places k s m.places) last w.placed;
      framed = w.framed ∙ ap (λ k. frame_of m.places k s.count (rows_of (scheme_in s))) last;
      room = subst (λ k. figure_need k (scheme_in s) ≤ length T) last room;
      space = subst (λ k. figure_count k ≤ length R) last space;
    }
