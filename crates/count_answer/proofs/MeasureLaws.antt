-- A table that is measured: its layout, and what a count in it is given.
-- Assumes nothing.
use Prim.Native.Nat.{ℕ, ◌*◌, ◌≤◌}
use native.Mathlib.Omega.{arith}
use mathlib.Core.Path.{◌≡◌, sym, ap, ap₂, ◌∙◌, subst}
use mathlib.Core.List.{List}
use lib.ListN.{length}
use Rattle.word.specs.Ceilings.{LENGTH}
use Rattle.forms.specs.SchemeMemory.{patterns_in, scheme_in}
use Rattle.forms.specs.declared.memory.Patterns.{Patterns}
use Rattle.forms.specs.declared.memory.Scheme.{Scheme}
use Rattle.scheme.specs.Proper.{Proper}
use Rattle.verdict.specs.Truth.{WellFormed, AllTrue}
use Rattle.count_plan.specs.Layout.{width_of, rows_of, need_of}
use Rattle.count_plan.specs.LayoutLaws.{width_sum, rows_few}
use Rattle.count_plan.specs.Plan.{Places}
use Rattle.count_entry.specs.Frames.{frame_of, FrameFits}
use Rattle.count_entry.specs.declared.frame.Frame.{Frame}
use Rattle.count_answer.specs.Measuring.{LaidOut, TableGiven}
use Rattle.count_answer.specs.declared.measure.Measure.{Measure}

-- The layout of n

module _ (n : ℕ) (s : Scheme) (places : List ℕ) (p : Places n s places) (f : Frame)
    (is : f ≡ frame_of places n s.count (rows_of (scheme_in s))) where
  pub width_is : f.width ≡ width_of n s
  width_is = ap (λ (x : Frame). x.width) is ∙ p.at s.count (omega arith)

  pub rows_are : f.rows ≡ rows_of (scheme_in s)
  rows_are = ap (λ (x : Frame). x.rows) is

  pub frame_fits : Proper (scheme_in s) → FrameFits f
  frame_fits proper =
      record {
        some = omega (arith, rows_are);
        few = omega (arith, rows_are, rows_few s proper);
        near = omega (arith, ap (λ (x : Frame). x.width) is, p.near s.count);
      }

  pub frame_need : f.rows * f.width ≡ need_of n (scheme_in s)
  frame_need = ap₂ ◌*◌ rows_are (width_is ∙ width_sum n s) ∙ (omega arith)

-- A count in that layout

pub given_of : (patterns : Patterns) (s : Scheme) (n : ℕ) (m : Measure) (T : List ℕ) → LaidOut s n m →
    WellFormed (patterns_in patterns) (scheme_in s) → AllTrue (patterns_in patterns) (scheme_in s) → n ≤ LENGTH → need_of n
    (scheme_in s) ≤ length T →
    TableGiven patterns s m T
given_of patterns s n m T w formed truth small room =
    let last : n ≡ m.frame.last = sym (ap (λ (x : Frame). x.last) w.framed) in
    record {
      formed = formed;
      truth = truth;
      small = omega arith;
      placed = subst (λ k. Places k s m.places) last w.placed;
      framed = w.framed ∙ ap (λ k. frame_of m.places k s.count (rows_of (scheme_in s))) last;
      room = subst (λ k. need_of k (scheme_in s) ≤ length T) last room;
    }

pub last_is : (s : Scheme) (n : ℕ) (m : Measure) → LaidOut s n m → m.frame.last ≡ n
last_is s n m w = ap (λ (x : Frame). x.last) w.framed
