-- What a count in a measured table is given, and what it gives.
-- Assumes nothing.
use Prim.Native.Nat.{ℕ, suc, ◌*◌, ◌≤◌}
use native.Mathlib.Omega.{arith}
use mathlib.Core.Path.{◌≡◌, ap, ◌∙◌}
use mathlib.Core.List.{List, []}
use Rattle.word.specs.Ceilings.{LENGTH}
use Rattle.forms.specs.SchemeMemory.{patterns_in, scheme_in}
use Rattle.forms.specs.declared.memory.Patterns.{Patterns}
use Rattle.forms.specs.declared.memory.Scheme.{Scheme}
use Rattle.scheme.specs.ProperLaws.{proper}
use Rattle.verdict.specs.Truth.{WellFormed}
use Rattle.verdict.specs.Value.{count_of}
use Rattle.count_plan.specs.Layout.{rows_of, need_of}
use Rattle.count_plan.specs.Plan.{Places}
use Rattle.count_plan.specs.SheetForm.{SheetTo}
use Rattle.count_plan.specs.SheetRows.{Names}
use Rattle.count_plan.proofs.SheetRowLaws.{sheet_of}
use Rattle.count_rows.specs.Rows.{RootGiven}
use Rattle.count_rows.specs.Run.{root_value, ValuesTo, Counts}
use Rattle.count_rows.specs.RunLaws.{root_count, run_counts}
use Rattle.count_entry.specs.Frames.{frame_of, Framed}
use Rattle.count_entry.specs.declared.frame.Frame.{Frame}
use Rattle.count_answer.specs.Measuring.{TableGiven}
use Rattle.count_answer.specs.declared.measure.Measure.{Measure}
use Rattle.count_answer.proofs.MeasureLaws.{width_is, rows_are, frame_need}

-- the sheet of the scheme, in the layout that was measured
abbrev pub framed_by : (patterns : Patterns) (s : Scheme) (m : Measure) (sheet : List ℕ) →
    WellFormed (patterns_in patterns) (scheme_in s) → SheetTo (patterns_in patterns) s s.count sheet → m.frame.last ≤ LENGTH →
    Places m.frame.last s m.places →
    m.frame ≡ frame_of m.places m.frame.last s.count (rows_of (scheme_in s)) → Framed sheet m.places m.frame
framed_by patterns s m sheet formed t small placed is =
    record {
      of = sheet_of (patterns_in patterns) s sheet (proper (scheme_in s) formed.scheme) t;
      counted = ap (λ (x : Frame). x.entries) is;
      small = small;
      placed = placed;
      width_is = width_is m.frame.last s m.places placed m.frame is;
      rows_are = rows_are m.frame.last s m.places placed m.frame is;
    }

module _ (patterns : Patterns) (s : Scheme) (m : Measure) (T : List ℕ) (g : TableGiven patterns s m T)
    (sheet : List ℕ) (t : SheetTo (patterns_in patterns) s s.count sheet) (root : ℕ) (names : Names s [] root) where
  abbrev pub root_given : RootGiven sheet m.places m.frame root
  root_given = record {
    framed = framed_by patterns s m sheet g.formed t g.small g.placed g.framed;
    root_is = names;
  }

  pub room_is : m.frame.rows * m.frame.width ≡ need_of m.frame.last (scheme_in s)
  room_is = frame_need m.frame.last s m.places g.placed m.frame g.framed

  pub last_value : (x : ℕ) → x ≡ root_value (patterns_in patterns) m.frame.last s root T m.frame.last →
      x ≡ count_of (patterns_in patterns) (scheme_in s) m.frame.last
  last_value x e =
      e ∙ root_count (patterns_in patterns) s g.formed g.truth m.frame.last g.small T g.room root m.frame.last names
      (omega arith)

  pub all_values : (values : List ℕ) → ValuesTo (patterns_in patterns) m.frame.last s root T (suc m.frame.last) values →
      Counts (patterns_in patterns) (scheme_in s) m.frame.last values
  all_values values v =
      run_counts (patterns_in patterns) s g.formed g.truth m.frame.last g.small T g.room root values names v
