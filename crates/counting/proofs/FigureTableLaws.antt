-- What counting by inversions in a measured table is given, and what it gives.
-- Assumes nothing.
use Prim.Native.Nat.{ℕ, ◌*◌, ◌≤◌}
use native.Mathlib.Omega.{arith}
use native.Mathlib.Nat.{mul-le-mul_right}
use mathlib.Core.Path.{◌≡◌, refl, ap, ap₂, ◌∙◌}
use mathlib.Core.List.{List, []}
use lib.ListN.{length}
use Rattle.word.specs.Ceilings.{FIGURES}
use Rattle.word.specs.Inversions.{figure_count, figures}
use Rattle.spacing.specs.Sizes.{FAR}
use Rattle.forms.specs.SchemeMemory.{patterns_in, scheme_in}
use Rattle.forms.specs.declared.memory.Patterns.{Patterns}
use Rattle.forms.specs.declared.memory.Scheme.{Scheme}
use Rattle.count_plan.specs.Layout.{width_of, rows_of, number_at}
use Rattle.count_plan.specs.SheetForm.{SheetTo}
use Rattle.count_plan.specs.SheetRows.{Names}
use Rattle.count_walk.specs.Cells.{cells_of}
use Rattle.count_entry.specs.Frames.{Framed}
use Rattle.count_entry.proofs.FrameLaws.{framed_fits, blocks_small}
use Rattle.count_rows.specs.Run.{cleared}
use Rattle.count_rows.specs.RunLaws.{walked_cleared}
use Rattle.count_figures.specs.Figures.{figures_makes, several, figures_walked}
use Rattle.count_figures.proofs.FigureContentLaws.{several_sound}
use Rattle.count_figures.specs.FigureSizeLaws.{count_most}
use Rattle.count_figure_rows.specs.FigureRows.{root_figures, RootRead}
use Rattle.count_figure_rows.specs.FigureRunLaws.{root_inside, root_figured}
use Rattle.count_answer.specs.declared.measure.Measure.{Measure}
use Rattle.count_figure_answer.specs.FigureCounting.{figure_need}
use Rattle.count_figure_answer.specs.FigureMeasuring.{FiguresGiven}
use Rattle.count_figure_answer.proofs.FigureMeasureLaws.{figure_need_lem}
use Rattle.counting.proofs.TableLaws.{framed_by}

module _ (patterns : Patterns) (s : Scheme) (m : Measure) (T R : List ℕ) (g : FiguresGiven patterns s m T R)
    (sheet : List ℕ) (t : SheetTo (patterns_in patterns) s s.count sheet) where
  abbrev pub framed : Framed sheet m.places m.frame
  framed = framed_by patterns s m sheet g.formed t (omega (arith, g.small)) g.placed g.framed

  pub need_is : figure_count m.frame.last * (m.frame.rows * m.frame.width) ≡ figure_need m.frame.last (scheme_in s)
  need_is = figure_need_lem m.frame.last s m.places g.placed m.frame g.framed

  -- the need is a number that fits
  pub need_small : figure_count m.frame.last * (m.frame.rows * m.frame.width) ≤ FIGURES * FAR
  need_small =
      omega (
        arith,
        mul-le-mul_right {m = figure_count m.frame.last} {n = FIGURES} (m.frame.rows * m.frame.width)
            (count_most m.frame.last g.small),
        blocks_small m.frame (framed_fits sheet m.places m.frame framed),
      )

  room : number_at (figure_count m.frame.last) (rows_of (scheme_in s) * width_of m.frame.last s) ≤ length T
  room =
      omega (
        arith,
        need_is,
        g.room,
        ap (λ n. figure_count m.frame.last * n) (ap₂ ◌*◌ framed.rows_are framed.width_is),
      )

  module _ (root : ℕ) (names : Names s [] root) (U : List ℕ) (same : length U ≡ length T) where
    pub root_read : RootRead m.places m.frame root U
    root_read =
        record {
          fits = framed_fits sheet m.places m.frame framed;
          small = g.small;
          inside = root_inside (patterns_in patterns) s g.formed g.truth m.frame.last (omega (arith, g.small)) T room sheet
              m.places
              m.frame framed refl refl root names;
          room = omega (arith, need_is, g.room, same);
        }

    module _ (filled : U ≡ figures_walked (patterns_in patterns) m.frame.last s (cells_of s m.frame.last) T) where
      pub figures_read : root_figures m.places m.frame root U ≡ figures (patterns_in patterns) m.frame.last
      figures_read =
          root_figured (patterns_in patterns) s g.formed g.truth m.frame.last (omega (arith, g.small)) T room sheet m.places
          m.frame framed refl refl root names U filled

      pub table_cleared : (n : ℕ) → n ≡ figure_count m.frame.last * (m.frame.rows * m.frame.width) →
          cleared n U ≡ cleared (figure_need m.frame.last (scheme_in s)) T
      table_cleared n e =
          ap (cleared n) filled ∙
          walked_cleared (several (figure_count m.frame.last)) (several_sound (figure_count m.frame.last))
          (figures_makes (patterns_in patterns)) (rows_of (scheme_in s)) m.frame.last s m.frame.last n T (omega arith) (omega arith)
          (e ∙ ap (λ k. figure_count m.frame.last * k) (ap₂ ◌*◌ framed.rows_are framed.width_is)) ∙
          ap (λ k. cleared k T) (e ∙ need_is)
