-- `count_figure_answer::measure::measured` meets its contract: n, then the number of cells, then
-- that of the results.
-- Assumes nothing.
use Prim.Native.Nat.{◌*◌, ◌≤◌}
use native.Mathlib.Omega.{arith}
use native.Mathlib.Nat.{mul-le-mul_right}
use mathlib.Core.Path.{◌≡◌, sym, ap, ap₂, ◌∙◌}
use Rattle.std.specs.Prelude.{Err}
use Rattle.word.specs.Ceilings.{FIGURES}
use Rattle.forms.specs.SchemeMemory.{scheme_in}
use Rattle.count_entry.specs.Frames.{FrameFits}
use Rattle.count_entry.proofs.FrameLaws.{blocks_small}
use Rattle.count_figures.specs.FigureSizeLaws.{count_most}
use Rattle.count_answer.proofs.MeasureLaws.{frame_fits}
use Rattle.count_figure_answer.specs.FigureCounting.{figure_need}
use Rattle.count_figure_answer.proofs.FigureCountLaws.{length_refused, table_refused, results_refused, figures_serve}
use Rattle.count_figure_answer.proofs.FigureMeasureLaws.{figure_need_lem}
use Rattle.count_figure_answer.proofs.measure.measured.Goals as goal
use Rattle.count_figure_answer.proofs.measure.measured.Goals.{After-layout_of-layout, After-need}

-- the layout fits, and the table needs what the scheme needs

fits : (c : After-layout_of-layout) → FrameFits c.layout_of-layout.result.frame
fits c =
    let m = c.layout_of-layout in
    frame_fits c.args.n c.args.scheme m.result.places m.ensures.placed m.result.frame m.ensures.framed c.requires.0

needed : (c : After-need) → c.figure_count-figures.result * c.need.result ≡ figure_need c.args.n (scheme_in c.args.scheme)
needed c =
    let m = c.layout_of-layout in
    ap₂ ◌*◌ c.figure_count-figures.ensures c.need.ensures ∙
    figure_need_lem c.args.n c.args.scheme m.result.places m.ensures.placed m.result.frame m.ensures.framed

pub returns-then-n-gt-REFINED : goal.returns-then-n-gt-REFINED
returns-then-n-gt-REFINED c =
    let a = c.args in
    ap Err c.at.ensures ∙ sym (length_refused (scheme_in a.scheme) a.n a.cells a.results (omega arith))

pub layout_of-layout-requires : goal.layout_of-layout-requires
layout_of-layout-requires c = (c.requires.0, omega arith, c.requires.1)

pub figure_count-figures-requires : goal.figure_count-figures-requires
figure_count-figures-requires c = omega arith

pub need-requires : goal.need-requires
need-requires c = fits (goal.at.need-requires c).After-layout_of-layout

pub overflow_mul-figures : goal.overflow_mul-figures
overflow_mul-figures c =
    let few : c.figure_count-figures.result ≤ FIGURES =
    omega (arith, c.figure_count-figures.ensures, count_most c.args.n (omega arith)) in
    omega (
      arith,
      mul-le-mul_right {m = c.figure_count-figures.result} {n = FIGURES} c.need.result few,
      c.need.ensures,
      blocks_small c.layout_of-layout.result.frame (fits (goal.at.overflow_mul-figures c).After-layout_of-layout),
    )

pub returns-then-cells-figures : goal.returns-then-cells-figures
returns-then-cells-figures c =
    let a = c.args in
    ap Err c.at-then-cells-figures.ensures ∙
    sym (table_refused (scheme_in a.scheme) a.n a.cells a.results (omega arith)
    (omega (arith, needed (goal.at.returns-then-cells-figures c).After-need)))

pub returns-then-results-figures : goal.returns-then-results-figures
returns-then-results-figures c =
    let a = c.args in
    ap Err c.at-then-results-figures.ensures ∙
    sym (results_refused (scheme_in a.scheme) a.n a.cells a.results (omega arith)
    (omega (arith, needed (goal.at.returns-then-results-figures c).After-need)) (omega (arith, c.figure_count-figures.ensures)))

pub returns : goal.returns
returns c =
    let a = c.args in (
      sym (figures_serve (scheme_in a.scheme) a.n a.cells a.results (omega arith)
          (omega (arith, needed (goal.at.returns c).After-need)) (omega (arith, c.figure_count-figures.ensures))),
      c.layout_of-layout.ensures,
    )
