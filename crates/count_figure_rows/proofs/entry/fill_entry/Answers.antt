-- `count_figure_rows::entry::fill_entry` meets its contract.
-- Assumes nothing.
use native.Mathlib.Omega.{arith}
use Prim.Native.Nat.{◌+◌}
use mathlib.Core.Path.{sym, ap, ◌∙◌, subst}
use Rattle.cell.specs.Binomial.{binomial}
use Rattle.spacing.specs.Following.{first_vector}
use Rattle.count_step.specs.Step.{spacings_from, stored_at}
use Rattle.count_step.specs.Task.{TaskGaps}
use Rattle.count_entry.proofs.FrameLaws.{index_small, work_gaps, work_number, work_low, work_total}
use Rattle.count_figures.specs.Figures.{put_figures}
use Rattle.count_figures.specs.Steps.{FigureTaskFits, figure_step}
use Rattle.count_figures.specs.declared.children.FigureTask.{FigureTask}
use Rattle.count_figure_rows.specs.FigureWalkLaws.{figures_fit, entry_figured}
use Rattle.count_figure_rows.proofs.entry.fill_entry.Goals as goal

pub gaps_of-gaps-requires : goal.gaps_of-gaps-requires
gaps_of-gaps-requires c =
    let a = c.args in
    let q = c.requires.0 in
    (index_small a.sheet.now a.places.now a.f a.c q, q.framed.of.long)

pub figure_task-work-requires : goal.figure_task-work-requires
figure_task-work-requires c =
    let a = c.args in
    let q = c.requires.0 in
    let w = c.work_of-w in
    let g = c.gaps_of-gaps in
    let t = work_total a.sheet.now a.places.now a.f a.c q w.result w.ensures g.result.now g.ensures in
    (omega (arith, t, q.low, c.requires.1), c.requires.1)

pub fill_figures-requires : goal.fill_figures-requires
fill_figures-requires c =
    let a = c.args in
    let q = c.requires.0 in
    let w = c.work_of-w in
    let g = c.gaps_of-gaps in
    let is = c.figure_task-work.ensures in (
      subst (λ (t : FigureTask). FigureTaskFits t) (sym is) (figures_fit a.sheet.now a.places.now a.f a.c q c.requires.1
          w.result w.ensures g.result.now g.ensures),
      subst (λ (t : FigureTask). TaskGaps t.task g.result.now) (sym is)
          (work_gaps a.sheet.now a.places.now a.f a.c q w.result w.ensures g.result.now g.ensures),
      work_number a.sheet.now a.places.now a.f a.c q w.result w.ensures g.result.now g.ensures ∙
          ap (λ (t : FigureTask). binomial (t.task.length + t.task.total) t.task.length)
          (sym is),
      work_low a.sheet.now a.places.now a.f a.c q w.result w.ensures g.result.now g.ensures,
      c.requires.2,
    )

pub returns : goal.returns
returns c =
    let a = c.args in
    let w = c.work_of-w in
    let g = c.gaps_of-gaps in
    λ q.
    c.fill_figures.ensures ∙
    ap (λ (t : FigureTask). stored_at (put_figures t.numbers) (figure_step t g.result.now) w.result.at
    (spacings_from w.result.size (first_vector t.task.length t.task.total)) a.table.now)
    c.figure_task-work.ensures ∙
    entry_figured a.sheet.now a.places.now a.f a.c q c.requires.1 w.result w.ensures g.result.now g.ensures
    a.table.now
