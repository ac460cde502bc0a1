-- The invariant of the loop of `count_figures::filling::fill_figures`.
use mathlib.Core.Path.{◌≡◌}
use lib.ListN.{length}
use Rattle.word.specs.Ceilings.{COMPONENTS}
use Rattle.count_step.specs.Task.{spacing_in}
use Rattle.count_step.proofs.FillLaws.{Filling}
use Rattle.count_figures.specs.Figures.{put_figures}
use Rattle.count_figures.specs.Steps.{figure_step}
use Rattle.count_figures.proofs.filling.fill_figures.Given as goal

abbrev pub invariant-loop-p : goal.invariant-loop-p
invariant-loop-p l =
    Filling (put_figures l.work.numbers) (figure_step l.work l.gaps) l.work.task.length l.work.task.total l.at l.size l.p
    l.initial.table l.table
    (spacing_in l.work.task.length l.next) × (length l.next ≡ COMPONENTS)
