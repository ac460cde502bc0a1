-- The invariant of the loop of `count_step::filling::fill_cells`.
use mathlib.Core.Path.{◌≡◌}
use lib.ListN.{length, set}
use Rattle.word.specs.Ceilings.{COMPONENTS}
use Rattle.count_step.specs.Task.{spacing_in, task_step}
use Rattle.count_step.proofs.FillLaws.{Filling}
use Rattle.count_step.proofs.filling.fill_cells.Given as goal

abbrev pub invariant-loop-p : goal.invariant-loop-p
invariant-loop-p l =
    Filling set (task_step l.task l.gaps) l.task.length l.task.total l.at l.size l.p l.initial.table l.table
    (spacing_in l.task.length l.next) ×
    (length l.next ≡ COMPONENTS)
