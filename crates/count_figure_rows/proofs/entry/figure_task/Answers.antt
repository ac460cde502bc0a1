-- `count_figure_rows::entry::figure_task` meets its contract.
-- Assumes nothing.
use mathlib.Core.Path.{ap₂}
use Prim.Native.Nat.{ℕ}
use Rattle.count_figures.specs.declared.children.FigureTask.{FigureTask}
use Rattle.count_figure_rows.proofs.entry.figure_task.Goals as goal

pub returns : goal.returns
returns c =
    let a = c.args in
    ap₂ (λ (m n : ℕ). let w : FigureTask = record { task = a.task; numbers = m; figures = n } in w) c.figure_count-numbers.ensures
    c.figure_count-figures.ensures
