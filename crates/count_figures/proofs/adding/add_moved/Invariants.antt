-- The invariant of the loop of `count_figures::adding::add_moved`.
use mathlib.Core.Path.{◌≡◌}
use lib.ListN.{length, take, drop}
use Rattle.count_figures.specs.Figures.{moved_at}
use Rattle.count_figures.specs.Adding.{Adds}
use Rattle.count_figures.proofs.adding.add_moved.Given as goal

abbrev pub invariant-loop-i : goal.invariant-loop-i
invariant-loop-i l =
    (length l.figures ≡ length l.initial.figures) ×
    Adds l.initial.figures l.figures (moved_at l.d (take l.i (drop l.from l.table)))
