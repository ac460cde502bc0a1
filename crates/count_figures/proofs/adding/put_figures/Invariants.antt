-- The invariant of the loop of `count_figures::adding::put_figures`.
use mathlib.Core.Path.{◌≡◌}
use lib.ListN.{length, take}
use Rattle.text_page.specs.Page.{overlay}
use Rattle.count_figures.proofs.adding.put_figures.Given as goal

abbrev pub invariant-loop-i : goal.invariant-loop-i
invariant-loop-i l = (length l.table ≡ length l.initial.table) × (l.table ≡ overlay l.at (take l.i l.figures) l.initial.table)
