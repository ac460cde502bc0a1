-- The invariant of the loop of `count_rows::rows::fill_rows`.
use mathlib.Core.Path.{◌≡◌}
use lib.ListN.{length}
use Rattle.forms.specs.SchemeMemory.{scheme_in}
use Rattle.count_plan.specs.Layout.{rows_of}
use Rattle.count_walk.specs.Cells.{rows_from}
use Rattle.count_walk.specs.Walk.{walked}
use Rattle.count_entry.specs.Frames.{Framed}
use Rattle.count_rows.proofs.rows.fill_rows.Given as goal

abbrev pub invariant-loop-i : goal.invariant-loop-i
invariant-loop-i g l =
    (length l.table ≡ length l.initial.table) ×
    ((o : Framed l.sheet l.places l.f) → l.table ≡ walked (g.P.Pass.content l.f.last) (g.P.Pass.makes o.of.P) (rows_of (scheme_in o.of.s))
    l.f.last o.of.s (rows_from o.of.s 0 l.i) l.initial.table)
