-- The invariant and the measure of the loop of `count_rows::rows::fill_row`.
use mathlib.Core.Path.{◌≡◌}
use lib.ListN.{length}
use Rattle.forms.specs.SchemeMemory.{scheme_in}
use Rattle.count_plan.specs.Layout.{rows_of}
use Rattle.count_cursor.specs.RowLaws.{Going, weight}
use Rattle.count_entry.specs.Frames.{Framed}
use Rattle.count_rows.proofs.rows.fill_row.Given as goal

abbrev pub invariant-loop-c : goal.invariant-loop-c
invariant-loop-c g l =
    (length l.table ≡ length l.initial.table) ×
    ((o : Framed l.sheet l.places l.f) → Going (g.P.Pass.content l.f.last) (g.P.Pass.makes o.of.P) (rows_of (scheme_in o.of.s)) l.f.last
    o.of.s l.j l.c l.initial.table l.table)

abbrev pub decreases-loop-c : goal.decreases-loop-c
decreases-loop-c g l = weight l.sheet l.j l.c
