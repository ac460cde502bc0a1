-- The invariant of the loop of `count_rows::run::all_values`.
use mathlib.Core.Path.{◌≡◌}
use lib.ListN.{length}
use Rattle.count_walk.specs.Cells.{rows_from}
use Rattle.count_walk.specs.Walk.{count_walked}
use Rattle.count_entry.specs.Frames.{Framed}
use Rattle.count_rows.specs.Rows.{RootGiven}
use Rattle.count_rows.specs.Run.{ValuesTo}
use Rattle.count_rows.proofs.run.all_values.Given as goal

abbrev pub invariant-loop-j : goal.invariant-loop-j
invariant-loop-j l =
    (length l.table ≡ length l.initial.table) ×
    ((o : Framed l.sheet l.places l.f) → l.table ≡ count_walked o.of.P l.f.last o.of.s (rows_from o.of.s 0 l.j) l.initial.table) ×
    ((o : RootGiven l.sheet l.places l.f l.root) → ValuesTo o.framed.of.P l.f.last o.framed.of.s l.root l.initial.table l.j l.counts)
