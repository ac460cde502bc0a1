-- The invariant of the loop of `table_lines::input::keep`.
use Rattle.table_lines.specs.Kept.{memory_of}
use Rattle.table_lines.specs.KeptLaws.{Walk}
use Rattle.table_lines.proofs.input.keep.Given as goal

abbrev pub invariant-loop-i : goal.invariant-loop-i
invariant-loop-i l = Walk (memory_of l.initial.kept l.initial.set l.initial.scheme) l.chunk l.set_room l.scheme_room
    (memory_of l.kept l.set l.scheme) l.i
