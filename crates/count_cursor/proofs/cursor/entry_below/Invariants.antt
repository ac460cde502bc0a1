-- The invariant of the loop of `count_cursor::cursor::entry_below`.
use Rattle.count_cursor.specs.Cursor.{Listed}
use Rattle.count_cursor.proofs.FindLaws.{NoneBetween}
use Rattle.count_cursor.proofs.cursor.entry_below.Given as goal

abbrev pub invariant-loop-l : goal.invariant-loop-l
invariant-loop-l l = (o : Listed l.sheet l.entries) → NoneBetween o.of.s l.l l.k
