-- The invariant of the loop of `count_cursor::cursor::entry_from`.
use Rattle.count_cursor.specs.Cursor.{Listed}
use Rattle.count_cursor.proofs.FindLaws.{NoneFrom}
use Rattle.count_cursor.proofs.cursor.entry_from.Given as goal

abbrev pub invariant-loop-e : goal.invariant-loop-e
invariant-loop-e l = (o : Listed l.sheet l.entries) → NoneFrom o.of.s l.k l.from l.e
