-- The invariant of the loop of `text_writer::writing::put_digits`.
use Prim.Native.Nat.{◌-◌}
use Rattle.word.specs.Lists.{row}
use Rattle.forms.specs.SchemeMemory.{padded}
use Rattle.text_grammar.specs.Spelling.{bytes_of, digits}
use Rattle.text_page.specs.PageLaws.{ToCome}
use Rattle.text_writer.specs.WrittenLaws.{shown}
use Rattle.text_writer.proofs.writing.put_digits.Given as goal

abbrev pub invariant-loop-i : goal.invariant-loop-i
invariant-loop-i l = ToCome (bytes_of (digits (padded l.n l.run))) l.at l.initial.page (shown l.run (row l.i (l.n - l.i))) l.next l.page
