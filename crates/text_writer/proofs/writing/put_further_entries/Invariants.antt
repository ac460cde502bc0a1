-- The invariant of the loop of `text_writer::writing::put_further_entries`.
use Prim.Native.Nat.{◌-◌}
use Rattle.text_page.specs.PageLaws.{ToCome}
use Rattle.text_writer.specs.Writable.{further, entry_at}
use Rattle.text_writer.proofs.writing.put_further_entries.Given as goal

abbrev pub invariant-loop-i : goal.invariant-loop-i
invariant-loop-i l =
    ToCome (further (entry_at l.entries) 1 (l.count - 1)) l.at l.initial.page (further (entry_at l.entries) l.i (l.count - l.i)) l.next
    l.page
