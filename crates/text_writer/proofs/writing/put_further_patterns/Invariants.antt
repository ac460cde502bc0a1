-- The invariant of the loop of `text_writer::writing::put_further_patterns`.
use Prim.Native.Nat.{◌-◌}
use Rattle.text_page.specs.PageLaws.{ToCome}
use Rattle.text_writer.specs.Writable.{further, pattern_at}
use Rattle.text_writer.proofs.writing.put_further_patterns.Given as goal

abbrev pub invariant-loop-i : goal.invariant-loop-i
invariant-loop-i l =
    ToCome (further (pattern_at l.items) 1 (l.i-end - 1)) l.at l.initial.page (further (pattern_at l.items) l.i (l.i-end - l.i)) l.next
    l.page
