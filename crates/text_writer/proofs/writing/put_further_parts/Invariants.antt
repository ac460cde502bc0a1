-- The invariant of the loop of `text_writer::writing::put_further_parts`.
use Prim.Native.Nat.{◌-◌}
use Rattle.text_page.specs.PageLaws.{ToCome}
use Rattle.text_writer.specs.Writable.{further, number}
use Rattle.text_writer.proofs.writing.put_further_parts.Given as goal

abbrev pub invariant-loop-k : goal.invariant-loop-k
invariant-loop-k l =
    ToCome (further (number l.parts) 1 (l.n - 1)) l.at l.initial.page (further (number l.parts) l.k (l.n - l.k)) l.next l.page
