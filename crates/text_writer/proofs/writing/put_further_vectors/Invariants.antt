-- The invariant of the loop of `text_writer::writing::put_further_vectors`.
use Prim.Native.Nat.{◌-◌}
use Rattle.text_page.specs.PageLaws.{ToCome}
use Rattle.text_writer.specs.Writable.{further, vector_at}
use Rattle.text_writer.proofs.writing.put_further_vectors.Given as goal

abbrev pub invariant-loop-i : goal.invariant-loop-i
invariant-loop-i l =
    ToCome (further (vector_at l.e) 1 (l.e.gap_count - 1)) l.at l.initial.page (further (vector_at l.e) l.i (l.e.gap_count - l.i))
    l.next l.page
