-- The invariant of the loop of `text_page::bytes::put_bytes`: the bytes from the index on are still
-- to come.
use Rattle.std.proofs.Common.{drop}
use Rattle.text_page.specs.PageLaws.{ToCome}
use Rattle.text_page.proofs.bytes.put_bytes.Given as goal

abbrev pub invariant-loop-b : goal.invariant-loop-b
invariant-loop-b l = ToCome l.bytes l.at l.initial.page (drop l.b-index l.bytes) l.next l.page
