-- `text_page::bytes::put_bytes` meets its contract: what is still to come are the bytes from the
-- index on.
-- Assumes nothing.
use borrow.Author.Rules.{rules}
use native.Mathlib.Numerals.{add-one}
use lib.ListN.{drop_of_length-le}
use lib.Seq.{drop-cons}
use Rattle.text_page.specs.PageLaws.{step, again, finish, room_next}
use Rattle.text_page.proofs.bytes.put_bytes.Goals as goal

pub put-next-requires : goal.put-next-requires
put-next-requires c =
    let a = c.args in
    let l = c.loop-b in
    room_next _ _ c.requires l.invariant (drop-cons a.bytes.now l.b-index 0 (search rules))

pub loop-b-preserved : goal.loop-b-preserved
loop-b-preserved c =
    let a = c.args in
    let l = c.loop-b in
    rw (add-one l.b-index) (step (again l.invariant (drop-cons a.bytes.now l.b-index 0 (search rules))) c.put-next.ensures)

pub returns : goal.returns
returns c =
    let a = c.args in
    let l = c.loop-b in
    finish (again l.invariant (drop_of_length-le a.bytes.now {i = l.b-index} (search rules)))
