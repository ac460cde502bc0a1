-- `text_writer::writing::put_further_parts` meets its contract: what is still to come are the
-- numbers from the index on.
-- Assumes nothing.
use borrow.Author.Rules.{rules}
use Rattle.text_page.specs.PageLaws.{start, same_size, room_first, room_rest}
use Rattle.text_writer.specs.Writable.{number}
use Rattle.text_writer.specs.WrittenLaws.{further_room, further_on, further_done}
use Rattle.text_writer.proofs.writing.put_further_parts.Goals as goal

pub loop-k-init : goal.loop-k-init
loop-k-init c = start _ _ _

pub put-from-requires : goal.put-from-requires
put-from-requires c =
    let a = c.args in
    let l = c.loop-k in
    room_first (further_room (number a.parts.now) l.k a.n l.invariant (search rules) c.requires.2)

pub put_part-next-requires : goal.put_part-next-requires
put_part-next-requires c =
    let a = c.args in
    let l = c.loop-k in
    room_rest (further_room (number a.parts.now) l.k a.n l.invariant (search rules) c.requires.2) c.put-from.ensures

pub loop-k-preserved : goal.loop-k-preserved
loop-k-preserved c =
    let a = c.args in
    let l = c.loop-k in
    further_on (number a.parts.now) l.k a.n l.invariant (search rules) c.put-from.ensures
    c.put_part-next.ensures

pub shape_of-page : goal.shape_of-page
shape_of-page c = same_size c.loop-k.invariant

pub returns : goal.returns
returns c =
    let a = c.args in
    let l = c.loop-k in
    further_done (number a.parts.now) l.k a.n l.invariant (search rules)
