-- `text_writer::writing::put_further_vectors` meets its contract: what is still to come are the
-- vectors from the index on.
-- Assumes nothing.
use borrow.Author.Rules.{rules}
use Rattle.text_page.specs.PageLaws.{start, same_size, room_first, room_rest}
use Rattle.text_writer.specs.Writable.{vector_at}
use Rattle.text_writer.specs.WrittenLaws.{further_room, further_on, further_done}
use Rattle.text_writer.proofs.writing.put_further_vectors.Goals as goal

pub loop-i-init : goal.loop-i-init
loop-i-init c = start _ _ _

pub put-from-requires : goal.put-from-requires
put-from-requires c =
    room_first (further_room (vector_at c.args.e) c.loop-i.i c.args.e.gap_count
    c.loop-i.invariant (search rules) c.requires.1)

pub put_vector_at-next-requires : goal.put_vector_at-next-requires
put_vector_at-next-requires c =
    let e = c.args.e in
    let h = c.requires in (
      h.0,
      search rules,
      room_rest (further_room (vector_at e) c.loop-i.i e.gap_count
          c.loop-i.invariant (search rules) h.1) c.put-from.ensures,
    )

pub loop-i-preserved : goal.loop-i-preserved
loop-i-preserved c =
    let e = c.args.e in
    further_on (vector_at e) c.loop-i.i e.gap_count c.loop-i.invariant (search rules)
    c.put-from.ensures c.put_vector_at-next.ensures

pub shape_of-page : goal.shape_of-page
shape_of-page c = same_size c.loop-i.invariant

pub returns : goal.returns
returns c =
    let e = c.args.e in
    let l = c.loop-i in
    further_done (vector_at e) l.i e.gap_count l.invariant (search rules)
