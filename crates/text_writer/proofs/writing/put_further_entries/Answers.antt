-- `text_writer::writing::put_further_entries` meets its contract: what is still to come are the
-- entries from the index on.
-- Assumes nothing.
use borrow.Author.Rules.{rules}
use Rattle.text_page.specs.PageLaws.{start, same_size, room_first, room_rest}
use Rattle.text_writer.specs.Writable.{entry_at}
use Rattle.text_writer.specs.WrittenLaws.{further_room, further_on, further_done}
use Rattle.text_writer.proofs.writing.put_further_entries.Goals as goal

pub loop-i-init : goal.loop-i-init
loop-i-init c = start _ _ _

pub put-from-requires : goal.put-from-requires
put-from-requires c =
    let s = c.args.s in
    let h = c.requires in
    let l = c.loop-i in
    room_first (further_room (entry_at s.entries) l.i s.count l.invariant (search rules) h.2)

pub put_entry-next-requires : goal.put_entry-next-requires
put_entry-next-requires c =
    let s = c.args.s in
    let h = c.requires in
    let l = c.loop-i in (
      h.0.fit l.i (search rules),
      room_rest (further_room (entry_at s.entries) l.i s.count
          l.invariant (search rules) h.2) c.put-from.ensures,
    )

pub loop-i-preserved : goal.loop-i-preserved
loop-i-preserved c =
    let s = c.args.s in
    let l = c.loop-i in
    further_on (entry_at s.entries) l.i s.count l.invariant (search rules) c.put-from.ensures
    c.put_entry-next.ensures

pub shape_of-page : goal.shape_of-page
shape_of-page c = same_size c.loop-i.invariant

pub returns : goal.returns
returns c =
    let s = c.args.s in
    let l = c.loop-i in
    further_done (entry_at s.entries) l.i s.count l.invariant (search rules)
