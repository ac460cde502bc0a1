-- `text_writer::writing::put_patterns` meets its contract: no patterns are ∅, and others an opening
-- brace, the first, the further ones and a closing brace.
-- Assumes nothing.
use mathlib.Core.Path.{refl, sym}
use borrow.Author.Rules.{rules}
use Rattle.text_page.specs.PageLaws.{start_as, step, finish_by, room_next, room_last, writes_as}
use Rattle.text_writer.specs.WrittenLaws.{text_patterns, text_no_patterns}
use Rattle.text_writer.specs.RoomLaws.{room_patterns}
use Rattle.text_writer.proofs.writing.put_patterns.Goals as goal

pub returns-then-s-eq0 : goal.returns-then-s-eq0
returns-then-s-eq0 c = writes_as c.put_bytes.ensures (sym (text_no_patterns c.args.s c.if-s-eq0.true))

pub put_pattern-second-requires : goal.put_pattern-second-requires
put_pattern-second-requires c =
    let a = c.args in
    let h = c.requires in
    let room = room_patterns a.s a.at h.0 h.1 in
    let whole = start_as _ _ a.at a.page.now (text_patterns a.s c.if-s-eq0.false) in
    (h.0.fit 0 (search rules), room_next _ _ room (step whole c.put-first.ensures) refl)

pub put_further_patterns-last-requires : goal.put_further_patterns-last-requires
put_further_patterns-last-requires c =
    let a = c.args in
    let h = c.requires in
    let room = room_patterns a.s a.at h.0 h.1 in
    let whole = start_as _ _ a.at a.page.now (text_patterns a.s c.if-s-eq0.false) in (
      h.0,
      search rules,
      room_next _ _ room (step (step whole c.put-first.ensures)
          c.put_pattern-second.ensures) refl,
    )

pub put-requires : goal.put-requires
put-requires c =
    let a = c.args in
    let h = c.requires in
    let room = room_patterns a.s a.at h.0 h.1 in
    let whole = start_as _ _ a.at a.page.now (text_patterns a.s c.if-s-eq0.false) in
    room_last room (step (step (step whole c.put-first.ensures) c.put_pattern-second.ensures)
    c.put_further_patterns-last.ensures)

pub returns : goal.returns
returns c =
    let a = c.args in
    let whole = start_as _ _ a.at a.page.now (text_patterns a.s c.if-s-eq0.false) in
    finish_by (step (step (step whole c.put-first.ensures) c.put_pattern-second.ensures)
    c.put_further_patterns-last.ensures) c.put.ensures
