-- `text_writer::writing::put_gaps` meets its contract: no vectors are ∅, and others an opening
-- brace, the first, the further ones and a closing brace.
-- Assumes nothing.
use mathlib.Core.Path.{refl, sym}
use borrow.Author.Rules.{rules}
use Rattle.text_page.specs.PageLaws.{start_as, step, finish_by, room_as, room_next, room_last, writes_as}
use Rattle.text_writer.specs.WrittenLaws.{text_gaps, text_no_gaps}
use Rattle.text_writer.proofs.writing.put_gaps.Goals as goal

pub put_bytes-requires : goal.put_bytes-requires
put_bytes-requires c = room_as c.requires.1 (text_no_gaps c.args.e c.if-e-eq0.true)

pub returns-then-e-eq0 : goal.returns-then-e-eq0
returns-then-e-eq0 c = writes_as c.put_bytes.ensures (sym (text_no_gaps c.args.e c.if-e-eq0.true))

pub put-first-requires : goal.put-first-requires
put-first-requires c =
    let whole = start_as _ _ c.args.at c.args.page.now (text_gaps c.args.e c.if-e-eq0.false) in
    room_next _ _ c.requires.1 whole refl

pub put_vector_at-second-requires : goal.put_vector_at-second-requires
put_vector_at-second-requires c =
    let whole = start_as _ _ c.args.at c.args.page.now (text_gaps c.args.e c.if-e-eq0.false) in
    (c.requires.0, search rules, room_next _ _ c.requires.1 (step whole c.put-first.ensures) refl)

pub put_further_vectors-last-requires : goal.put_further_vectors-last-requires
put_further_vectors-last-requires c =
    let whole = start_as _ _ c.args.at c.args.page.now (text_gaps c.args.e c.if-e-eq0.false) in (
      c.requires.0,
      room_next _ _ c.requires.1 (step (step whole c.put-first.ensures)
          c.put_vector_at-second.ensures) refl,
    )

pub put-requires : goal.put-requires
put-requires c =
    let whole = start_as _ _ c.args.at c.args.page.now (text_gaps c.args.e c.if-e-eq0.false) in
    room_last c.requires.1 (step (step (step whole c.put-first.ensures) c.put_vector_at-second.ensures)
    c.put_further_vectors-last.ensures)

pub returns : goal.returns
returns c =
    let whole = start_as _ _ c.args.at c.args.page.now (text_gaps c.args.e c.if-e-eq0.false) in
    finish_by (step (step (step whole c.put-first.ensures) c.put_vector_at-second.ensures)
    c.put_further_vectors-last.ensures) c.put.ensures
