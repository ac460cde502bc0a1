-- `text_writer::writing::put_vector` meets its contract: a mark, the first component, the further
-- ones and a mark.
-- Assumes nothing.
use mathlib.Core.Path.{◌≡◌, refl}
use native.Mathlib.Omega.{arith}
use lib.ListN.{length}
use borrow.Author.Rules.{rules}
use Rattle.text_page.specs.PageLaws.{start_as, step, finish_by, room_next, room_last}
use Rattle.text_writer.specs.WrittenLaws.{text_vector}
use Rattle.text_writer.proofs.writing.put_vector.Goals as goal

pub put_part-second-requires : goal.put_part-second-requires
put_part-second-requires c =
    let seven-parts : length c.args.g.parts ≡ 7 =
    (let o = c.well_formed in search rules) in
    let a = c.args in
    let h = c.requires in
    let seven = seven-parts in
    let whole = start_as _ _ a.at a.page.now (text_vector a.g.width a.g.parts h.0.some (omega arith)) in
    room_next _ _ h.1 (step whole c.put_bytes-first.ensures) refl

pub put_further_parts-last-requires : goal.put_further_parts-last-requires
put_further_parts-last-requires c =
    let seven-parts : length c.args.g.parts ≡ 7 =
    (let o = c.well_formed in search rules) in
    let a = c.args in
    let h = c.requires in
    let seven = seven-parts in
    let whole = start_as _ _ a.at a.page.now (text_vector a.g.width a.g.parts h.0.some (omega arith)) in (
      h.0.some,
      omega arith,
      room_next _ _ h.1 (step (step whole c.put_bytes-first.ensures) c.put_part-second.ensures) refl,
    )

pub put_bytes-requires : goal.put_bytes-requires
put_bytes-requires c =
    let seven-parts : length c.args.g.parts ≡ 7 =
    (let o = c.well_formed in search rules) in
    let a = c.args in
    let h = c.requires in
    let seven = seven-parts in
    let whole = start_as _ _ a.at a.page.now (text_vector a.g.width a.g.parts h.0.some (omega arith)) in
    room_last h.1 (step (step (step whole c.put_bytes-first.ensures) c.put_part-second.ensures)
    c.put_further_parts-last.ensures)

pub returns : goal.returns
returns c =
    let seven-parts : length c.args.g.parts ≡ 7 =
    (let o = c.well_formed in search rules) in
    let a = c.args in
    let h = c.requires in
    let seven = seven-parts in
    let whole = start_as _ _ a.at a.page.now (text_vector a.g.width a.g.parts h.0.some (omega arith)) in
    finish_by (step (step (step whole c.put_bytes-first.ensures) c.put_part-second.ensures)
    c.put_further_parts-last.ensures) c.put_bytes.ensures
