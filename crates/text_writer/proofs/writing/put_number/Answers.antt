-- `text_writer::writing::put_number` meets its contract: the text is the number in base ten.
-- Assumes nothing.
use mathlib.Core.Path.{sym}
use Rattle.text_page.specs.PageLaws.{room_as, writes_as}
use Rattle.text_writer.specs.WrittenLaws.{numeral_decimal}
use Rattle.text_writer.proofs.writing.put_number.Goals as goal

pub put_decimal-requires : goal.put_decimal-requires
put_decimal-requires c =
    let h = c.requires in
    room_as h.1 (numeral_decimal c.args.n h.0)

pub returns : goal.returns
returns c =
    let h = c.requires in
    writes_as c.put_decimal.ensures.0 (sym (numeral_decimal c.args.n h.0))
