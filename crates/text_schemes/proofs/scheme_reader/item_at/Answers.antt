-- `text_schemes::scheme_reader::item_at` meets its contract: an entry and the mark behind it.
-- Assumes nothing.
use Rattle.text_schemes.proofs.EntryItemLaws.{item_none, item_unmarked, item_read}
use Rattle.text_schemes.proofs.scheme_reader.item_at.Goals as goal

pub returns-in_err-entry : goal.returns-in_err-entry
returns-in_err-entry c = rw c.from_residual.ensures (item_none c.args.s.now c.in_err-entry.ensures)

pub returns-in_err-last : goal.returns-in_err-last
returns-in_err-last c =
    let e = c.in_ok-entry in
    rw c.from_residual-in_err-last.ensures (item_unmarked c.args.s.now e.entry e.behind e.ensures c.in_err-last.ensures)

pub returns : goal.returns
returns c =
    let e = c.in_ok-entry in
    let k = c.in_ok-last in
    item_read c.args.s.now e.entry e.behind e.ensures k.last k.next k.ensures
