-- `text_schemes::scheme_reader::entry_at` meets its contract: its three parts are read one after
-- the other, each from the tail of the text.
-- Assumes nothing.
use Rattle.text_schemes.proofs.EntryTextLaws.{entered_on}
use Rattle.text_schemes.proofs.scheme_reader.entry_at.Goals as goal

pub returns : goal.returns
returns c =
    let h = c.in_ok-head in
    let g = c.in_ok-vectors in
    let m = c.in_ok-rule in
    entered_on c.args.s.now h.head h.first h.ensures g.vectors g.second g.ensures m.rule m.third m.ensures
