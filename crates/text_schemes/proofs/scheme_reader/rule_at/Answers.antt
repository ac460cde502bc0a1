-- `text_schemes::scheme_reader::rule_at` meets its contract: ∅, or positions in braces.
-- Assumes nothing.
use Rattle.text_schemes.proofs.EntryTextLaws.{rule_other}
use Rattle.text_schemes.proofs.scheme_reader.rule_at.Goals as goal

pub returns : goal.returns
returns c =
    let o = c.in_ok-none in
    rule_other c.args.s.now c.args.c.at o.none o.behind o.ensures c.if-none.false c.in_ok-gap.gap c.in_ok-gap.next
    c.positions_of.result c.in_ok-gap.ensures c.positions_of.ensures
