-- `count_plan::sheet::put_card` meets its contract.
-- Assumes nothing.
use Rattle.count_plan.proofs.SheetLaws.{card_made}
use Rattle.count_plan.proofs.sheet.put_card.Goals as goal

pub returns : goal.returns
returns c =
    let a = c.args in
    card_made a.e a.card a.at a.sheet.now c.put.new.sheet c.put_gaps.new.sheet
    c.head_of-head.result
    c.head_of-head.ensures
    c.put.ensures c.put_gaps.ensures
