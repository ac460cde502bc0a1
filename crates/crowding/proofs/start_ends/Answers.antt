-- `crowding::start_ends` meets its contract: one end is set, the others are marks.
-- Assumes nothing.
use Rattle.crowding.proofs.EndLaws.{holds_start}
use Rattle.crowding.proofs.start_ends.Goals as goal

pub returns : goal.returns
returns c =
    let a = c.args in
    holds_start a.up a.n 8 c.outermost-first.result c.outermost-none.result c.outermost-first.ensures
    c.outermost-none.ensures
