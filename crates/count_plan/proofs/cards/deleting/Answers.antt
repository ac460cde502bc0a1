-- `count_plan::cards::deleting` meets its contract.
-- Assumes nothing.
use lib.ListN.{length}
use Rattle.scheme.specs.PositionLaws.{positions_inside}
use Rattle.count_plan.proofs.cards.deleting.Goals as goal

pub deleted_values-gone-requires : goal.deleted_values-gone-requires
deleted_values-gone-requires c =
    let a = c.args in
    let q = c.requires in
    (q.0, q.2, positions_inside (length a.prefix.now) a.positions.now q.3)
