-- `crowding::ends_of` meets its contract: the array holds the ends of the entries up to the index.
-- Assumes nothing.
use native.Mathlib.Omega.{arith}
use Rattle.crowding.specs.Crowding.{start_ends}
use Rattle.crowding.proofs.EndLaws.{holds_fewer, ends_none, ends_more, ends_whole}
use Rattle.crowding.proofs.ends_of.Goals as goal

pub loop-x-init : goal.loop-x-init
loop-x-init c =
    let a = c.args in
    let s = c.start_ends-ends.result in
    ends_none a.up a.n a.k s (holds_fewer a.k 8 (start_ends a.up a.n) s (omega arith) c.start_ends-ends.ensures)

pub loop-x-preserved : goal.loop-x-preserved
loop-x-preserved c =
    let a = c.args in
    let l = c.loop-x in
    ends_more a.up a.n a.k a.entries.now l.x-index l.ends c.next_ends-next.result (omega arith) l.invariant c.next_ends-next.ensures

pub returns : goal.returns
returns c =
    let a = c.args in
    let l = c.loop-x in
    ends_whole a.up a.n a.k a.entries.now l.x-index l.ends (omega arith) l.invariant
