-- `placing::tables::at_most` meets its contract: what is counted, and what is still to be
-- counted, are the whole.
-- Assumes nothing.
use Rattle.std.proofs.Common.{arith}
use Rattle.placing.proofs.LookupLaws.{under_counted, under_passed, under_end}
use Rattle.placing.proofs.tables.at_most.Goals as goal
use Rattle.placing.proofs.tables.at_most.Goals.{then-y-x, else-y-x}

pub loop-y-preserved : goal.loop-y-preserved
loop-y-preserved c =
    let a = c.args in
    let l = c.loop-y in
    elim c.if-y-x.branch [
      | then-y-x w ↦ omega (arith, under_counted a.entries.now l.y-index a.x (omega arith) w.if-y-x.true)
      | else-y-x w ↦ omega (arith, under_passed a.entries.now l.y-index a.x (omega arith) w.if-y-x.false)
    ]

pub returns : goal.returns
returns c =
    let a = c.args in
    let l = c.loop-y in
    omega (arith, under_end a.entries.now l.y-index a.x (omega arith))
