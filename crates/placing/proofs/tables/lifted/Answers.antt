-- `placing::tables::lifted` meets its contract: what is added, and what is still to be added, is
-- the count of the lower levels.
-- Assumes nothing.
use native.Mathlib.Omega.{arith}
use Rattle.placing.specs.Lookup.{entry_of}
use Rattle.placing.proofs.LookupLaws.{lower_counted, lower_passed, lower_end, lower_lifts}
use Rattle.placing.proofs.tables.lifted.Goals as goal
use Rattle.placing.proofs.tables.lifted.Goals.{then-levels-v, else-levels-v}

pub loop-v-preserved : goal.loop-v-preserved
loop-v-preserved c =
    let a = c.args in
    let l = c.loop-v in
    elim c.if-levels-v.branch [
      | then-levels-v w ↦ omega (arith, lower_counted (entry_of a.levels) a.s a.k l.v (omega arith) w.if-levels-v.true)
      | else-levels-v w ↦ omega (arith, lower_passed (entry_of a.levels) a.s a.k l.v (omega arith) w.if-levels-v.false)
    ]

pub returns : goal.returns
returns c =
    let a = c.args in
    let l = c.loop-v in
    λ g e says h. omega (
      arith,
      lower_end (entry_of a.levels) a.s a.k l.v (omega arith),
      lower_lifts a.levels
          g a.k a.s e says h,
    )
