-- `spacing::binomials::fill_row` meets its contract: the binomials of the row before k are there.
-- Assumes nothing.
use native.Mathlib.Omega.{arith}
use Rattle.spacing.specs.PascalLaws.{pascal_more, pascal_next}
use Rattle.spacing.proofs.binomials.fill_row.Goals as goal

pub loop-k-preserved : goal.loop-k-preserved
loop-k-preserved c =
    let sum = c.pascal_sum-x in
    let l = c.loop-k in
    let a = c.args in
    pascal_more a.n l.k sum.result l.b (omega arith) (omega arith) sum.ensures l.invariant

pub returns : goal.returns
returns c =
    let l = c.loop-k in
    pascal_next c.args.n l.k l.b (omega arith) l.invariant
