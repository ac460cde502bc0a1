-- `count_step::cells::part_sum` meets its contract.
-- Assumes nothing.
use lib.ListN.{get_or}
use native.Mathlib.Omega.{arith}
use Prim.Native.Nat.{◌+◌}
use mathlib.Core.Path.{ap, ◌∙◌}
use Rattle.count_step.proofs.SumLaws.{part_start, part_more, part_end}
use Rattle.count_step.specs.Step.{LARGEST}
use Rattle.spacing.specs.PascalLaws.{binomial_small}
use Rattle.count_step.proofs.cells.part_sum.Goals as goal

pub loop-z-init : goal.loop-z-init
loop-z-init c =
    let a = c.args in
    part_start LARGEST a.table.now a.at a.col a.first a.n

pub overflow_add-at : goal.overflow_add-at
overflow_add-at c =
    let l = c.loop-z in
    omega (arith, c.choose.ensures, binomial_small l.z c.args.col (omega arith))

pub loop-z-preserved : goal.loop-z-preserved
loop-z-preserved c =
    let a = c.args in
    let l = c.loop-z in
    part_more LARGEST a.table.now a.at a.col a.first a.n (a.first + a.n) l.sum l.z l.invariant
    c.read-x.result c.capped_sum-sum.result (omega arith)
    (c.read-x.ensures ∙ ap (λ i. get_or a.table.now (a.at + i) 0) c.choose.ensures) c.capped_sum-sum.ensures

pub returns : goal.returns
returns c =
    let a = c.args in
    let l = c.loop-z in
    part_end LARGEST a.table.now a.at a.col a.first a.n (a.first + a.n) l.sum l.z l.invariant (omega arith)
