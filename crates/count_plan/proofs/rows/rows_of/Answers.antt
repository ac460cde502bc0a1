-- `count_plan::rows::rows_of` meets its contract.
-- Assumes nothing.
use mathlib.Core.Path.{◌≡◌}
use native.Mathlib.Omega.{arith}
use Rattle.forms.specs.SchemeMemory.{scheme_in}
use Rattle.count_plan.specs.Layout.{largest_set}
use Rattle.count_plan.specs.LayoutLaws.{count_few, rows_few, largest_start, largest_more, largest_end}
use Rattle.count_plan.proofs.rows.rows_of.Goals as goal

pub loop-i-init : goal.loop-i-init
loop-i-init c = largest_start c.args.s

pub offset_bounds-s-i : goal.offset_bounds-s-i
offset_bounds-s-i c = omega (arith, count_few c.args.s c.requires)

pub bounds-s-i : goal.bounds-s-i
bounds-s-i c = omega (arith, count_few c.args.s c.requires)

pub loop-i-preserved : goal.loop-i-preserved
loop-i-preserved c =
    let s = c.args.s in
    let l = c.loop-i in
    rw c.max-most.ensures (largest_more s l.i l.most c.set_size-n.result (omega arith) (omega arith)
    c.set_size-n.ensures l.invariant)

pub overflow_add-result : goal.overflow_add-result
overflow_add-result c =
    let all_seen : c.loop-i.most ≡ largest_set (scheme_in c.args.s) =
    let l = c.loop-i in
    let e : l.i ≡ 0 = omega arith in
    largest_end c.args.s l.most (rw e at l.invariant) in
    omega (arith, all_seen, rows_few c.args.s c.requires)

pub returns : goal.returns
returns c =
    let all_seen : c.loop-i.most ≡ largest_set (scheme_in c.args.s) =
    let l = c.loop-i in
    let e : l.i ≡ 0 = omega arith in
    largest_end c.args.s l.most (rw e at l.invariant) in
    let most = all_seen in
    let few = rows_few c.args.s c.requires in
    (omega arith, omega arith, omega arith)
