-- `spacing::compared_count` meets its contract: what was counted and what passes from total t on
-- are the whole.
-- Assumes nothing.
use Prim.Native.Nat.{◌+◌}
use native.Mathlib.Omega.{arith}
use Rattle.cell.specs.Cell.{free, compared_to}
use Rattle.forms.specs.GapRows.{gaps_of}
use Rattle.spacing.proofs.SpacingCount.{totals_start, totals_step, totals_end, totals_bound}
use Rattle.spacing.proofs.compared_count.Goals as goal

pub loop-t-init : goal.loop-t-init
loop-t-init c =
    let a = c.args in
    omega (arith, totals_start (free (gaps_of a.gaps.now (a.k + 1) a.n)) a.k a.m)

pub overflow_add-count : goal.overflow_add-count
overflow_add-count c =
    let a = c.args in
    let l = c.loop-t in
    let f = free (gaps_of a.gaps.now (a.k + 1) a.n) in
    let most = totals_bound f a.k a.m (omega arith) (omega arith) in
    omega (arith, most, l.invariant, totals_step f a.k a.m l.t (omega arith), c.free_count-count.ensures)

pub loop-t-preserved : goal.loop-t-preserved
loop-t-preserved c =
    let a = c.args in
    let l = c.loop-t in
    let f = free (gaps_of a.gaps.now (a.k + 1) a.n) in
    omega (arith, l.invariant, totals_step f a.k a.m l.t (omega arith), c.free_count-count.ensures)

pub returns : goal.returns
unfolding compared_to
returns c =
    let a = c.args in
    let l = c.loop-t in
    let f = free (gaps_of a.gaps.now (a.k + 1) a.n) in
    omega (arith, l.invariant, totals_end f a.k a.m l.t (omega arith))
