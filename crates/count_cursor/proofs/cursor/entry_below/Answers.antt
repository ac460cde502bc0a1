-- `count_cursor::cursor::entry_below` meets its contract.
-- Assumes nothing.
use native.Mathlib.Omega.{arith}
use Prim.Native.Nat.{◌+◌, ◌-◌}
use mathlib.Core.Path.{◌≡◌, subst}
use Rattle.count_cursor.proofs.FindLaws.{NoneBetween, between_start, between_more, below_here, below_end}
use Rattle.count_cursor.proofs.cursor.entry_below.Goals as goal

pub loop-l-init : goal.loop-l-init
loop-l-init c = λ o. between_start o.of.s c.args.k

pub returns-then-e-entries : goal.returns-then-e-entries
returns-then-e-entries c =
    let a = c.args in
    let l = c.loop-l in
    λ o.
    let up : l.l ≡ l.l - 1 + 1 = omega arith in
    below_here o.of.s a.k (l.l - 1) c.entry_from-e.result (c.entry_from-e.ensures o) (omega (arith, o.counted))
    (omega arith) (subst (λ m. NoneBetween o.of.s m a.k) up (l.invariant o))

pub loop-l-preserved : goal.loop-l-preserved
loop-l-preserved c =
    let a = c.args in
    let l = c.loop-l in
    λ o.
    let up : l.l ≡ l.l - 1 + 1 = omega arith in
    between_more o.of.s a.k (l.l - 1) c.entry_from-e.result (c.entry_from-e.ensures o)
    (omega (arith, o.counted)) (subst (λ m. NoneBetween o.of.s m a.k) up (l.invariant o))

pub returns : goal.returns
returns c =
    let a = c.args in
    let l = c.loop-l in
    λ o.
    let z : l.l ≡ 0 = omega arith in
    rw o.counted (below_end o.of.s a.k (subst (λ m. NoneBetween o.of.s m a.k) z (l.invariant o)))
