-- `count_plain::spacings::flagged_with` meets its contract.
-- Assumes nothing.
use Prim.Native.Nat.{◌+◌}
use mathlib.Core.Path.{sym, ap}
use mathlib.Core.Bool.{Bool, cond}
use borrow.Author.Tests.{eq-eqb, ne_eqb}
use Rattle.count_plain.proofs.spacings.flagged_with.Goals as goal

pub returns-then-flag-eq0 : goal.returns-then-flag-eq0
returns-then-flag-eq0 c =
    let a = c.args in
    sym (ap (λ (b : Bool). cond b a.n (a.n + 1)) (eq-eqb a.flag 0 c.if-flag-eq0.true))

pub returns-else-flag-eq0 : goal.returns-else-flag-eq0
returns-else-flag-eq0 c =
    let a = c.args in
    sym (ap (λ (b : Bool). cond b a.n (a.n + 1)) (ne_eqb a.flag 0 c.if-flag-eq0.false))
