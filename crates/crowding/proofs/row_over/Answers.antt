-- `crowding::row_over` meets its contract: too many values lie at one of the ends if they do at one
-- that is left.
-- Assumes nothing.
use Prim.Native.Nat.{ℕ, ◌-◌, ◌*◌}
use mathlib.Core.Path.{◌≡◌, sym, ap, ◌∙◌}
use native.Mathlib.Omega.{arith}
use Rattle.crowding.specs.Followers.{over_at}
use Rattle.crowding.proofs.OverLaws.{any_start, any_here, any_later, any_none, over_here, over_not}
use Rattle.crowding.proofs.row_over.Goals as goal

pub loop-m-init : goal.loop-m-init
loop-m-init c =
    let a = c.args in
    any_start (over_at a.room a.high a.unused a.lows a.falls) a.falls

pub returns-then-fit-from : goal.returns-then-fit-from
returns-then-fit-from c =
    let room_for : c.most.result ≡ c.args.room * (c.args.falls - 1 - c.loop-m.m) =
    c.most.ensures.0 ∙ ap (λ (k : ℕ). c.args.room * k) c.left.ensures.0 in
    let a = c.args in
    let l = c.loop-m in
    let room = room_for in
    sym (l.invariant ∙ any_here (over_at a.room a.high a.unused a.lows a.falls) l.m a.falls (omega arith)
    (over_here a.room a.high a.unused a.lows a.falls l.m (omega arith)))

pub loop-m-preserved : goal.loop-m-preserved
loop-m-preserved c =
    let room_for : c.most.result ≡ c.args.room * (c.args.falls - 1 - c.loop-m.m) =
    c.most.ensures.0 ∙ ap (λ (k : ℕ). c.args.room * k) c.left.ensures.0 in
    let a = c.args in
    let l = c.loop-m in
    let room = room_for in
    l.invariant ∙ any_later (over_at a.room a.high a.unused a.lows a.falls) l.m a.falls (omega arith)
    (over_not a.room a.high a.unused a.lows a.falls l.m (omega arith))

pub returns : goal.returns
returns c =
    let a = c.args in
    let l = c.loop-m in
    sym (l.invariant ∙ any_none (over_at a.room a.high a.unused a.lows a.falls) l.m a.falls (omega arith))
