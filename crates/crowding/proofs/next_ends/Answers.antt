-- `crowding::next_ends` meets its contract: the array holds the new ends up to the index.
-- Assumes nothing.
use Prim.Native.Nat.{◌<◌}
use mathlib.Core.Path.{◌≡◌, ◌∙◌}
use borrow.Author.Rules.{rules}
use native.Mathlib.Omega.{arith}
use lib.ListN.{length, get_or, length-set}
use Rattle.crowding.specs.Crowding.{next_ends}
use Rattle.crowding.proofs.EndLaws.{holds_fewer, next_first, next_more}
use Rattle.crowding.proofs.next_ends.Goals as goal

pub loop-l-init : goal.loop-l-init
loop-l-init c =
    let long : length c.args.ends ≡ 8 = search rules in
    (next_first c.args.up c.args.x c.args.ends, long)

pub loop-l-preserved : goal.loop-l-preserved
loop-l-preserved c =
    let a = c.args in
    let l = c.loop-l in
    let room : l.l < length l.next = omega arith in (
      next_more a.up a.x a.ends l.next l.l c.next_end.result (omega arith) room c.next_end.ensures l.invariant.0,
      length-set l.next l.l c.next_end.result ∙ l.invariant.1,
    )

pub returns : goal.returns
returns c =
    let a = c.args in
    let l = c.loop-l in
    holds_fewer a.k l.l (next_ends a.up a.x (λ l. get_or a.ends l 0)) l.next (omega arith) l.invariant.0
