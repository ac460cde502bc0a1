-- `count_plan::cards::child_links` meets its contract.
-- Assumes nothing.
use native.Mathlib.Omega.{arith}
use Prim.Native.Nat.{◌+◌}
use mathlib.Core.Path.{◌≡◌, refl}
use lib.ListN.{length}
use Rattle.count_plan.proofs.CardLaws.{links_start, links_more}
use Rattle.count_plan.proofs.cards.child_links.Goals as goal

pub loop-a-init : goal.loop-a-init
loop-a-init c = λ ps w. links_start ps c.args.prefix.now _ refl

pub loop-a-preserved : goal.loop-a-preserved
loop-a-preserved c =
    let a = c.args in
    let l = c.loop-a in
    λ ps w. links_more ps a.prefix.now l.links l.a c.child_index-index.result (omega arith)
    (c.child_index-index.ensures ps w) (l.invariant ps w)

pub returns : goal.returns
returns c =
    let a = c.args in
    let l = c.loop-a in
    let e : l.a ≡ length a.prefix.now + 1 = omega arith in
    rw e at l.invariant
