-- `set_tests::earlier_twin` meets its contract: the nearest before i is the nearest below the
-- index. Assumes nothing.
use Prim.Native.Nat.{◌-◌}
use mathlib.Core.Path.{◌≡◌, refl, sym, ◌∙◌}
use native.Mathlib.Omega.{arith}
use borrow.Author.Tests.{lt-ltb, le-ltb}
use Rattle.set_tests.specs.Twin.{nearest_twin}
use Rattle.set_tests.specs.TwinLaws.{nearest_here, nearest_later, nearest_none, nearest_start}
use Rattle.set_tests.proofs.earlier_twin.Invariants.{twin}
use Rattle.set_tests.proofs.earlier_twin.Goals as goal

pub loop-j-init : goal.loop-j-init
loop-j-init c = let a = c.args in nearest_start (twin a.s a.i) a.i

pub returns-then-same_digits : goal.returns-then-same_digits
returns-then-same_digits c =
    let a = c.args in
    let l = c.loop-j in
    let is : nearest_twin (twin a.s a.i) a.i ≡ l.j - 1 =
    l.invariant ∙ nearest_here (twin a.s a.i) a.i l.j (omega arith) (sym c.same_digits.ensures ∙ c.if-same_digits.true) in
    rw (is, lt-ltb (l.j - 1) a.i (omega arith)) refl

pub loop-j-preserved : goal.loop-j-preserved
loop-j-preserved c =
    let a = c.args in
    let l = c.loop-j in
    l.invariant ∙ nearest_later (twin a.s a.i) a.i l.j (omega arith) (sym c.same_digits.ensures ∙ c.if-same_digits.false)

pub returns : goal.returns
returns c =
    let a = c.args in
    let l = c.loop-j in
    let is : nearest_twin (twin a.s a.i) a.i ≡ a.i = l.invariant ∙ nearest_none (twin a.s a.i) a.i l.j (omega arith) in
    rw (is, le-ltb a.i a.i (omega arith)) refl
