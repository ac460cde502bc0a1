-- `wellformed::entry_pass::stands_before` meets its contract: the code stands before i if it stands
-- before j.
-- Assumes nothing.
use Prim.Native.Nat.{◌-◌}
use mathlib.Core.Path.{refl, sym, ◌∙◌}
use native.Mathlib.Omega.{arith}
use borrow.Author.Tests.{eq-eqb, ne_eqb}
use lib.ListN.{get_or}
use lib.Dec.{eqb}
use Rattle.wellformed.proofs.PassLaws.{seen_here, seen_later, seen_none}
use Rattle.wellformed.proofs.entry_pass.stands_before.Goals as goal

pub loop-j-init : goal.loop-j-init
loop-j-init c = refl

pub returns-then-code-codes : goal.returns-then-code-codes
returns-then-code-codes c =
    let a = c.args in
    let v = a.codes.now in
    let l = c.loop-j in
    sym (l.invariant ∙ seen_here (eqb (get_or v a.i 0)) (λ n. get_or v n 0) l.j (omega arith)
    (eq-eqb (get_or v a.i 0) (get_or v (l.j - 1) 0) c.if-code-codes.true))

pub loop-j-preserved : goal.loop-j-preserved
loop-j-preserved c =
    let a = c.args in
    let v = a.codes.now in
    let l = c.loop-j in
    l.invariant ∙ seen_later (eqb (get_or v a.i 0)) (λ n. get_or v n 0) l.j (omega arith)
    (ne_eqb (get_or v a.i 0) (get_or v (l.j - 1) 0) c.if-code-codes.false)

pub returns : goal.returns
returns c =
    let a = c.args in
    let v = a.codes.now in
    let l = c.loop-j in
    sym (l.invariant ∙ seen_none (eqb (get_or v a.i 0)) (λ n. get_or v n 0) l.j (omega arith))
