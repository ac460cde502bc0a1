-- `count_plain::spacings::held` meets its contract.
-- Assumes nothing.
use borrow.Author.Rules.{rules}
use native.Mathlib.Omega.{arith}
use Prim.Native.Nat.{suc, ◌+◌}
use native.Mathlib.Numerals.{add-one}
use mathlib.Core.Path.{◌≡◌, refl, sym, ◌∙◌}
use lib.ListN.{length, get_or, take}
use lib.Seq.{length-take-le, get_or-take}
use Rattle.word.specs.Ceilings.{COMPONENTS}
use Rattle.count_plain.specs.PieceLaws.{Walk, walk_start, walk_more, walk_end, walk_last}
use Rattle.count_plain.proofs.spacings.held.Goals as goal

pub loop-i-init : goal.loop-i-init
loop-i-init c =
    let a = c.args in
    walk_start (take (a.k + 1) a.g) a.k a.s c.requires.1 c.requires.2

pub returns-then-left-x : goal.returns-then-left-x
returns-then-left-x c =
    let a = c.args in
    let l = c.loop-i in
    let seven : length a.g ≡ COMPONENTS = (search rules) in
    let size : length (take (a.k + 1) a.g) ≡ suc a.k = length-take-le (a.k + 1) a.g (omega arith) ∙ add-one a.k in
    walk_end (take (a.k + 1) a.g) a.k a.s l.i l.left size l.invariant c.from-x.result
    (c.from-x.ensures ∙ sym (get_or-take (a.k + 1) a.g l.i 0 (omega arith))) c.if-left-x.true

pub loop-i-preserved : goal.loop-i-preserved
loop-i-preserved c =
    let a = c.args in
    let l = c.loop-i in
    let seven : length a.g ≡ COMPONENTS = (search rules) in
    let size : length (take (a.k + 1) a.g) ≡ suc a.k = length-take-le (a.k + 1) a.g (omega arith) ∙ add-one a.k in
    walk_more (take (a.k + 1) a.g) a.k a.s l.i l.left size l.invariant c.from-x.result
    (c.from-x.ensures ∙ sym (get_or-take (a.k + 1) a.g l.i 0 (omega arith))) (omega arith) (omega arith)

pub returns : goal.returns
returns c =
    let a = c.args in
    let l = c.loop-i in
    let seven : length a.g ≡ COMPONENTS = (search rules) in
    let size : length (take (a.k + 1) a.g) ≡ suc a.k = length-take-le (a.k + 1) a.g (omega arith) ∙ add-one a.k in
    let e : l.i ≡ a.k = omega (arith, l.invariant.reach) in
    let w : Walk (take (a.k + 1) a.g) a.k a.s a.k l.left = rw e at l.invariant in
    walk_end (take (a.k + 1) a.g) a.k a.s a.k l.left size w (get_or (take (a.k + 1) a.g) a.k 0) refl
    (walk_last (take (a.k + 1) a.g) a.k a.s a.k l.left size w (omega arith))
