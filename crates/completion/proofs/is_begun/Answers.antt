-- `completion::is_begun` meets its contract: the entries up to the index are begun, and one that is
-- not allowed breaks the whole.
-- Assumes nothing.
use Prim.Native.Nat.{◌≤◌}
use mathlib.Core.Path.{sym, ap, ◌∙◌}
use native.Mathlib.Omega.{arith}
use lib.ListN.{get_or}
use lib.Seq.{take_all}
use Rattle.word.specs.ListLaws.{true_not_false}
use Rattle.completion.specs.Completion.{begun}
use Rattle.completion.proofs.Values.{begun_none, begun_more, begun_fails}
use Rattle.completion.proofs.is_begun.Goals as goal

pub loop-i-init : goal.loop-i-init
loop-i-init c = begun_none c.args.n

pub returns-then-x-eq0 : goal.returns-then-x-eq0
returns-then-x-eq0 c =
    let w = c.args.word.now in
    sym (begun_fails c.args.n w c.loop-i.i c.loop-i-test.true
    (λ (l : 1 ≤ get_or w c.loop-i.i 0) m e. omega (arith, c.if-x-eq0.true)))

pub returns-then-n-from : goal.returns-then-n-from
returns-then-n-from c =
    let w = c.args.word.now in
    sym (begun_fails c.args.n w c.loop-i.i c.loop-i-test.true
    (λ l (m : get_or w c.loop-i.i 0 ≤ c.args.n) e. omega (arith, c.from.ensures, c.if-n-from.true)))

pub returns-then-stands_from : goal.returns-then-stands_from
returns-then-stands_from c =
    sym (begun_fails c.args.n c.args.word.now c.loop-i.i c.loop-i-test.true
    (λ l m e. true_not_false (sym c.if-stands_from.true ∙ c.stands_from.ensures ∙ e)))

pub loop-i-preserved : goal.loop-i-preserved
loop-i-preserved c =
    let w = c.args.word.now in
    let i = c.loop-i.i in
    let high : get_or w i 0 ≤ c.args.n = omega (arith, c.from.ensures, c.if-n-from.false) in
    begun_more c.args.n w i c.loop-i-test.true c.loop-i.invariant c.if-x-eq0.false high
    (sym c.stands_from.ensures ∙ c.if-stands_from.false)

pub returns : goal.returns
returns c =
    let w = c.args.word.now in
    sym (ap (begun c.args.n) (sym (take_all c.loop-i.i w (omega arith))) ∙ c.loop-i.invariant)
