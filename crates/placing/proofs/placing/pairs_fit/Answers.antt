-- `placing::placing::pairs_fit` meets its contract: the pairs from the index on decide.
-- Assumes nothing.
use mathlib.Core.Path.{◌≡◌, sym, ◌∙◌}
use borrow.Author.Rules.{rules}
use native.Mathlib.Omega.{arith}
use lib.ListN.{length}
use Rattle.copy_search.proofs.Search.{pairs_none, pair_passed, pair_failed}
use Rattle.placing.proofs.placing.pairs_fit.Goals as goal

pub returns-then-below-found_below : goal.returns-then-below-found_below
returns-then-below-found_below c =
    let a = c.args in
    let l = c.loop-j in
    let eight : length a.chosen ≡ 8 = search rules in
    sym (l.invariant ∙ pair_failed a.head.now a.chosen a.x a.a a.s l.j (omega arith) (omega arith)
    (omega arith) c.if-below-found_below.true)

pub loop-j-preserved : goal.loop-j-preserved
loop-j-preserved c =
    let a = c.args in
    let l = c.loop-j in
    let eight : length a.chosen ≡ 8 = search rules in
    l.invariant ∙ pair_passed a.head.now a.chosen a.x a.a a.s l.j (omega arith)
    (omega arith) (omega arith) c.if-below-found_below.false

pub returns : goal.returns
returns c =
    let a = c.args in
    let l = c.loop-j in
    let eight : length a.chosen ≡ 8 = search rules in
    sym (l.invariant ∙ pairs_none a.head.now a.chosen a.x a.a a.s l.j (omega arith) (omega arith) (omega arith))
