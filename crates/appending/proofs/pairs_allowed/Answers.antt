-- `appending::pairs_allowed` meets its contract: all pairs are allowed if those are that are left.
-- Assumes nothing.
use mathlib.Core.Path.{◌≡◌, sym, ◌∙◌}
use borrow.Author.Rules.{rules}
use native.Mathlib.Omega.{arith}
use lib.ListN.{length, take, drop}
use Rattle.forms.specs.SetMemory.{held_in}
use Rattle.appending.specs.PairLaws.{pairs_start, pairs_more, pairs_fail, pairs_end}
use Rattle.appending.proofs.pairs_allowed.Goals as goal

pub loop-at-init : goal.loop-at-init
loop-at-init c =
    let a = c.args in
    pairs_start (held_in a.patterns.now) (take a.len a.word) a.len a.n a.word

pub returns-then-not-pairs_with : goal.returns-then-not-pairs_with
returns-then-not-pairs_with c =
    let all-entries : length c.args.word ≡ 20 =
    search rules in
    let a = c.args in
    let l = c.loop-at in
    let long : length a.word ≡ 20 = all-entries in
    sym (l.invariant ∙ pairs_fail (held_in a.patterns.now) (take a.len a.word) a.len l.at a.n a.word
    (omega arith) (omega arith) (omega arith) (sym c.pairs_with.ensures ∙ c.if-not-pairs_with.true))

pub loop-at-preserved : goal.loop-at-preserved
loop-at-preserved c =
    let all-entries : length c.args.word ≡ 20 =
    search rules in
    let a = c.args in
    let l = c.loop-at in
    let long : length a.word ≡ 20 = all-entries in
    l.invariant ∙ pairs_more (held_in a.patterns.now) (take a.len a.word) a.len l.at a.n a.word
    (omega arith) (omega arith) (omega arith) (sym c.pairs_with.ensures ∙ c.if-not-pairs_with.false)

pub returns : goal.returns
returns c =
    let a = c.args in
    let l = c.loop-at in
    sym (l.invariant ∙ pairs_end (held_in a.patterns.now) (take a.len a.word)
    (drop a.len (take l.at a.word)) l.at a.n a.word (omega arith))
