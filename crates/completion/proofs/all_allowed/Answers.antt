-- `completion::all_allowed` meets its contract: all values are allowed if those are that are left.
-- Assumes nothing.
use mathlib.Core.Path.{sym, ap, ◌∙◌}
use borrow.Author.Tests.{not-true, not-false}
use native.Mathlib.Omega.{arith}
use lib.ListN.{take}
use Rattle.word.specs.Lists.{all}
use Rattle.word.specs.Word.{avoids}
use Rattle.forms.specs.SetMemory.{held_in}
use Rattle.completion.specs.Completion.{allowed}
use Rattle.completion.proofs.Values.{values_none, allowed_start, allowed_stands, allowed_fits, allowed_fails}
use Rattle.completion.proofs.all_allowed.Goals as goal

pub loop-next-init : goal.loop-next-init
loop-next-init c =
    let a = c.args in
    allowed_start (held_in a.patterns.now) a.n (take a.len a.word)

pub loop-next-preserved-then-stands_from : goal.loop-next-preserved-then-stands_from
loop-next-preserved-then-stands_from c =
    let a = c.args in
    let l = c.loop-next in
    l.invariant ∙ allowed_stands (held_in a.patterns.now) (take a.len a.word) l.next a.n (omega arith)
    (sym c.stands_from.ensures ∙ c.if-stands_from.true)

pub returns-then-any_in : goal.returns-then-any_in
returns-then-any_in c =
    let a = c.args in
    let l = c.loop-next in
    let P = held_in a.patterns.now in
    sym (l.invariant ∙ allowed_fails P (take a.len a.word) l.next a.n (omega arith)
    (sym c.stands_from.ensures ∙ c.if-stands_from.false)
    (ap (avoids P) (sym c.put-longer.ensures) ∙ not-true _ (sym c.any_in.ensures ∙ c.if-any_in.true)))

pub loop-next-preserved : goal.loop-next-preserved
loop-next-preserved c =
    let a = c.args in
    let l = c.loop-next in
    let P = held_in a.patterns.now in
    l.invariant ∙ allowed_fits P (take a.len a.word) l.next a.n (omega arith)
    (sym c.stands_from.ensures ∙ c.if-stands_from.false)
    (ap (avoids P) (sym c.put-longer.ensures) ∙ not-false _ (sym c.any_in.ensures ∙ c.if-any_in.false))

pub returns : goal.returns
returns c =
    let a = c.args in
    let l = c.loop-next in
    sym (l.invariant ∙ ap (all (allowed (held_in a.patterns.now) (take a.len a.word)))
    (values_none l.next a.n (omega arith)))
