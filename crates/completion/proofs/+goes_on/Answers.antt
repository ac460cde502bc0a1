-- `completion::goes_on` meets its contract: a word that is whole is tested; before the loop the
-- forward check was passed; the word can be completed if one of the values that are left leads to
-- an avoider.
-- Assumes nothing.
use Prim.Native.Nat.{◌+◌, ◌-◌, ◌<◌}
use mathlib.Core.Path.{◌≡◌, sym, ap, ◌∙◌}
use borrow.Author.Rules.{rules}
use native.Mathlib.Omega.{arith}
use lib.ListN.{length, take}
use lib.Seq.{length-take-le}
use Rattle.word.specs.Lists.{any}
use Rattle.forms.specs.SetMemory.{held_in}
use Rattle.completion.specs.Completion.{completable, begun, goes_on}
use Rattle.completion.specs.CompletionLaws.{begun_snoc, not_allowed}
use Rattle.completion.proofs.Values.{values_none, whole_answer, goes_start, goes_stands, goes_not, goes_there}
use Rattle.completion.proofs.+goes_on.Goals as goal

pub returns-then-len-n : goal.returns-then-len-n
returns-then-len-n t c =
    let a = c.args in
    let long : length a.word ≡ 20 = search rules in
    let size : length (take a.len a.word) ≡ a.n = length-take-le a.len a.word (omega arith) ∙ c.if-len-n.true in
    whole_answer (held_in a.patterns.now) a.n (take a.len a.word)
    c.any_in.result c.any_in.ensures c.requires.2 size

pub returns-then-not-all_allowed : goal.returns-then-not-all_allowed
returns-then-not-all_allowed t c =
    let a = c.args in
    sym (not_allowed (held_in a.patterns.now) a.n (take a.len a.word)
    (sym c.all_allowed.ensures ∙ c.if-not-all_allowed.true))

pub loop-v-init : goal.loop-v-init
loop-v-init t c =
    let a = c.args in
    let long : length a.word ≡ 20 = search rules in
    let size = length-take-le a.len a.word (omega arith) in
    goes_start (held_in a.patterns.now) a.n (take a.len a.word) (omega arith)

pub loop-v-preserved-then-stands_from : goal.loop-v-preserved-then-stands_from
loop-v-preserved-then-stands_from t c =
    let a = c.args in
    let l = c.loop-v in
    l.invariant ∙ goes_stands (held_in a.patterns.now) (take a.len a.word) l.v a.n (omega arith)
    (sym c.stands_from.ensures ∙ c.if-stands_from.true)

pub goes_on-found-requires : goal.goes_on-found-requires
goes_on-found-requires t c =
    let a = c.args in
    let l = c.loop-v in
    let less : a.n - (a.len + 1) < t = omega (arith, c.decreases) in
    let more = begun_snoc a.n (take a.len a.word) l.v c.requires.2 (omega arith) (omega arith)
    (sym c.stands_from.ensures ∙ c.if-stands_from.false) in
    (less, (omega arith, omega arith, ap (begun a.n) c.put-longer.ensures ∙ more))

pub returns-then-found : goal.returns-then-found
returns-then-found t c =
    let a = c.args in
    let l = c.loop-v in
    let P = held_in a.patterns.now in
    c.if-found.true ∙ sym (l.invariant ∙ goes_there P (take a.len a.word) l.v a.n (omega arith)
    (sym c.stands_from.ensures ∙ c.if-stands_from.false)
    (ap (completable P a.n) (sym c.put-longer.ensures) ∙ sym c.goes_on-found.ensures ∙ c.if-found.true))

pub loop-v-preserved : goal.loop-v-preserved
loop-v-preserved t c =
    let a = c.args in
    let l = c.loop-v in
    let P = held_in a.patterns.now in
    l.invariant ∙ goes_not P (take a.len a.word) l.v a.n (omega arith)
    (ap (completable P a.n) (sym c.put-longer.ensures) ∙ sym c.goes_on-found.ensures ∙ c.if-found.false)

pub returns : goal.returns
returns t c =
    let a = c.args in
    let l = c.loop-v in
    let P = held_in a.patterns.now in
    sym (l.invariant ∙ ap (any (goes_on P a.n (take a.len a.word))) (values_none l.v a.n (omega arith)))
