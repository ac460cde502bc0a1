-- `appending::pairs_with` meets its contract: all pairs are allowed if those are that are left.
-- Assumes nothing.
use mathlib.Core.Path.{◌≡◌, refl, sym, ap, ◌∙◌}
use mathlib.Core.Bool.{false}
use mathlib.Core.List.{[], ◌∷◌, ◌++◌}
use borrow.Author.Rules.{rules}
use borrow.Author.Tests.{not-true, not-false}
use native.Mathlib.Omega.{arith}
use lib.ListN.{length, get_or, take}
use Rattle.word.specs.Word.{avoids}
use Rattle.forms.specs.SetMemory.{held_in}
use Rattle.appending.specs.PairLaws.{with_end, with_first, with_second, with_neither}
use Rattle.appending.proofs.pairs_with.Goals as goal

pub loop-i-init : goal.loop-i-init
loop-i-init c = refl

pub loop-i-preserved-then-not-any_in : goal.loop-i-preserved-then-not-any_in
loop-i-preserved-then-not-any_in c =
    let all-entries : length c.args.word ≡ 20 =
    search rules in
    let a = c.args in
    let l = c.loop-i in
    let long : length a.word ≡ 20 = all-entries in
    let P = held_in a.patterns.now in
    l.invariant ∙ with_first P (take a.len a.word) (get_or a.word a.at 0) l.i a.at a.word (omega arith) (omega arith)
    (ap (avoids P) (sym c.followed-one.ensures) ∙
    not-false _ (sym c.any_in.ensures ∙ c.if-not-any_in.true))

pub returns-then-any_in : goal.returns-then-any_in
returns-then-any_in c =
    let all-entries : length c.args.word ≡ 20 =
    search rules in
    let first-fails : let l = c.loop-i in let a = c.args in
    avoids (held_in a.patterns.now) (take a.len a.word ++ (get_or a.word l.i 0 ∷ get_or a.word a.at 0 ∷ [])) ≡ false =
    ap (avoids _) (sym c.followed-one.ensures) ∙
    not-true _ (sym c.any_in.ensures ∙ c.if-not-any_in.false) in
    let a = c.args in
    let l = c.loop-i in
    let long : length a.word ≡ 20 = all-entries in
    let P = held_in a.patterns.now in
    sym (l.invariant ∙ with_neither P (take a.len a.word) (get_or a.word a.at 0) l.i a.at a.word (omega arith) (omega arith)
    (first-fails)
    (ap (avoids P) (sym c.followed-other.ensures) ∙
    not-true _ (sym c.any_in-in-loop-i.ensures ∙ c.if-any_in.true)))

pub loop-i-preserved : goal.loop-i-preserved
loop-i-preserved c =
    let all-entries : length c.args.word ≡ 20 =
    search rules in
    let a = c.args in
    let l = c.loop-i in
    let long : length a.word ≡ 20 = all-entries in
    let P = held_in a.patterns.now in
    l.invariant ∙ with_second P (take a.len a.word) (get_or a.word a.at 0) l.i a.at a.word (omega arith) (omega arith)
    (ap (avoids P) (sym c.followed-other.ensures) ∙
    not-false _ (sym c.any_in-in-loop-i.ensures ∙ c.if-any_in.false))

pub returns : goal.returns
returns c =
    let a = c.args in
    let l = c.loop-i in
    sym (l.invariant ∙ with_end (held_in a.patterns.now) (take a.len a.word) (get_or a.word a.at 0) l.i
    a.at a.word (omega arith))
