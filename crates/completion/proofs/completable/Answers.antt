-- `completion::completable` meets its contract: a word that is too long or not begun begins no
-- avoider.
-- Assumes nothing.
use mathlib.Core.Path.{◌≡◌, sym, ◌∙◌}
use native.Mathlib.Omega.{arith}
use lib.ListN.{length, take}
use lib.Seq.{length-take-le}
use Rattle.forms.specs.SetMemory.{held_in}
use Rattle.completion.specs.CompletionLaws.{too_long, not_begun}
use borrow.Author.Rules.{rules}
use Rattle.completion.proofs.completable.Goals as goal

pub returns-then-n-len : goal.returns-then-n-len
returns-then-n-len c =
    let a = c.args in
    let long : length a.word ≡ 20 = search rules in
    let size = length-take-le a.len a.word (omega arith) in
    sym (too_long (held_in a.patterns.now) a.n (take a.len a.word) (omega arith))

pub returns-then-not-is_begun : goal.returns-then-not-is_begun
returns-then-not-is_begun c =
    let a = c.args in
    sym (not_begun (held_in a.patterns.now) a.n (take a.len a.word)
    (sym c.is_begun.ensures ∙ c.if-not-is_begun.true))

pub goes_on-requires : goal.goes_on-requires
goes_on-requires c = (omega arith, omega arith, sym c.is_begun.ensures ∙ c.if-not-is_begun.false)
