-- `appending::appending_search` meets its contract: what contains a pattern begins no avoider.
-- Assumes nothing.
use mathlib.Core.Path.{sym, ◌∙◌}
use borrow.Author.Tests.{not-true, not-false}
use lib.ListN.{take}
use Rattle.forms.specs.SetMemory.{held_in}
use Rattle.appending.specs.AppendingLaws.{searches_none, contained_none}
use Rattle.appending.proofs.appending_search.Goals as goal

pub returns-then-any_in : goal.returns-then-any_in
returns-then-any_in c =
    let a = c.args in
    let P = held_in a.patterns.now in
    searches_none P a.limits.n (take a.len a.word) a.limits.budget
    (contained_none P a.limits.n (take a.len a.word)
    (not-true _ (sym c.any_in.ensures ∙ c.if-any_in.true)))

pub append-requires : goal.append-requires
append-requires c =
    let pre = c.requires in
    (pre.0, pre.1, pre.2, pre.3, not-false _ (sym c.any_in.ensures ∙ c.if-any_in.false))
