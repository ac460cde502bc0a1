-- `appending::is_ruled_out` meets its contract: each of the tests rules a completion out.
-- Assumes nothing.
use mathlib.Core.Path.{◌≡◌, sym, ◌∙◌}
use borrow.Author.Rules.{rules}
use native.Mathlib.Omega.{arith}
use lib.ListN.{length, take}
use Rattle.forms.specs.SetMemory.{held_in}
use Rattle.completion.specs.CompletionLaws.{not_allowed}
use Rattle.appending.specs.AppendingLaws.{ruled_out, not_ruled_out, ruled_by_pairs, crowded_none}
use Rattle.appending.proofs.is_ruled_out.Goals as goal

pub returns-then-is_crowded : goal.returns-then-is_crowded
returns-then-is_crowded c =
    let all-entries : length c.args.word ≡ 20 =
    search rules in
    let a = c.args in
    let long : length a.word ≡ 20 = all-entries in
    let P = held_in a.patterns.now in
    ruled_out P a.limits.n (take a.len a.word)
    (crowded_none P a.limits.n a.word a.len a.limits.rises a.limits.falls (omega arith) (omega arith)
    c.requires.2 c.requires.3 (sym c.is_crowded.ensures ∙ c.if-is_crowded.true))

pub returns-then-not-all_allowed : goal.returns-then-not-all_allowed
returns-then-not-all_allowed c =
    let a = c.args in
    let P = held_in a.patterns.now in
    ruled_out P a.limits.n (take a.len a.word)
    (not_allowed P a.limits.n (take a.len a.word) (sym c.all_allowed.ensures ∙ c.if-not-all_allowed.true))

pub returns-then-not-limits : goal.returns-then-not-limits
returns-then-not-limits c =
    let a = c.args in
    not_ruled_out (held_in a.patterns.now) a.limits.n (take a.len a.word)
    (sym c.all_allowed.ensures ∙ c.if-not-all_allowed.false)

pub returns : goal.returns
returns c =
    let all-entries : length c.args.word ≡ 20 =
    search rules in
    let a = c.args in
    let long : length a.word ≡ 20 = all-entries in
    ruled_by_pairs (held_in a.patterns.now) a.limits.n a.word a.len c.pairs_allowed.result
    (omega arith) (omega arith) c.requires.2 (sym c.all_allowed.ensures ∙ c.if-not-all_allowed.false)
    c.pairs_allowed.ensures
