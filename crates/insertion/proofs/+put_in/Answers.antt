-- `insertion::put_in` meets its contract: a word that contains a pattern has nothing around it; a
-- whole word is a completion; else the loop goes through the places of the next value.
-- Assumes nothing.
use Prim.Native.Nat.{ℕ, ◌+◌, ◌-◌, ◌<◌}
use mathlib.Core.Path.{◌≡◌, refl, sym, ap, ◌∙◌}
use borrow.Author.Rules.{rules}
use borrow.Author.Tests.{not-true, not-false}
use native.Mathlib.Omega.{arith}
use lib.ListN.{length, take}
use Rattle.std.specs.Prelude.{is_none}
use Rattle.forms.specs.SetMemory.{held_in}
use Rattle.insertion.specs.InsertionLaws.{turns_start, turns_more, turns_end, passed_on, none_contained}
use Rattle.insertion.specs.InsertionLaws.{puts_none, puts_whole}
use Rattle.insertion.specs.Insertion.{PutsIn}
use Rattle.arrangement.specs.Said.{said_no}
use Rattle.insertion.proofs.+put_in.Goals as goal
use Rattle.insertion.proofs.+put_in.Goals.{After-put_in}

pub returns-then-any_in : goal.returns-then-any_in
returns-then-any_in t c =
    let a = c.args in
    let P = held_in a.patterns.now in
    puts_none P a.span.n a.span.fixed (take a.len a.word) (is_none a.span.budget) a.span.budget refl
    (none_contained P a.span.n a.span.fixed (take a.len a.word) (not-true _ (sym c.any_in.ensures ∙ c.if-any_in.true)))

pub returns-then-len-span : goal.returns-then-len-span
returns-then-len-span t c =
    let a = c.args in
    let long : length a.word ≡ 20 = search rules in
    puts_whole (held_in a.patterns.now) a.span.n a.span.fixed a.word a.len (is_none a.span.budget)
    c.if-len-span.true (omega arith) c.requires.3 (not-false _ (sym c.any_in.ensures ∙ c.if-any_in.false))

pub places-init : goal.places-init
places-init t c =
    let a = c.args in
    let long : length a.word ≡ 20 = search rules in
    let start = turns_start (held_in a.patterns.now) a.span.n a.span.fixed a.word a.len (omega arith) (omega arith) (omega arith) in
    (start, c.one_less-left.ensures.endless)

pub put_in-requires : goal.put_in-requires
put_in-requires t c =
    let a = c.args in
    let less : a.span.n - (a.len + 1) < t = omega (arith, c.decreases) in
    (less, (omega arith, omega arith, omega arith, c.places.invariant.0.kept.perm c.requires.3))

-- what the call for one place says, as if with the budget of this call
granted : (t : ℕ) (c : After-put_in t) →
    PutsIn (held_in c.args.patterns.now) c.args.span.n c.args.span.fixed (take (c.args.len + 1) c.places.w)
    (is_none c.args.span.budget) c.put_in.result
granted t c = rw c.places.invariant.1 at c.put_in.ensures

pub returns-in_default : goal.returns-in_default
returns-in_default t c =
    let a = c.args in
    let l = c.places in
    passed_on (held_in a.patterns.now) a.span.n a.span.fixed a.word a.len l.place l.w (is_none a.span.budget) c.put_in.result
    (omega arith) l.invariant.0 c.in_default.not-Impossible
    (granted t (goal.at.returns-in_default t c).After-put_in)

pub returns-then-place-fixed : goal.returns-then-place-fixed
returns-then-place-fixed t c =
    let a = c.args in
    let l = c.places in
    let long : length a.word ≡ 20 = search rules in
    let P = held_in a.patterns.now in
    let said = granted t (goal.at.returns-then-place-fixed t c).After-put_in in
    puts_none P a.span.n a.span.fixed (take a.len a.word) (is_none a.span.budget) c.in-Impossible.rest
    (said.left c.in-Impossible.rest c.in-Impossible.is)
    (turns_end P a.span.n a.span.fixed a.word a.len (omega arith) (omega arith) (omega arith)
    l.place l.w c.if-place-fixed.true l.invariant.0 c.requires.3 (said.no (ap said_no c.in-Impossible.is)))

pub places-preserved : goal.places-preserved
places-preserved t c =
    let a = c.args in
    let l = c.places in
    let long : length a.word ≡ 20 = search rules in
    let said = granted t (goal.at.places-preserved t c).After-put_in in (
      rw (c.exchanged-next.ensures, c.saturating_sub-before.ensures)
          (turns_more (held_in a.patterns.now) a.span.n a.span.fixed a.word a.len
          (omega arith) (omega arith) (omega arith) l.place l.w c.if-place-fixed.false l.invariant.0
          (said.no (ap said_no c.in-Impossible.is))),
      said.left c.in-Impossible.rest c.in-Impossible.is,
    )
