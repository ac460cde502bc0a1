-- `crowding::followers` meets its contract: the array holds the numbers for the ends up to the
-- index.
-- Assumes nothing.
use Prim.Native.Nat.{ℕ, ◌<◌}
use mathlib.Core.Path.{ap, ◌∙◌}
use borrow.Author.Rules.{rules}
use native.Mathlib.Omega.{arith}
use lib.ListN.{length, length-set}
use Rattle.crowding.specs.Followers.{following, followers_of}
use Rattle.crowding.proofs.EndLaws.{holds_fewer, holds_more}
use Rattle.crowding.proofs.followers.Goals as goal

pub loop-l-init : goal.loop-l-init
loop-l-init c = ((λ (l : ℕ) (h : l < 0). absurd (omega arith)), search rules)

pub loop-l-preserved : goal.loop-l-preserved
loop-l-preserved c =
    let a = c.args in
    let l = c.loop-l in
    let here : l.l < length l.counts = omega arith in
    let end = c.ends_of-ends.ensures l.l (omega arith) in
    let value = c.count_following.ensures ∙ ap (λ (e : ℕ). following a.up e a.unused.now) end in (
      holds_more l.l (followers_of a.up a.n a.entries.now a.unused.now) l.counts c.count_following.result here value l.invariant.0,
      length-set l.counts l.l c.count_following.result ∙ l.invariant.1,
    )

pub returns : goal.returns
returns c =
    let a = c.args in
    let l = c.loop-l in
    holds_fewer a.k l.l (followers_of a.up a.n a.entries.now a.unused.now) l.counts (omega arith) l.invariant.0
