-- `appending::append` meets its contract: a whole word is a completion; what a test rules out has
-- none; else the loop goes through the unused values.
-- Assumes nothing.
use Prim.Native.Nat.{ℕ, ◌+◌, ◌-◌, ◌≤◌, ◌<◌}
use mathlib.Core.Path.{◌≡◌, ap}
use borrow.Author.Rules.{rules}
use native.Mathlib.Omega.{arith}
use lib.ListN.{length, take}
use Rattle.forms.specs.SetMemory.{held_in}
use Rattle.arrangement.specs.Exchange.{exchange}
use Rattle.arrangement.specs.Searching.{Searches}
use Rattle.appending.specs.AppendingLaws.{tries_start, tries_perm, tries_avoids, tries_passed, tries_more, tries_end, searches_none}
use Rattle.arrangement.specs.Said.{said_no}
use Rattle.appending.specs.AppendingLaws.{searches_whole}
use Rattle.appending.proofs.+append.Goals as goal
use Rattle.appending.proofs.+append.Goals.{After-append}

pub returns-then-len-limits : goal.returns-then-len-limits
returns-then-len-limits t c =
    let a = c.args in
    let long : length a.word ≡ 20 = search rules in
    searches_whole (held_in a.patterns.now) a.limits.n a.word a.len
    c.if-len-limits.true (omega arith) c.requires.2 c.requires.4

pub loop-j-init : goal.loop-j-init
loop-j-init t c =
    let a = c.args in
    let long : length a.word ≡ 20 = search rules in
    tries_start (held_in a.patterns.now) a.limits.n a.word a.len (omega arith) (omega arith) c.requires.2

pub append-requires : goal.append-requires
append-requires t c =
    let a = c.args in
    let l = c.loop-j in
    let long : length a.word ≡ 20 = search rules in
    let P = held_in a.patterns.now in
    let less : a.limits.n - (a.len + 1) < t = omega (arith, c.decreases) in
    let short : a.len < a.limits.n = omega arith in
    let room : a.limits.n ≤ length a.word = omega arith in
    let perm = tries_perm P a.limits.n a.word a.len short room c.requires.2 l.j l.w l.invariant (omega arith) in
    let good = tries_avoids P a.limits.n a.word a.len short room c.requires.2 l.j l.w l.invariant (omega arith)
    (c.is_ruled_out.ensures.no c.if-is_ruled_out.false) in (
      less,
      (omega arith, omega arith, rw c.exchanged-next.ensures perm, c.requires.3, rw c.exchanged-next.ensures good),
    )

-- what the call for one value says, of the word that was handed on
granted : (t : ℕ) (c : After-append t) →
    Searches (held_in c.args.patterns.now) c.args.limits.n
    (take (c.args.len + 1) (exchange c.args.len c.loop-j.j c.loop-j.w)) c.append.result
granted t c = rw c.exchanged-next.ensures at c.append.ensures

pub returns-in_default : goal.returns-in_default
returns-in_default t c =
    let a = c.args in
    let l = c.loop-j in
    let long : length a.word ≡ 20 = search rules in
    tries_passed (held_in a.patterns.now) a.limits.n a.word a.len (omega arith) (omega arith)
    c.requires.2 l.j l.w l.invariant (omega arith) c.append.result
    c.in_default.not-Impossible (granted t (goal.at.returns-in_default t c).After-append)

pub loop-j-preserved : goal.loop-j-preserved
loop-j-preserved t c =
    let a = c.args in
    let l = c.loop-j in
    let long : length a.word ≡ 20 = search rules in
    rw c.exchanged-next.ensures
    (tries_more (held_in a.patterns.now) a.limits.n a.word a.len (omega arith) (omega arith)
    c.requires.2 l.j l.w l.invariant (omega arith)
    ((granted t (goal.at.loop-j-preserved t c).After-append).no (ap said_no c.in-Impossible.is)))

pub returns : goal.returns
returns t c =
    let a = c.args in
    let l = c.loop-j in
    let long : length a.word ≡ 20 = search rules in
    searches_none (held_in a.patterns.now) a.limits.n (take a.len a.word) l.left
    (tries_end (held_in a.patterns.now) a.limits.n a.word a.len (omega arith) (omega arith) c.requires.2 l.j l.w l.invariant (omega arith))
