-- `successor::least::next_of` meets its contract: no avoider with a longer front comes
-- after the word.
-- Assumes nothing.
use Prim.Native.Nat.{ℕ, ◌+◌, ◌-◌}
use mathlib.Core.Path.{◌≡◌, sym, subst}
use native.Mathlib.Omega.{arith}
use lib.ListN.{length, take}
use borrow.Author.Rules.{rules}
use Rattle.word.specs.Ceilings.{WORD}
use Rattle.forms.specs.SetMemory.{held_in}
use Rattle.successor.specs.StepLaws.{NoneAfter, after_whole}
use Rattle.successor.specs.FrontLaws.{next_less, next_found, next_end}
use Rattle.successor.proofs.least.next_of.Goals as goal
use Rattle.successor.proofs.least.next_of.Goals.{After-raised}

-- no avoider with a front longer by one place comes after the word
longer : (c : After-raised) →
    NoneAfter (held_in c.args.patterns.now) c.args.n (take c.args.n c.args.word) (take (c.loop-i.i - 1 + 1) c.args.word)
longer c =
    let a = c.args in
    let i : c.loop-i.i ≡ c.loop-i.i - 1 + 1 = omega arith in
    subst (λ (m : ℕ). NoneAfter (held_in a.patterns.now) a.n (take a.n a.word) (take m a.word)) i c.loop-i.invariant

pub loop-i-init : goal.loop-i-init
loop-i-init c =
    let a = c.args in
    after_whole (held_in a.patterns.now) a.n (take a.n a.word) c.requires.1.size

pub returns-in-Some : goal.returns-in-Some
returns-in-Some c =
    let a = c.args in
    let l = c.loop-i in
    let long : length a.word ≡ WORD = search rules in
    sym (next_found (held_in a.patterns.now) a.n (l.i - 1) a.word (omega arith) (omega (arith, long, c.requires.0))
    c.in-Some.larger (take a.n c.least_from-best.result) (longer (goal.at.returns-in-Some c).After-raised)
    (c.raised.ensures.yes c.in-Some.larger c.in-Some.is) c.least_from-best.ensures)

pub loop-i-preserved : goal.loop-i-preserved
loop-i-preserved c =
    let a = c.args in
    let l = c.loop-i in
    let long : length a.word ≡ WORD = search rules in
    next_less (held_in a.patterns.now) a.n (l.i - 1) a.word (omega arith) (omega (arith, long, c.requires.0))
    (longer (goal.at.loop-i-preserved c).After-raised) (c.raised.ensures.no c.in_default.is)

pub returns : goal.returns
returns c =
    let a = c.args in
    let l = c.loop-i in
    let long : length a.word ≡ WORD = search rules in
    let none_left : l.i ≡ 0 = omega arith in
    sym (next_end (held_in a.patterns.now) a.n a.word (omega (arith, long, c.requires.0))
    (subst (λ (m : ℕ). NoneAfter (held_in a.patterns.now) a.n (take a.n a.word) (take m a.word)) none_left l.invariant))
