-- `crowding::is_crowded` meets its contract: without both patterns no word is crowded, and with
-- them the numbers of following values say whether it is.
-- Assumes nothing.
use Prim.Native.Nat.{ℕ, ◌-◌}
use mathlib.Core.Path.{◌≡◌, sym, ◌∙◌}
use borrow.Author.Rules.{rules}
use native.Mathlib.Omega.{arith}
use lib.ListN.{length, take, drop, length-drop}
use mathlib.Core.List.{List}
use lib.Seq.{length-take-le, take_all}
use Rattle.crowding.proofs.OverLaws.{over_crowded, none_rising, none_falling}
use Rattle.crowding.proofs.is_crowded.Goals as goal

pub returns-then-rises-eq0 : goal.returns-then-rises-eq0
returns-then-rises-eq0 c =
    let a = c.args in
    sym (none_rising a.rises a.falls a.n (take a.len a.word) (drop a.len (take a.n a.word)) c.if-rises-eq0.true)

pub returns-then-falls-eq0 : goal.returns-then-falls-eq0
returns-then-falls-eq0 c =
    let a = c.args in
    sym (none_falling a.rises a.falls a.n (take a.len a.word) (drop a.len (take a.n a.word)) c.if-falls-eq0.true)

pub returns : goal.returns
returns c =
    let a = c.args in
    let highs = c.followers-highs in
    let lows = c.followers-lows in
    let long : length a.word ≡ 20 = search rules in
    let rest : List ℕ = drop a.len (take a.n a.word) in
    let unused : length rest ≡ a.n - a.len = omega (arith, length-drop a.len (take a.n a.word), length-take-le a.n a.word (omega arith)) in
    let lent : take (length (take a.n a.word) - a.len) rest ≡ rest = take_all _ rest (omega (arith, length-drop a.len (take a.n a.word))) in
    c.some_over.ensures ∙ over_crowded a.rises a.falls a.n (a.n - a.len) (take a.len a.word)
    rest highs.result lows.result unused (rw lent at highs.ensures) (rw lent at lows.ensures)
