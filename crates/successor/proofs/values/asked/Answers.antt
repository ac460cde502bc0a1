-- `successor::values::asked` meets its contract: a value that is not unused completes nothing,
-- and an unused one is brought behind the first i entries.
-- Assumes nothing.
use Prim.Native.Nat.{◌<◌}
use mathlib.Core.Path.{◌≡◌, refl}
use native.Mathlib.Omega.{arith}
use mathlib.Core.List.{[], ◌∷◌, ◌++◌}
use lib.ListN.{length, take}
use lib.Seq.{length-take-le}
use borrow.Author.Rules.{rules}
use Rattle.word.specs.Ceilings.{WORD}
use Rattle.forms.specs.SetMemory.{held_in}
use Rattle.arrangement.specs.ExchangeLaws.{exchange_perm}
use Rattle.successor.specs.WordLaws.{behind_or_used, used_value, decides_none, brought}
use Rattle.successor.proofs.values.asked.Goals as goal

pub returns-in_err-j : goal.returns-in_err-j
returns-in_err-j c =
    let a = c.args in
    let long : length a.word ≡ WORD = search rules in
    let size = length-take-le a.n a.word (omega (arith, long, c.requires.1)) in
    let place = c.in_err-j.ensures in
    let P = held_in a.patterns.now in
    let used = behind_or_used a.word a.n a.i a.value c.requires.4 size (omega (arith, c.requires.0))
    c.requires.2 c.requires.3 (place.nowhere refl) in
    rw c.from_residual.ensures (decides_none P a.n (take a.i a.word ++ (a.value ∷ [])) (used_value P a.n (take a.i a.word) a.value used))

pub completed-requires : goal.completed-requires
completed-requires c =
    let a = c.args in
    let long : length a.word ≡ WORD = search rules in
    let j = c.in_ok-j.j in
    let place = c.in_ok-j.ensures in
    let perm = exchange_perm a.n a.i j a.word c.requires.0 (place.to j refl) (omega (arith, long, c.requires.1))
    c.requires.4 in
    (omega (arith, c.requires.0), c.requires.1, rw c.exchanged-other.ensures perm)

pub returns : goal.returns
returns c =
    let a = c.args in
    let long : length a.word ≡ WORD = search rules in
    let j = c.in_ok-j.j in
    let place = c.in_ok-j.ensures in
    let inside : j < a.n = place.to j refl in
    rw (brought a.word c.exchanged-other.result a.i j a.value (place.from j refl)
    (omega (arith, inside, long, c.requires.1)) (place.there j refl) c.exchanged-other.ensures) at c.completed.ensures
