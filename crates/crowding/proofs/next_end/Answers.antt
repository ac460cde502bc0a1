-- `crowding::next_end` meets its contract: by the two comparisons.
-- Assumes nothing.
use mathlib.Core.Path.{◌≡◌, refl, sym, ◌∙◌}
use mathlib.Core.Bool.{true, false}
use Rattle.crowding.specs.Crowding.{precedes}
use Rattle.crowding.proofs.next_end.Goals as goal

pub returns-then-not-is_before : goal.returns-then-not-is_before
returns-then-not-is_before c =
    let a = c.args in
    let e : precedes a.up a.prior a.x ≡ false = sym c.is_before.ensures ∙ c.if-not-is_before.true in
    rw e refl

pub returns-then-is_before : goal.returns-then-is_before
returns-then-is_before c =
    let a = c.args in
    let e : precedes a.up a.prior a.x ≡ true =
    sym c.is_before.ensures ∙ c.if-not-is_before.false in
    let f : precedes a.up a.x a.end ≡ true = sym c.is_before-2.ensures ∙ c.if-is_before.true in
    rw (e, f) refl

pub returns-else-is_before : goal.returns-else-is_before
returns-else-is_before c =
    let a = c.args in
    let e : precedes a.up a.prior a.x ≡ true =
    sym c.is_before.ensures ∙ c.if-not-is_before.false in
    let f : precedes a.up a.x a.end ≡ false = sym c.is_before-2.ensures ∙ c.if-is_before.false in
    rw (e, f) refl
