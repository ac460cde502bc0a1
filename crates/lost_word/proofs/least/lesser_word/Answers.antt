-- `lost_word::least::lesser_word` meets its contract: by the cases of what is there.
-- Assumes nothing.
use Rattle.std.proofs.Common.{refl, sym, ◌∙◌}
use Rattle.lost_word.proofs.least.lesser_word.Goals as goal

pub returns-in_default : goal.returns-in_default
returns-in_default c = (rw c.in_default.is refl, c.requires.0)

pub returns-then-comes_before : goal.returns-then-comes_before
returns-then-comes_before c =
    let e = sym c.comes_before.ensures ∙ c.if-comes_before.true in
    (rw (c.in-Some.is, c.in-Some-best.is, e) refl, rw c.in-Some.is at c.requires.1)

pub returns-else-comes_before : goal.returns-else-comes_before
returns-else-comes_before c =
    let e = sym c.comes_before.ensures ∙ c.if-comes_before.false in
    (rw (c.in-Some.is, c.in-Some-best.is, e) refl, rw c.in-Some-best.is at c.requires.0)
