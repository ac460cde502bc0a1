-- `scheme::links::kept` meets its contract: the digits behind the one that is left out move down.
-- Assumes nothing.
use Prim.Native.Nat.{ℕ}
use native.Mathlib.Numerals.{add-one}
use native.Mathlib.Omega.{arith}
use mathlib.Core.Path.{sym, ap, ◌∙◌}
use lib.ListN.{get_or}
use Rattle.word.specs.BumpLaws.{bump_below, bump_above}
use Rattle.scheme.proofs.links.kept.Goals as goal

pub returns-then-j-at : goal.returns-then-j-at
returns-then-j-at c =
    let a = c.args in
    ap (λ (i : ℕ). get_or a.prefix.now i 0) (sym (bump_below a.at a.j (omega arith)))

pub returns-else-j-at : goal.returns-else-j-at
returns-else-j-at c =
    let a = c.args in
    ap (λ (i : ℕ). get_or a.prefix.now i 0) (add-one a.j ∙ sym (bump_above a.at a.j (omega arith)))
