-- `crowding::count_following` meets its contract: those counted, and those among the values
-- that are left.
-- Assumes nothing.
use mathlib.Core.Path.{sym, ◌∙◌}
use native.Mathlib.Omega.{arith}
use Rattle.crowding.proofs.EndLaws.{following_one, following_other, following_none}
use Rattle.crowding.proofs.count_following.Goals as goal
use Rattle.crowding.proofs.count_following.Goals.{then-is_before, else-is_before}

pub loop-value-preserved : goal.loop-value-preserved
loop-value-preserved c =
    let a = c.args in
    let l = c.loop-value in
    elim c.if-is_before.branch [
      | then-is_before w ↦
          let one = following_one a.up a.x a.unused.now l.value-index (omega arith) (sym c.is_before.ensures ∙ w.if-is_before.true) in
          (omega (arith, w.count-is), omega (arith, w.count-is))
      | else-is_before w ↦
          let other = following_other a.up a.x a.unused.now l.value-index (omega arith) (sym c.is_before.ensures ∙ w.if-is_before.false) in
          (omega (arith, w.count-is), omega (arith, w.count-is))
    ]

pub returns : goal.returns
returns c =
    let a = c.args in
    let l = c.loop-value in
    omega (arith, l.invariant.0, following_none a.up a.x a.unused.now l.value-index (omega arith))
