-- `basis::basis_of` meets its contract: what is gathered and what is basic from the index on make
-- up the basis.
-- Assumes nothing.
use mathlib.Core.Path.{refl, ap}
use native.Mathlib.Omega.{arith}
use lib.ListN.{length, get_or}
use Rattle.forms.specs.SchemeMemory.{no_pattern}
use Rattle.forms.specs.HeldLaws.{held_few}
use Rattle.basis.proofs.BasisWalk.{gathered_start, gathered_take, gathered_skip}
use Rattle.basis.proofs.basis_of.Goals as goal
use Rattle.basis.proofs.basis_of.Goals.{then-is_basic, else-is_basic}

pub loop-p-init : goal.loop-p-init
loop-p-init c = gathered_start c.args.patterns.now _ refl

pub loop-p-preserved : goal.loop-p-preserved
loop-p-preserved c =
    let s = c.args.patterns.now in
    let l = c.loop-p in
    let b = c.is_basic in
    elim c.if-is_basic.branch [
      | then-is_basic w ↦
          rw (w.items-is, w.n-is) (gathered_take s l.items l.n l.p-index l.invariant (omega arith) c.requires b.result b.ensures
          w.if-is_basic.true (length w.as_slice.result.now) (ap length w.as_slice.ensures)
          (omega (arith, ap length w.as_slice.ensures, held_few (get_or s l.p-index no_pattern))))
      | else-is_basic w ↦
          rw (w.items-is, w.n-is) (gathered_skip s l.items l.n l.p-index l.invariant (omega arith) c.requires b.result b.ensures
          w.if-is_basic.false)
    ]
