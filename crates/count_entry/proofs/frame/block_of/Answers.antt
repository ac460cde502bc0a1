-- `count_entry::frame::block_of` meets its contract.
-- Assumes nothing.
use native.Mathlib.Omega.{arith}
use Prim.Native.Nat.{◌-◌}
use mathlib.Core.Path.{refl}
use Rattle.count_entry.proofs.FrameLaws.{block_small}
use Rattle.count_entry.proofs.frame.block_of.Goals as goal

pub overflow_mul-result : goal.overflow_mul-result
overflow_mul-result c =
    let a = c.args in
    omega (arith, block_small a.f c.requires.0 (a.j - a.back))

pub returns : goal.returns
returns c =
    let a = c.args in
    (refl, block_small a.f c.requires.0 (a.j - a.back))
