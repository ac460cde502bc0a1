-- `count_entry::frame::need` meets its contract.
-- Assumes nothing.
use native.Mathlib.Omega.{arith}
use Rattle.count_entry.proofs.FrameLaws.{blocks_small}
use Rattle.count_entry.proofs.frame.need.Goals as goal

pub overflow_mul-result : goal.overflow_mul-result
overflow_mul-result c = omega (arith, blocks_small c.args.f c.requires)
