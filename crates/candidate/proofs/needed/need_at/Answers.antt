-- `candidate::needed::need_at` meets its contract.
-- Assumes nothing.
use Rattle.std.proofs.Common.{◌≡◌, ◌+◌, ◌*◌, ◌-◌, arith}
use Rattle.word.specs.Ceilings.{DIGITS}
use Rattle.placing.specs.Lookup.{VALUES}
use Rattle.candidate.proofs.needed.need_at.Goals as goal

pub returns : goal.returns
returns c =
    let from = (c.args.i * DIGITS + c.args.t) * VALUES in
    let n : from + VALUES - from ≡ VALUES = omega arith in
    rw n at c.copy_from_slice.ensures.after
