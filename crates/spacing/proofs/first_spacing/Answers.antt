-- `spacing::first_spacing` meets its contract: zeros, and the total in component k.
-- Assumes nothing.
use Rattle.word.specs.Ceilings.{COMPONENTS}
use Rattle.spacing.proofs.SpacingMemory.{first_memory}
use Rattle.spacing.proofs.first_spacing.Goals as goal

pub returns : goal.returns
returns c = first_memory c.args.k COMPONENTS c.args.t c.requires
