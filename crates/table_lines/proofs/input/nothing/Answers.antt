-- `table_lines::input::nothing` meets its contract.
-- Assumes nothing.
use Rattle.table_lines.specs.KeptLaws.{lines_none}
use Rattle.table_lines.proofs.input.nothing.Goals as goal

pub returns : goal.returns
returns c = lines_none
