-- `table::main` is safe: the buffers hold zeros before the first read.
-- Assumes nothing.
use Rattle.table_lines.specs.KeptLaws.{kept_none}
use Rattle.table.proofs.main.Goals as goal

pub read_all-reading-requires : goal.read_all-reading-requires
read_all-reading-requires c = kept_none
