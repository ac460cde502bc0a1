-- `text_gaps::gap_reader::no_gaps` meets its contract: nothing is stored.
-- Assumes nothing.
use mathlib.Core.Path.{refl}
use Rattle.text_gaps.specs.GapMemory.{parts_of_all, widths_of}
use Rattle.text_gaps.specs.PartReading.{loaded_gaps}
use Rattle.text_gaps.proofs.gap_reader.no_gaps.Goals as goal

pub returns : goal.returns
unfolding loaded_gaps parts_of_all widths_of
returns c = refl
