-- `text_schemes::scheme_reader::no_entry` meets its contract: nothing is stored.
-- Assumes nothing.
use mathlib.Core.Path.{refl}
use Rattle.text_gaps.specs.GapMemory.{parts_of_all, widths_of}
use Rattle.text_schemes.proofs.scheme_reader.no_entry.Goals as goal

pub returns : goal.returns
unfolding parts_of_all widths_of
returns c = refl
