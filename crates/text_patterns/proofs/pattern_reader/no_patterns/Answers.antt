-- `text_patterns::pattern_reader::no_patterns` meets its contract: nothing is stored.
-- Assumes nothing.
use mathlib.Core.Path.{refl}
use Rattle.text_patterns.specs.PatternMemory.{loaded_patterns}
use Rattle.text_patterns.proofs.pattern_reader.no_patterns.Goals as goal

pub returns : goal.returns
unfolding loaded_patterns
returns c = refl
