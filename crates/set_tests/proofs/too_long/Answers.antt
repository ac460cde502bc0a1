-- `set_tests::too_long` meets its contract: as many digits as the length says.
-- Assumes nothing.
use mathlib.Core.Path.{sym, ap}
use lib.Dec.{ltb}
use Rattle.word.specs.Ceilings.{DIGITS}
use Rattle.forms.specs.MemoryLaws.{length_padded}
use Rattle.set_tests.proofs.too_long.Goals as goal

pub returns : goal.returns
returns c = let p = c.args.p in ap (ltb DIGITS) (sym (length_padded p.length p.digits))
