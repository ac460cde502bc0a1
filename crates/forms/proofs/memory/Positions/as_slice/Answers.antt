-- `forms::memory::Positions::as_slice` meets its contract: the array has no zeros behind it.
-- Assumes nothing.
use mathlib.Core.Path.{◌≡◌, ◌∙◌}
use native.Mathlib.Omega.{arith}
use lib.ListN.{length}
use lib.Seq.{take_all}
use borrow.Author.Rules.{rules}
use Rattle.std.proofs.lemmas.Grind.{common_steps}
use Rattle.word.specs.Ceilings.{PREFIX}
use Rattle.forms.specs.SchemeMemory.{padded}
use Rattle.forms.specs.MemoryLaws.{padded_within}
use Rattle.forms.proofs.memory.Positions.as_slice.Goals as goal

pub returns : goal.returns
returns c =
    let l = c.args.self.now.positions in
    let all : length l ≡ PREFIX = search rules in
    let whole : padded PREFIX l ≡ l = padded_within PREFIX l (omega arith) ∙ take_all PREFIX l (omega arith) in
    rw whole (grind (arith, common_steps))
