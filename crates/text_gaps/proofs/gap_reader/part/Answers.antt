-- `text_gaps::gap_reader::part` meets its contract: a number up to 255 is its byte.
-- Assumes nothing.
use mathlib.Core.Path.{sym}
use native.Mathlib.Omega.{arith}
use Rattle.text_gaps.specs.GapMemoryLaws.{part_same, part_most}
use Rattle.text_gaps.proofs.gap_reader.part.Goals as goal

pub returns-then-n-le255 : goal.returns-then-n-le255
returns-then-n-le255 c = sym (part_same c.args.n (omega arith))

pub returns : goal.returns
returns c = sym (part_most c.args.n (omega arith))
