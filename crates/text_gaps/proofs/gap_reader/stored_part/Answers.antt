-- `text_gaps::gap_reader::stored_part` meets its contract: within the array the component is
-- stored, behind it only counted.
-- Assumes nothing.
use mathlib.Core.Path.{◌≡◌}
use native.Mathlib.Omega.{arith}
use lib.ListN.{length}
use Rattle.text_gaps.proofs.GapTextLaws.{part_kept, part_counted}
use borrow.Author.Rules.{rules}
use Rattle.text_gaps.proofs.gap_reader.stored_part.Goals as goal

pub returns-then-k-lt-COMPONENTS : goal.returns-then-k-lt-COMPONENTS
returns-then-k-lt-COMPONENTS c = part_kept c.args.gap c.args.n c.part-b.result c.part-b.ensures

pub returns : goal.returns
returns c =
    let e : length c.args.gap.parts ≡ 7 = search rules in
    part_counted c.args.gap c.args.n (omega arith)
