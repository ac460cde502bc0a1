-- The invariant and the measure of the loop of `text_gaps::gap_reader::parts_at`.
use Rattle.std.proofs.Common.{false, ◌-◌, length}
use Rattle.text_gaps.proofs.GapTextLaws.{PartsTo}
use Rattle.text_gaps.proofs.gap_reader.parts_at.Given as goal

abbrev pub invariant-loop-n : goal.invariant-loop-n
invariant-loop-n l = PartsTo false l.s l.initial.next.at l.gap l.next.at

abbrev pub decreases-loop-n : goal.decreases-loop-n
decreases-loop-n l = length l.s - l.next.at
