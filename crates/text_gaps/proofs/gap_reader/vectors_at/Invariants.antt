-- The invariant and the measure of the loop of `text_gaps::gap_reader::vectors_at`.
use Rattle.std.proofs.Common.{◌-◌, length}
use Rattle.text_gaps.proofs.GapTextLaws.{VectorsTo}
use Rattle.text_gaps.proofs.gap_reader.vectors_at.Given as goal

abbrev pub invariant-loop-g : goal.invariant-loop-g
invariant-loop-g l = VectorsTo l.s l.initial.next.at l.gaps l.next.at

abbrev pub decreases-loop-g : goal.decreases-loop-g
decreases-loop-g l = length l.s - l.next.at
