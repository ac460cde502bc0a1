-- The invariant and the measure of the loop of `text_gaps::positions::positions_at`.
use Rattle.std.proofs.Common.{true, ◌-◌, length}
use Rattle.text_gaps.proofs.GapTextLaws.{PartsTo}
use Rattle.text_gaps.proofs.positions.positions_at.Given as goal

abbrev pub invariant-loop-n : goal.invariant-loop-n
invariant-loop-n l = PartsTo true l.s l.initial.next.at (record { parts = l.parts; width = l.width }) l.next.at

abbrev pub decreases-loop-n : goal.decreases-loop-n
decreases-loop-n l = length l.s - l.next.at
