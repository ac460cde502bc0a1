-- The invariant and the measure of the loop of `text_patterns::pattern_reader::items_at`.
use Rattle.std.proofs.Common.{◌-◌, length}
use Rattle.text_patterns.proofs.PatternTextLaws.{made, PatternsTo}
use Rattle.text_patterns.proofs.pattern_reader.items_at.Given as goal

abbrev pub invariant-loop-pattern : goal.invariant-loop-pattern
invariant-loop-pattern l = PatternsTo l.s l.initial.next.at (made l.items l.count) l.next.at

abbrev pub decreases-loop-pattern : goal.decreases-loop-pattern
decreases-loop-pattern l = length l.s - l.next.at
