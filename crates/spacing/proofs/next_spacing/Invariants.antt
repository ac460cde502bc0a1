-- The invariant of the loop of `spacing::next_spacing`.
use Rattle.std.proofs.Common.{◌-◌}
use Rattle.spacing.proofs.SpacingMemory.{Seen}
use Rattle.spacing.proofs.next_spacing.Given as goal

abbrev pub invariant-loop-j : goal.invariant-loop-j
invariant-loop-j l = Seen l.g l.k (l.j - 1)
