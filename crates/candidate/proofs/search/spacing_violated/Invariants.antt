-- The invariant of the loop of `candidate::search::spacing_violated`.
use Rattle.std.proofs.Common.{take}
use Rattle.forms.specs.SetMemory.{held_in}
use Rattle.candidate.proofs.CandidateWalk.{Passed}
use Rattle.candidate.proofs.search.spacing_violated.Given as goal

abbrev pub invariant-loop-i : goal.invariant-loop-i
invariant-loop-i l = Passed (held_in l.patterns) l.needs (take l.spot.length l.spot.prefix) l.spot.gone l.spot.levels l.spot.total l.i
