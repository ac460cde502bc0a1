-- The invariant and the measure of the loop of `candidate::search::total_violated`.
use Rattle.std.proofs.Common.{◌+◌, length, take}
use Rattle.forms.specs.GapRows.{gaps_of}
use Rattle.forms.specs.SetMemory.{held_in}
use Rattle.spacing.specs.Following.{later}
use Rattle.candidate.proofs.CandidateWalk.{Walked}
use Rattle.candidate.proofs.search.total_violated.Given as goal

abbrev pub invariant-spacings : goal.invariant-spacings
invariant-spacings l =
    Walked (held_in l.patterns) (take l.deleted.length l.deleted.prefix) l.deleted.gone
    (gaps_of l.gaps (l.deleted.length + 1) l.deleted.gap_count)
    l.deleted.length l.t (take (l.deleted.length + 1) l.g)

abbrev pub decreases-spacings : goal.decreases-spacings
decreases-spacings l = length (later (take (l.k + 1) l.g))
