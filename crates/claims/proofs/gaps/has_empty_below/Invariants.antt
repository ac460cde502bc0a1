-- The invariant of the loop of `claims::gaps::has_empty_below`.
use Prim.Native.Nat.{◌+◌}
use mathlib.Core.Path.{◌≡◌}
use lib.ListN.{take}
use Rattle.word.specs.CopyLaws.{found}
use Rattle.cell.specs.Cell.{total}
use Rattle.candidate.proofs.CandidateWalk.{from_total}
use Rattle.claims.specs.EmptyBelow.{empty_below}
use Rattle.claims.proofs.GapClaimLaws.{shows}
use Rattle.forms.specs.SetMemory.{held_in}
use Rattle.claims.proofs.gaps.has_empty_below.Given as goal

abbrev pub invariant-loop-t : goal.invariant-loop-t
invariant-loop-t l =
    empty_below (held_in l.patterns) (take l.k l.at.prefix) (take (l.k + 1) l.parts) l.k ≡
    found (from_total (shows (held_in l.patterns) l.at.prefix l.k l.parts) l.k (total (take (l.k + 1) l.parts)) l.t)
