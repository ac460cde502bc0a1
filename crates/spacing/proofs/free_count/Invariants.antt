-- The invariant and the measure of the loop of `spacing::free_count`.
use Prim.Native.Nat.{◌+◌}
use lib.ListN.{length, take}
use Rattle.cell.specs.Cell.{free}
use Rattle.forms.specs.GapRows.{gaps_of}
use Rattle.spacing.specs.Following.{later}
use Rattle.spacing.proofs.SpacingCount.{Walk}
use Rattle.spacing.proofs.free_count.Given as goal

abbrev pub invariant-loop-count : goal.invariant-loop-count
invariant-loop-count l = Walk (free (gaps_of l.gaps (l.k + 1) l.n)) l.k l.t (take (l.k + 1) l.g) l.count

abbrev pub decreases-loop-count : goal.decreases-loop-count
decreases-loop-count l = length (later (take (l.k + 1) l.g))
