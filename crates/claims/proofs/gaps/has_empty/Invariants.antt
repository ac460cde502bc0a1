-- The invariant and the measure of the loop of `claims::gaps::has_empty`.
use Prim.Native.Nat.{suc, ◌+◌}
use mathlib.Core.Path.{◌≡◌}
use mathlib.Core.List.{◌∷◌}
use lib.ListN.{length, take}
use Rattle.word.specs.Lists.{first}
use Rattle.cell.specs.Cell.{total, vectors}
use Rattle.spacing.specs.Following.{later}
use Rattle.claims.proofs.GapClaimLaws.{shows}
use Rattle.forms.specs.SetMemory.{held_in}
use Rattle.claims.proofs.gaps.has_empty.Given as goal

abbrev pub invariant-spacings : goal.invariant-spacings
invariant-spacings l =
    (total (take (l.k + 1) l.g) ≡ l.t) ×
    (first (shows (held_in l.patterns) l.at.prefix l.k l.at.parts) (vectors (suc l.k) l.t) ≡
    first (shows (held_in l.patterns) l.at.prefix l.k l.at.parts) (take (l.k + 1) l.g ∷ later (take (l.k + 1) l.g)))

abbrev pub decreases-spacings : goal.decreases-spacings
decreases-spacings l = length (later (take (l.k + 1) l.g))
