-- The invariant of the loop of `count_plain::spacings::merged_spacing`.
use Prim.Native.Nat.{◌+◌, ◌-◌, ◌<◌}
use mathlib.Core.Path.{◌≡◌}
use lib.ListN.{length, take}
use Rattle.word.specs.Ceilings.{COMPONENTS}
use Rattle.spacing.specs.Flagged.{flagged}
use Rattle.count_plain.specs.MergingLaws.{Merging}
use Rattle.count_plain.proofs.spacings.merged_spacing.Given as goal

abbrev pub invariant-loop-v : goal.invariant-loop-v
invariant-loop-v l =
    (l.n < l.v) × (length l.r ≡ COMPONENTS) ×
    Merging (flagged l.gone l.k) (take (l.k + 1) l.g) l.r l.v (l.v - 1 - l.n)
