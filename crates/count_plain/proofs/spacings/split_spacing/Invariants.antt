-- The invariant of the loop of `count_plain::spacings::split_spacing`.
use Prim.Native.Nat.{◌+◌}
use mathlib.Core.Path.{◌≡◌}
use lib.ListN.{length, take}
use Rattle.word.specs.Ceilings.{COMPONENTS}
use Rattle.count_plain.specs.Pieces.{split_at}
use Rattle.count_plain.proofs.spacings.split_spacing.Given as goal

abbrev pub invariant-loop-j : goal.invariant-loop-j
invariant-loop-j l = (length l.r ≡ COMPONENTS) × (take l.j l.r ≡ take l.j (split_at (take (l.k + 1) l.g) l.i l.left))
