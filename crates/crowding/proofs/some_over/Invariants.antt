-- The invariant of the loop of `crowding::some_over`.
use Prim.Native.Nat.{◌-◌}
use mathlib.Core.Path.{◌≡◌}
use lib.ListN.{get_or}
use Rattle.word.specs.Lists.{any, row}
use Rattle.crowding.specs.Followers.{over_row, over_some}
use Rattle.crowding.proofs.some_over.Given as goal

abbrev pub invariant-loop-l : goal.invariant-loop-l
invariant-loop-l l =
    over_some l.unused l.highs l.rises l.lows l.falls ≡
    any (λ k. over_row (l.rises - 1 - k) (get_or l.highs k 0) l.unused l.lows l.falls) (row l.l (l.rises - l.l))
