-- The invariant of the loop of `crowding::row_over`.
use Prim.Native.Nat.{◌-◌}
use mathlib.Core.Path.{◌≡◌}
use Rattle.word.specs.Lists.{any, row}
use Rattle.crowding.specs.Followers.{over_at, over_row}
use Rattle.crowding.proofs.row_over.Given as goal

abbrev pub invariant-loop-m : goal.invariant-loop-m
invariant-loop-m l =
    over_row l.room l.high l.unused l.lows l.falls ≡ any (over_at l.room l.high l.unused l.lows l.falls) (row l.m (l.falls - l.m))
