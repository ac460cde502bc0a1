-- The invariant of the loop of `count_plain::spacings::held`.
use Prim.Native.Nat.{◌+◌}
use lib.ListN.{take}
use Rattle.count_plain.specs.PieceLaws.{Walk}
use Rattle.count_plain.proofs.spacings.held.Given as goal

abbrev pub invariant-loop-i : goal.invariant-loop-i
invariant-loop-i l = Walk (take (l.k + 1) l.g) l.k l.s l.i l.left
