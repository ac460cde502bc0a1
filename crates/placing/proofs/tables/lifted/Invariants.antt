-- The invariant of the loop of `placing::tables::lifted`.
use Prim.Native.Nat.{suc, ◌+◌, ◌-◌, ◌≤◌}
use mathlib.Core.Path.{◌≡◌}
use Rattle.placing.specs.Lookup.{entry_of}
use Rattle.placing.proofs.LookupLaws.{lower}
use Rattle.placing.proofs.tables.lifted.Given as goal

abbrev pub invariant-loop-v : goal.invariant-loop-v
invariant-loop-v l =
    (l.r ≤ l.s + l.v) ×
    (l.r + lower (entry_of l.levels) l.s l.v (suc l.k - l.v) ≡ l.s + lower (entry_of l.levels) l.s 1 (suc l.k - 1))
