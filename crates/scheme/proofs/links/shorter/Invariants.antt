-- The invariant and the measure of the loop of `scheme::links::shorter`.
use Prim.Native.Nat.{◌+◌}
use mathlib.Core.Path.{◌≡◌}
use lib.ListN.{length, take, drop}
use Rattle.word.specs.Ceilings.{PREFIX}
use Rattle.cell.specs.Cell.{deleted}
use Rattle.scheme.proofs.links.shorter.Given as goal

abbrev pub invariant-loop-t : goal.invariant-loop-t
invariant-loop-t l =
    (l.n + length l.positions ≡ length l.prefix + l.t) × (length l.digits ≡ PREFIX) ×
    (take l.n l.digits ≡ deleted (drop l.t l.positions) l.prefix)
