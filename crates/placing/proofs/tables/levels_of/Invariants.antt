-- The invariant of the loop of `placing::tables::levels_of`.
use Rattle.std.proofs.Common.{◌≡◌, ◌-◌, length}
use Rattle.cell.specs.Built.{level}
use Rattle.placing.specs.Lookup.{Says}
use Rattle.placing.proofs.tables.levels_of.Given as goal

abbrev pub invariant-loop-v : goal.invariant-loop-v
invariant-loop-v l = (l.sum ≡ level l.g (l.v - 1)) × (length l.levels ≡ 9) × Says l.levels l.v (level l.g)
