-- The invariant of the loop of `placing::tables::kept`.
use Rattle.std.proofs.Common.{◌≡◌, ◌≤◌, ◌++◌, length, take, drop}
use Rattle.placing.specs.Tabled.{kept_values}
use Rattle.placing.proofs.tables.kept.Given as goal

abbrev pub invariant-loop-a : goal.invariant-loop-a
invariant-loop-a l =
    (l.n ≤ l.a-index) × (length l.entries ≡ 20) ×
    (take l.n l.entries ++ kept_values l.levels l.gone (drop l.a-index l.prefix) ≡ kept_values l.levels l.gone l.prefix)
