-- The invariant of the loop of `placing::tables::deleted_values`.
use Rattle.std.proofs.Common.{ℕ, ◌≡◌, ◌<◌, ◌||◌, length, map, drop}
use Rattle.word.specs.Word.{has, entry}
use Rattle.placing.specs.Lookup.{flagged}
use Rattle.placing.proofs.tables.deleted_values.Given as goal

abbrev pub invariant-loop-position : goal.invariant-loop-position
invariant-loop-position l =
    (length l.gone ≡ 9) × ((v : ℕ) → v < 9 →
    flagged l.gone v || has v (map (entry l.prefix) (drop l.position-index l.positions)) ≡ has v (map (entry l.prefix) l.positions))
