-- The invariant of the loop of `placing::tables::with_rest`.
use Rattle.std.proofs.Common.{ℕ, ◌≡◌, ◌+◌, ◌≤◌, List, ◌++◌, map, length, take, drop}
use Rattle.cell.specs.Built.{lift}
use Rattle.placing.specs.Lookup.{entry_of}
use Rattle.placing.specs.Tabled.{Reached}
use Rattle.placing.proofs.tables.with_rest.Given as goal

abbrev pub invariant-loop-y : goal.invariant-loop-y
invariant-loop-y l =
    (l.n ≤ 6 + l.y-index) × (length l.entries ≡ 20) ×
    ((g : List ℕ) → Reached l.rest l.need l.levels l.k g →
    take l.n l.entries ++ map (λ y. lift g (entry_of l.need y)) (drop l.y-index l.rest)
    ≡ take l.initial.n l.initial.entries ++ map (λ y. lift g (entry_of l.need y)) l.rest)
