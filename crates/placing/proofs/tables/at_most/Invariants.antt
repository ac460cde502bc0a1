-- The invariant of the loop of `placing::tables::at_most`.
use Rattle.std.proofs.Common.{◌≡◌, ◌+◌, ◌≤◌, drop}
use Rattle.word.specs.Word.{under}
use Rattle.placing.proofs.tables.at_most.Given as goal

abbrev pub invariant-loop-y : goal.invariant-loop-y
invariant-loop-y l = (l.n ≤ l.y-index) × (l.n + under (drop l.y-index l.entries) l.x ≡ under l.entries l.x)
