-- `judge::judging::judge_claims`: what is added up and the entries from the index on are all
-- compared cells.
use Rattle.std.proofs.Common.{◌≡◌, ◌≤◌, ◌+◌, ◌*◌}
use Rattle.word.specs.Ceilings.{ENTRIES}
use Rattle.forms.specs.SchemeMemory.{scheme_in}
use Rattle.verdict.specs.Verdict.{compared_cells_under}
use Rattle.claims.specs.EntryMemory.{COMPARED}
use Rattle.judge.proofs.EntryWalkLaws.{cells_from}
use Rattle.judge.proofs.judging.judge_claims.Given as goal

abbrev pub invariant-loop-i : goal.invariant-loop-i
invariant-loop-i l =
    (l.scheme.count ≤ ENTRIES) × (l.cells ≤ COMPARED * l.i) ×
    (compared_cells_under l.m (scheme_in l.scheme) ≡ l.cells + cells_from l.m l.scheme l.scheme.count l.i)
