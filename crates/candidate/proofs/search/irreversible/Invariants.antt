-- The invariant of the loop of `candidate::search::irreversible`.
use Prim.Native.Nat.{ℕ, suc, ◌+◌}
use mathlib.Core.Path.{◌≡◌}
use mathlib.Core.List.{List}
use lib.ListN.{take}
use Rattle.word.specs.Lists.{first, each, row}
use Rattle.cell.specs.Cell.{vectors}
use Rattle.forms.specs.GapRows.{gaps_of}
use Rattle.forms.specs.SetMemory.{held_in}
use Rattle.candidate.specs.Ready.{FlaggedFor}
use Rattle.candidate.proofs.CandidateWalk.{lost, from_total}
use Rattle.candidate.proofs.search.irreversible.Given as goal

abbrev pub invariant-loop-t : goal.invariant-loop-t
invariant-loop-t l =
    (R : List ℕ) → FlaggedFor (held_in l.patterns) (take l.k l.deleted.prefix) R l.deleted.gone →
    first (lost (gaps_of l.gaps (l.k + 1) l.deleted.gap_count) (held_in l.patterns) (take l.k l.deleted.prefix)
    R) (each (vectors (suc l.k)) (row 0 l.fn.deletion.m)) ≡
    from_total (lost (gaps_of l.gaps (l.k + 1) l.deleted.gap_count) (held_in l.patterns) (take l.k l.deleted.prefix) R)
    l.k l.fn.deletion.m l.t
