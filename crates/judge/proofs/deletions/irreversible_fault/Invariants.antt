-- The invariant of the loop of `judge::deletions::irreversible_fault`.
use Prim.Native.Nat.{◌≤◌}
use mathlib.Core.Path.{◌≡◌}
use Rattle.word.specs.Ceilings.{ENTRIES}
use Rattle.word.specs.declared.refusal.Refusal.TheVariants.{Irreversible}
use Rattle.scheme.specs.WellFormed.{first_at}
use Rattle.scheme.specs.TestLaws.{from}
use Rattle.forms.specs.SchemeMemory.{scheme_in, entry_at}
use Rattle.forms.specs.SetMemory.{held_in}
use Rattle.judge.proofs.EntryWalkLaws.{differing_entry}
use Rattle.judge.proofs.deletions.irreversible_fault.Given as goal

abbrev pub invariant-loop-i : goal.invariant-loop-i
invariant-loop-i l =
    (l.s.count ≤ ENTRIES) ×
    (first_at Irreversible (differing_entry l.m (held_in l.patterns)) 0 (scheme_in l.s) ≡
    first_at Irreversible (differing_entry l.m (held_in l.patterns)) l.i (from (entry_at l.s) l.s.count l.i))
