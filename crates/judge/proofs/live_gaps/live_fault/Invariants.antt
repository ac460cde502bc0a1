-- The invariant of the loop of `judge::live_gaps::live_fault`.
use Prim.Native.Nat.{◌≤◌}
use mathlib.Core.Path.{◌≡◌}
use Rattle.word.specs.Ceilings.{ENTRIES}
use Rattle.word.specs.declared.refusal.Refusal.TheVariants.{LiveGap}
use Rattle.scheme.specs.WellFormed.{first_at}
use Rattle.scheme.specs.TestLaws.{from}
use Rattle.forms.specs.SchemeMemory.{scheme_in, entry_at}
use Rattle.forms.specs.SetMemory.{held_in}
use Rattle.judge.proofs.EntryWalkLaws.{live_entry}
use Rattle.judge.proofs.live_gaps.live_fault.Given as goal

abbrev pub invariant-loop-i : goal.invariant-loop-i
invariant-loop-i l =
    (l.s.count ≤ ENTRIES) ×
    (first_at LiveGap (live_entry (held_in l.patterns)) 0 (scheme_in l.s) ≡
    first_at LiveGap (live_entry (held_in l.patterns)) l.i (from (entry_at l.s) l.s.count l.i))
