-- The invariant of the loop of `claims::entries::has_live_gap`.
use mathlib.Core.Path.{◌≡◌}
use Rattle.word.specs.Lists.{any}
use Rattle.forms.specs.SchemeMemory.{gap_at, entry_in}
use Rattle.scheme.specs.TestLaws.{from}
use Rattle.verdict.specs.Verdict.{live_gap}
use Rattle.claims.proofs.GapClaimLaws.{live_at}
use Rattle.forms.specs.SetMemory.{held_in}
use Rattle.claims.proofs.entries.has_live_gap.Given as goal

abbrev pub invariant-loop-j : goal.invariant-loop-j
invariant-loop-j l =
    live_gap (held_in l.patterns) (entry_in l.e).prefix (entry_in l.e).gaps ≡
    any (live_at (held_in l.patterns) (entry_in l.e).prefix) (from (gap_at l.e) l.e.gap_count l.j)
