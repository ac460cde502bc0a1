-- The invariant of the loop of `count_entry::entry::links_from`.
use Prim.Native.Nat.{ℕ, ◌+◌, ◌<◌}
use mathlib.Core.Path.{◌≡◌}
use lib.ListN.{length, get_or}
use Rattle.word.specs.Ceilings.{LINKS}
use Rattle.count_plan.specs.SheetRows.{link_at}
use Rattle.count_entry.proofs.entry.links_from.Given as goal

abbrev pub invariant-loop-a : goal.invariant-loop-a
invariant-loop-a l =
    (length l.from ≡ LINKS) ×
    ((d : ℕ) → d < l.a → get_or l.from d 0 ≡ l.offset + link_at l.sheet l.places l.e d)
