-- A scheme in memory within the ceilings, entry by entry. Definitions only.
use Rattle.std.specs.Prelude.{ℕ, ◌≤◌, ◌<◌, get_or}
use Rattle.word.specs.Ceilings.{ENTRIES, PREFIX, COMPONENTS, GAPS}
use Rattle.forms.specs.SchemeMemory.{no_entry}
use Rattle.forms.specs.declared.memory.Entry.{Entry}
use Rattle.forms.specs.declared.memory.Scheme.{Scheme}

-- the lengths of an entry lie within its arrays
pub record SizedEntry (e : Entry) : Type 0 where
  pub short : e.length ≤ PREFIX
  pub few : e.gap_count ≤ GAPS
  pub narrow : (j : ℕ) → j < e.gap_count → get_or e.widths j 0 ≤ COMPONENTS

-- the entries that the count names are in the array, and each is sized
pub record Sized (s : Scheme) : Type 0 where
  pub few : s.count ≤ ENTRIES
  pub each : (i : ℕ) → i < s.count → SizedEntry (get_or s.entries i no_entry)
