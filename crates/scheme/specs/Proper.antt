-- What the tests leave: of a pattern, of an entry, and of a scheme list. Definitions only.
use Rattle.std.specs.Prelude.{ℕ, suc, ◌≤◌, ◌<◌, ◌≡◌, true, false, length}
use mathlib.Core.List.{List, [], Memᴰ}
use Rattle.word.specs.Ceilings.{DIGITS, ENTRIES, PREFIX, GAPS, TOTAL}
use Rattle.word.specs.Word.{is_perm}
use Rattle.cell.specs.Cell.{total}
use Rattle.forms.specs.SchemeList.{expands, EntryList}
use Rattle.scheme.specs.WellFormed.{outside, listed, lacks_child, lacks_target, prefixes}

-- a pattern that went through the tests 2 and 3
pub record ProperPattern (β : List ℕ) : Type 0 where
  pub perm : is_perm β ≡ true
  pub short : length β ≤ DIGITS

-- an entry of a scheme list in which the tests 2 to 9 find nothing
pub record ProperEntry (e : EntryList) : Type 0 where
  pub perm : is_perm e.prefix ≡ true
  pub short : length e.prefix ≤ PREFIX
  pub few : length e.gaps ≤ GAPS
  pub wide : (b : List ℕ) → Memᴰ b e.gaps → length b ≡ suc (length e.prefix)
  pub small : (b : List ℕ) → Memᴰ b e.gaps → total b ≤ TOTAL
  pub inside : outside (length e.prefix) e.rule ≡ false
  -- an expanding entry has children, which are one longer
  pub shorter : e.rule ≡ expands → length e.prefix < PREFIX

-- the list itself: its entries, and what the tests 5, 8 and 9 leave
pub record Proper (E : List EntryList) : Type 0 where
  pub few : length E ≤ ENTRIES
  pub each : (e : EntryList) → Memᴰ e E → ProperEntry e
  pub root : listed (prefixes E) [] ≡ true
  pub child : (e : EntryList) → Memᴰ e E → lacks_child (prefixes E) e.prefix e.rule ≡ false
  pub target : (e : EntryList) → Memᴰ e E → lacks_target (prefixes E) e.prefix e.rule ≡ false
