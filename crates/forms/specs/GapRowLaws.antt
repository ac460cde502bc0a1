-- Laws of the gap vectors of an entry that stand in one array: each has all its places, and the
-- first of them, by their width, are those of the entry.
-- Assumes nothing.
use Rattle.std.specs.Prelude.{ℕ, ◌*◌, ◌≤◌, ◌<◌, ◌≡◌, length, get_or, drop}
use Rattle.std.proofs.Common.{arith, sym, ap, ◌∙◌, length-drop, length-take-le, take-take}
use mathlib.Core.List.{List, map, Memᴰ}
use Rattle.word.specs.Ceilings.{COMPONENTS, GAPS, PARTS}
use Rattle.word.specs.Lists.{row}
use Rattle.word.specs.ListLaws.{map_same, row_out}
use Rattle.forms.specs.SchemeMemory.{padded, parts_at, gap_at}
use Rattle.forms.specs.MemoryLaws.{padded_within}
use Rattle.forms.specs.GapRows.{vector_at, gaps_of}
use Rattle.forms.specs.declared.memory.Entry.{Entry}

-- each vector of an array that has room for GAPS of them has all its places
pub length_parts : (l : List ℕ) (j : ℕ) → length l ≡ PARTS → j < GAPS → length (parts_at l j) ≡ COMPONENTS
length_parts l j h k =
    let inside : COMPONENTS ≤ length (drop (COMPONENTS * j) l) = omega (arith, length-drop (COMPONENTS * j) l) in
    length-take-le COMPONENTS (drop (COMPONENTS * j) l) inside

-- the first n vectors of an entry, where all of them have this width
pub gaps_stand : (e : Entry) (width n : ℕ) → length e.gaps ≡ PARTS → width ≤ COMPONENTS → n ≤ GAPS →
    ((j : ℕ) → j < n → get_or e.widths j 0 ≡ width) → gaps_of e.gaps width n ≡ map (gap_at e) (row 0 n)
unfolding gaps_of
gaps_stand e width n all h few wide =
    map_same (vector_at e.gaps width) (gap_at e) (row 0 n) (λ (j : ℕ) (m : Memᴰ j (row 0 n)). at j (omega (arith, row_out 0 n m)))
  where
    at : (j : ℕ) → j < n → vector_at e.gaps width j ≡ gap_at e j
    at j l =
        let seven = length_parts e.gaps j all (omega arith) in
        sym (take-take width COMPONENTS (drop (COMPONENTS * j) e.gaps) h) ∙
        sym (padded_within width (parts_at e.gaps j) (omega (arith, seven))) ∙
        ap (λ w. padded w (parts_at e.gaps j)) (sym (wide j l))
