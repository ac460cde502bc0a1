-- The tests of an entry in memory: what its fields say of the lists that they stand for, and what
-- test 2 leaves of a scheme.
-- Assumes nothing.
use Prim.Native.Nat.{ℕ, suc, ◌+◌, ◌≤◌, ◌<◌}
use mathlib.Core.Path.{◌≡◌, refl, sym, ap, ◌∙◌}
use mathlib.Core.Bool.{Bool, true, false, not, ◌||◌}
use mathlib.Core.List.{List, [], ◌∷◌, map}
use native.Mathlib.Numerals.{add-one}
use native.Mathlib.Omega.{arith}
use lib.Dec.{leb, ltb, eqb}
use lib.ListN.{length, get_or, take, drop, drop_of_length-le}
use lib.Seq.{drop-cons, get_or-take}
use borrow.Author.Tests.{ltb-false, lt-ltb, le-ltb, le-leb, lt-leb, eq-eqb, ne_eqb}
use Rattle.word.specs.Ceilings.{ENTRIES, PREFIX, COMPONENTS, GAPS, TOTAL}
use Rattle.word.specs.Lists.{any, row}
use Rattle.word.specs.ListLaws.{true_not_false}
use Rattle.word.specs.Word.{within}
use Rattle.word.specs.Finding.{Finding, clean, fault, test, first_fault}
use Rattle.word.specs.declared.refusal.Refusal.TheVariants.{Oversize}
use Rattle.cell.specs.Cell.{total}
use Rattle.forms.specs.SchemeList.{Does, EntryList}
use Rattle.scheme.specs.WellFormed.{first_at, large_gap, large_entry, wrong_width, astray, outside}
use Rattle.scheme.specs.PositionLaws.{positions_inside}
use Rattle.forms.specs.SchemeMemory.{padded, parts_at, no_entry, gap_in, six_of, positions_in, does_of, entry_in, gap_at, entry_at}
use Rattle.forms.specs.SchemeMemory.{scheme_in, fault_of}
use Rattle.scheme.specs.Sized.{SizedEntry, Sized}
use Rattle.forms.specs.declared.memory.Gap.{Gap}
use Rattle.forms.specs.declared.memory.Positions.{Positions}
use Rattle.forms.specs.declared.memory.Rule.{Rule}
use Rattle.forms.specs.declared.memory.Rule.TheVariants.{Delete}
use Rattle.forms.specs.declared.memory.Entry.{Entry}
use Rattle.forms.specs.declared.memory.Scheme.{Scheme}
use Rattle.std.specs.Prelude.{Ok}
use Rattle.scheme.specs.TestLaws.{from, first_clean, any_clean, or_left, or_right, length_items, first_start, any_start, single, clean_of}
use Rattle.forms.specs.MemoryLaws.{padded_within, length_padded, padded_zero}

-- the total of what is left of a vector
module _ (p : List ℕ) (n : ℕ) (h : n ≤ length p) where
  pub total_more : (i : ℕ) → i < n → total (drop i (padded n p)) ≡ get_or p i 0 + total (drop (i + 1) (padded n p))
  unfolding total
  total_more i k =
      let long : i < length (padded n p) = omega (arith, length_padded n p) in
      rw (drop-cons (padded n p) i 0 long, add-one i)
      (ap (λ (x : ℕ). x + total (drop (suc i) (padded n p))) (rw (padded_within n p h) (get_or-take n p i 0 k)))

  pub total_none : (i : ℕ) → n ≤ i → total (drop i (padded n p)) ≡ 0
  unfolding total
  total_none i k = go (drop i (padded n p)) (drop_of_length-le (padded n p) {i = i} (omega (arith, length_padded n p)))
    where
      go : (l : List ℕ) → l ≡ [] → total l ≡ 0
      go l e = rw e refl

-- a vector that is too wide, and one whose total decides
module _ (b : Gap) where
  pub gap_wide : COMPONENTS < b.width → large_gap (gap_in b) ≡ true
  gap_wide h = rw (length_padded b.width b.parts, lt-ltb COMPONENTS b.width h) refl

  pub gap_by_total : b.width ≤ COMPONENTS → large_gap (gap_in b) ≡ ltb TOTAL (total (gap_in b))
  gap_by_total h = rw (length_padded b.width b.parts, le-ltb COMPONENTS b.width h) refl

-- an entry that is too long or has too many vectors, and one whose vectors decide
module _ (e : Entry) where
  pub entry_long : PREFIX < e.length → large_entry (entry_in e) ≡ true
  entry_long h = rw (length_padded e.length e.prefix, lt-ltb PREFIX e.length h) refl

  pub entry_many : e.length ≤ PREFIX → GAPS < e.gap_count → large_entry (entry_in e) ≡ true
  entry_many k h =
      rw (
        length_padded e.length e.prefix,
        le-ltb PREFIX e.length k,
        length_items (gap_at e) e.gap_count,
        lt-ltb GAPS e.gap_count h,
      ) refl

  pub entry_by_gaps : e.length ≤ PREFIX → e.gap_count ≤ GAPS → large_entry (entry_in e) ≡ any large_gap (from (gap_at e) e.gap_count 0)
  entry_by_gaps k h =
      rw (
        length_padded e.length e.prefix,
        le-ltb PREFIX e.length k,
        length_items (gap_at e) e.gap_count,
        le-ltb GAPS e.gap_count h,
      )
      (any_start large_gap (gap_at e) e.gap_count)

-- the width of a vector in test 6
module _ (e : Entry) where
  -- a vector has another number of components than one more than the prefix has
  abbrev pub other_width : List ℕ → Bool
  other_width b = not (eqb (length b) (suc e.length))

  pub width_by_gaps : wrong_width (entry_in e) ≡ any other_width (from (gap_at e) e.gap_count 0)
  width_by_gaps = rw (length_padded e.length e.prefix) (any_start other_width (gap_at e) e.gap_count)

  module _ (j w : ℕ) (is : w ≡ get_or e.widths j 0) where
    as_wide : length (gap_at e j) ≡ w
    as_wide = length_padded (get_or e.widths j 0) (parts_at e.gaps j) ∙ sym is

    pub width_other : (w ≡ e.length + 1 → ⊥) → other_width (gap_at e j) ≡ true
    width_other h = rw (as_wide, ne_eqb w (suc e.length) (λ (q : w ≡ suc e.length). h (omega arith))) refl

    pub width_right : w ≡ e.length + 1 → other_width (gap_at e j) ≡ false
    width_right h = rw (as_wide, eq-eqb w (suc e.length) (omega arith)) refl

-- a set of positions in test 7
module _ (k : ℕ) (rule : Rule) (d : Positions) (told : rule ≡ Delete d) where
  size : length (positions_in d) ≡ d.count
  size = length_padded d.count (six_of d)

  pub outside_none : d.count ≡ 0 → outside k (does_of rule) ≡ true
  outside_none h = rw (told, size, h) refl

  -- one that has more positions than have a name is not read further: the next would be 0
  pub outside_many : PREFIX < d.count → outside k (does_of rule) ≡ true
  unfolding within
  outside_many h = go (outside k (does_of rule)) refl
    where
      go : (b : Bool) → outside k (does_of rule) ≡ b → b ≡ true
      go true e = refl
      go false e =
          let inside = positions_inside k (positions_in d) (sym (ap (λ (x : Rule). outside k (does_of x)) told) ∙ e) in
          absurd (true_not_false (sym inside ∙ padded_zero (within k) d.count (six_of d) refl
          (omega (arith, length_padded PREFIX d.positions))))

  pub outside_rises : (d.count ≡ 0 → ⊥) → d.count ≤ PREFIX → outside k (does_of rule) ≡ astray k 0 (take d.count (six_of d))
  outside_rises n h =
      rw (told, size, ne_eqb d.count 0 n) (ap (astray k 0)
      (padded_within d.count (six_of d) (omega (arith, length_padded PREFIX d.positions))))

-- the positions from i on, behind the position a
module _ (k : ℕ) (l : List ℕ) where
  abbrev pub astray_from : ℕ → ℕ → Bool
  astray_from a i = astray k a (drop i l)

  step : (a i : ℕ) → i < length l → astray_from a i ≡ (leb (get_or l i 0) a || ltb k (get_or l i 0)) || astray_from (get_or l i 0) (i + 1)
  step a i b = rw (drop-cons l i 0 b, add-one i) refl

  pub falls_here : (a i : ℕ) → i < length l → get_or l i 0 ≤ a → astray_from a i ≡ true
  falls_here a i b e = step a i b ∙ rw (le-leb (get_or l i 0) a e) refl

  pub beyond_here : (a i : ℕ) → i < length l → a < get_or l i 0 → k < get_or l i 0 → astray_from a i ≡ true
  beyond_here a i b e f = step a i b ∙ rw (lt-leb (get_or l i 0) a e, lt-ltb k (get_or l i 0) f) refl

  pub rises_here : (a i : ℕ) → i < length l → a < get_or l i 0 → get_or l i 0 ≤ k → astray_from a i ≡ astray_from (get_or l i 0) (i + 1)
  rises_here a i b e f = step a i b ∙ rw (lt-leb (get_or l i 0) a e, le-ltb k (get_or l i 0) f) refl

  pub rises_to_end : (a i : ℕ) → length l ≤ i → astray_from a i ≡ false
  rises_to_end a i b = rw (drop_of_length-le l b) refl

pub outside_length : (n : ℕ) (l : List ℕ) (d : Does) → outside (length (padded n l)) d ≡ outside n d
outside_length n l d = rw (length_padded n l) refl

-- test 2 of a scheme
abbrev pub large_finding : List EntryList → Finding
large_finding E = first_fault (test Oversize (ltb ENTRIES (length E)) ∷ first_at Oversize large_entry 0 E ∷ [])

module _ (s : Scheme) where
  pub scheme_many : ENTRIES < s.count → large_finding (scheme_in s) ≡ fault Oversize 0
  scheme_many h = rw (length_items (entry_at s) s.count, lt-ltb ENTRIES s.count h) refl

  pub scheme_by_entries : s.count ≤ ENTRIES → large_finding (scheme_in s) ≡ first_at Oversize large_entry 0 (from (entry_at s) s.count 0)
  scheme_by_entries h =
      rw (length_items (entry_at s) s.count, le-ltb ENTRIES s.count h)
      (single (first_at Oversize large_entry 0 (scheme_in s)) ∙ first_start Oversize large_entry (entry_at s) s.count)

-- what test 2 leaves
clean_test : (b : Bool) (x : Finding) → first_fault (test Oversize b ∷ x ∷ []) ≡ clean → (b ≡ false) × (x ≡ clean)
clean_test true x e = let z : ◌≡◌ {A = ℕ} 0 1 = cc in absurd (omega arith)
clean_test false x e = (refl, sym (single x) ∙ e)

-- an entry in which test 2 finds nothing
pub sized_entry : (e : Entry) → large_entry (entry_in e) ≡ false → SizedEntry e
sized_entry e h =
    let n = e.gap_count in
    let long = ltb PREFIX (length (padded e.length e.prefix)) in
    let many = ltb GAPS (length (map (gap_at e) (row 0 n))) in
    let gaps = any large_gap (map (gap_at e) (row 0 n)) in
    let rest : many || gaps ≡ false = or_right long (many || gaps) h in
    let first = ltb-false PREFIX (length (padded e.length e.prefix)) (or_left long (many || gaps) h) in
    let second = ltb-false GAPS (length (map (gap_at e) (row 0 n))) (or_left many gaps rest) in
    record {
      short = omega (arith, first, length_padded e.length e.prefix);
      few = omega (arith, second, length_items (gap_at e) n);
      narrow = λ (j : ℕ) (k : j < n).
          let small = any_clean (gap_at e) large_gap n j (or_right many gaps rest) k in
          let wide = ltb-false COMPONENTS (length (gap_at e j))
          (or_left (ltb COMPONENTS (length (gap_at e j))) (ltb TOTAL (total (gap_at e j))) small) in
          omega (arith, wide, length_padded (get_or e.widths j 0) (parts_at e.gaps j));
    }

-- a scheme in which test 2 finds nothing lies within the ceilings
pub sized_of_clean : (s : Scheme) → Ok tt ≡ fault_of (large_finding (scheme_in s)) → Sized s
sized_of_clean s h =
    let parts = clean_test (ltb ENTRIES (length (scheme_in s))) (first_at Oversize large_entry 0 (scheme_in s))
    (clean_of (large_finding (scheme_in s)) (sym h)) in
    record {
      few = omega (arith, ltb-false ENTRIES (length (scheme_in s)) parts.0, length_items (entry_at s) s.count);
      each = λ (i : ℕ) (k : i < s.count). sized_entry (get_or s.entries i no_entry)
          (first_clean (entry_at s) Oversize large_entry s.count i parts.1 k);
    }
