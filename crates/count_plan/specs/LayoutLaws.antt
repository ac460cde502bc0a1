-- Laws of a scheme in which the tests find nothing, of the places of its entries, and of the rows
-- that the table keeps.
use Rattle.std.specs.Prelude.{ℕ, zero, suc, max, ◌+◌, ◌*◌, ◌-◌, ◌≤◌, ◌<◌, ◌≡◌, refl, ◌⊎◌, length, get_or, set, replicate}
use Rattle.std.proofs.Common.{add-one, arith, sym, ap, ap₂, ◌∙◌, inl, inr, length-set, get_or-set_same, get_or-set_other}
use Rattle.std.proofs.Math.Path.{fun_ext}
use mathlib.Core.List.Memᴰ
use mathlib.Core.List.{List, [], ◌∷◌, map, map-append, map-map, Memᴰ}
use Rattle.std.proofs.lemmas.List.{length-replicate}
use Rattle.word.specs.Ceilings.{ENTRIES, PREFIX, COMPONENTS, GAPS, LENGTH}
use Rattle.word.specs.Lists.{row}
use Rattle.word.specs.ListLaws.{same_or_not, row_in, get_or_zeros}
use Rattle.cell.specs.Cell.{total}
use Rattle.cell.specs.Binomial.{binomial}
use Rattle.spacing.specs.Sizes.{CHOICES, NEAR}
use Rattle.spacing.specs.TotalLaws.{total_append, row_cut}
use Rattle.spacing.specs.PascalLaws.{binomial_small}
use Rattle.forms.specs.SchemeList.{Does, expands, deletes, EntryList}
use Rattle.forms.specs.SchemeMemory.{no_entry, scheme_in}
use Rattle.forms.specs.MemoryLaws.{length_padded}
use Rattle.forms.specs.declared.memory.Scheme.{Scheme}
use Rattle.scheme.specs.WellFormed.{outside}
use Rattle.scheme.specs.PositionLaws.{positions_few}
use Rattle.scheme.specs.Proper.{ProperEntry}
use Rattle.scheme.specs.ProperLaws.{proper_count, proper_at}
use Rattle.scheme.specs.EntryMemoryLaws.{entry_short as short-length, entry_few, gap_width as width_of_lem}
use Rattle.count_plan.specs.Layout.{entry_at, prefix_at, length_at, place_at, width_of, deleted_by, largest_set, rows_of}
use Rattle.count_plan.specs.Plan.{Places}
use Rattle.scheme.specs.Proper.{Proper}

-- the length of a prefix
pub prefix_length : (s : Scheme) (i : ℕ) → length (prefix_at s i) ≡ length_at s i
prefix_length s i = length_padded (length_at s i) (get_or s.entries i no_entry).prefix

-- the entry with index i is one of the entries
pub entry_member : (s : Scheme) (i : ℕ) → i < s.count → Memᴰ (entry_at s i) (scheme_in s)
entry_member s i h = Memᴰ.map (entry_at s) (row_in 0 s.count i (omega arith) (omega arith))

module _ (s : Scheme) (proper : Proper (scheme_in s)) where
  pub count_few : s.count ≤ ENTRIES
  count_few = proper_count s proper

  pub entry_proper : (i : ℕ) → i < s.count → ProperEntry (entry_at s i)
  entry_proper i h = proper_at s proper i h

  pub entry_short : (i : ℕ) → i < s.count → length_at s i ≤ PREFIX
  entry_short i h = short-length (get_or s.entries i no_entry) (entry_proper i h)

  -- the gap vectors in memory
  pub gaps_few : (i : ℕ) → i < s.count → (get_or s.entries i no_entry).gap_count ≤ GAPS
  gaps_few i h = entry_few (get_or s.entries i no_entry) (entry_proper i h)

  pub gap_width : (i : ℕ) → i < s.count → (v : ℕ) → v < (get_or s.entries i no_entry).gap_count →
      get_or (get_or s.entries i no_entry).widths v 0 ≡ length_at s i + 1
  gap_width i h v l = omega (arith, width_of_lem (get_or s.entries i no_entry) (entry_proper i h) v l)

-- Places

pub place_next : (n : ℕ) (s : Scheme) (i : ℕ) → place_at n s (i + 1) ≡ place_at n s i + binomial n (length_at s i)
unfolding place_at
place_next n s i = rw (add-one i) refl

place_step : (n : ℕ) (s : Scheme) (i : ℕ) → place_at n s (suc i) ≡ place_at n s i + binomial n (length_at s i)
unfolding place_at
place_step n s i = refl

pub place_small : (n : ℕ) (s : Scheme) (i : ℕ) → n ≤ LENGTH → place_at n s i ≤ i * CHOICES
unfolding place_at
place_small n s zero h = omega arith
place_small n s (suc i) h = omega (arith, place_small n s i h, binomial_small n (length_at s i) h)

-- the cells of an entry end before those of a later one begin
place_later : (n : ℕ) (s : Scheme) (d m : ℕ) → place_at n s d + binomial n (length_at s d) ≤ place_at n s (suc d + m)
place_later n s d zero = let e : suc d + 0 ≡ suc d = omega arith in rw e (omega (arith, place_step n s d))
place_later n s d (suc m) =
    let e : suc d + suc m ≡ suc (suc d + m) = omega arith in
    rw e (omega (arith, place_later n s d m, place_step n s (suc d + m)))

pub place_apart : (n : ℕ) (s : Scheme) (d e : ℕ) → d < e → place_at n s d + binomial n (length_at s d) ≤ place_at n s e
place_apart n s d e h =
    let q : suc d + (e - suc d) ≡ e = omega arith in
    let l : place_at n s (suc d + (e - suc d)) ≡ place_at n s e = ap (place_at n s) q in
    omega (arith, place_later n s d (e - suc d))

-- the width of a row, as a sum over the entries

place_sum : (n : ℕ) (s : Scheme) (i : ℕ) → place_at n s i ≡ total (map (λ d. binomial n (length_at s d)) (row 0 i))
unfolding place_at total
place_sum n s zero = refl
place_sum n s (suc i) =
    let e : 0 + i ≡ i = omega arith in
    let l : binomial n (length_at s (0 + i)) ≡ binomial n (length_at s i) = ap (λ d. binomial n (length_at s d)) e in
    omega (
      arith,
      place_sum n s i,
      ap (λ (v : List ℕ). total (map (λ d. binomial n (length_at s d)) v)) (ap (row 0) (sym (add-one i)) ∙ row_cut 0 i 1) ∙
          ap total (map-append (λ d. binomial n (length_at s d)) (row 0 i) ((0 + i) ∷ [])) ∙
          total_append (map (λ d. binomial n (length_at s d)) (row 0 i)) (binomial n (length_at s (0 + i)) ∷ []),
    )

-- "the sum of C(n, k) over all entries, k being the entry's length" (01)
pub width_sum : (n : ℕ) (s : Scheme) → width_of n s ≡ total (map (λ e. binomial n (length e.prefix)) (scheme_in s))
width_sum n s =
    place_sum n s s.count ∙
    ap (λ (f : ℕ → ℕ). total (map f (row 0 s.count))) (fun_ext (λ d. ap (binomial n) (sym (prefix_length s d)))) ∙
    ap total (sym (map-map (λ (e : EntryList). binomial n (length e.prefix)) (entry_at s) (row 0 s.count)))

-- Filling the places in memory: those up to i, and the place of the entry with index i
pub record PlacesTo (n : ℕ) (s : Scheme) (i : ℕ) (places : List ℕ) (at : ℕ) : Type 0 where
  pub size : length places ≡ ENTRIES + 1
  pub upto : (d : ℕ) → d ≤ i → get_or places d 0 ≡ place_at n s d
  pub here : at ≡ place_at n s i
  pub near : (d : ℕ) → get_or places d 0 ≤ NEAR

pub places_start : (n : ℕ) (s : Scheme) → PlacesTo n s 0 (replicate (ENTRIES + 1) 0) 0
unfolding place_at
places_start n s =
    record {
      size = length-replicate {A = ℕ} (ENTRIES + 1) 0;
      upto = λ (d : ℕ) (h : d ≤ 0). let z : d ≡ 0 = omega arith in rw z refl;
      here = refl;
      near = λ (d : ℕ). omega (arith, get_or_zeros (ENTRIES + 1) d);
    }

pub places_more : (n : ℕ) (s : Scheme) (i : ℕ) (places : List ℕ) (at c : ℕ) → PlacesTo n s i places at →
    i < ENTRIES → n ≤ LENGTH → c ≡ binomial n
    (length_at s i) →
    PlacesTo n s (i + 1) (set places (i + 1) (at + c)) (at + c)
places_more n s i places at c p h m e =
    record {
      size = length-set places (i + 1) (at + c) ∙ p.size;
      upto = λ (d : ℕ) (l : d ≤ i + 1). go d l (same_or_not d (i + 1));
      here = next;
      near = λ (d : ℕ). close d (same_or_not d (i + 1));
    }
  where
    next : at + c ≡ place_at n s (i + 1)
    next = omega (arith, p.here, e, place_next n s i)

    stored : (d : ℕ) → d ≡ i + 1 → get_or (set places (i + 1) (at + c)) d 0 ≡ at + c
    stored d q = ap (λ m. get_or (set places (i + 1) (at + c)) m 0) q ∙ get_or-set_same places (i + 1) (at + c) 0 (omega (arith, p.size))

    close : (d : ℕ) → (d ≡ i + 1) ⊎ (d ≡ i + 1 → ⊥) → get_or (set places (i + 1) (at + c)) d 0 ≤ NEAR
    close d (inl q) = omega (arith, stored d q, next, place_small n s (i + 1) m)
    close d (inr q) = omega (arith, get_or-set_other places (i + 1) d (at + c) 0 q, p.near d)

    go : (d : ℕ) → d ≤ i + 1 → (d ≡ i + 1) ⊎ (d ≡ i + 1 → ⊥) → get_or (set places (i + 1) (at + c)) d 0 ≡ place_at n s d
    go d l (inl q) = stored d q ∙ next ∙ ap (place_at n s) (sym q)
    go d l (inr q) = get_or-set_other places (i + 1) d (at + c) 0 q ∙ p.upto d (omega arith)

pub places_end : (n : ℕ) (s : Scheme) (i : ℕ) (places : List ℕ) (at : ℕ) → PlacesTo n s i places at → s.count ≤ i → Places n s places
places_end n s i places at p h = record { at = λ (d : ℕ) (l : d ≤ s.count). p.upto d (omega arith); near = p.near }

-- The rows that the table keeps

-- no entry deletes more positions than the largest set has
largest_over : {e : EntryList} {E : List EntryList} → Memᴰ e E → deleted_by e.rule ≤ largest_set E
largest_over (Memᴰ.head {x = d} {xs = E} q) = omega (arith, ap (λ (x : EntryList). deleted_by x.rule) q)
largest_over (Memᴰ.tail {x = d} {xs = E} m) = omega (arith, largest_over m)

pub set_at_most : (E : List EntryList) (e : EntryList) → Memᴰ e E → deleted_by e.rule ≤ largest_set E
set_at_most E e m = largest_over m

-- the largest is as small as the bound of all
pub sets_below : (k : ℕ) (E : List EntryList) → ((e : EntryList) → Memᴰ e E → deleted_by e.rule ≤ k) → largest_set E ≤ k
sets_below k [] h = omega arith
sets_below k (d ∷ E) h =
    omega (arith, h d (Memᴰ.head refl), sets_below k E (λ (e : EntryList) (m : Memᴰ e E). h e (Memᴰ.tail m)))

-- an entry deletes no more positions than its prefix has
set_few : (e : EntryList) → ProperEntry e → deleted_by e.rule ≤ PREFIX
set_few e p = go e.rule refl
  where
    go : (rule : Does) → e.rule ≡ rule → deleted_by rule ≤ PREFIX
    go expands q = omega arith
    go (deletes R) q =
        omega (arith, positions_few (length e.prefix) R (ap (outside (length e.prefix)) (sym q) ∙ p.inside), p.short)

pub rows_few : (s : Scheme) → Proper (scheme_in s) → rows_of (scheme_in s) ≤ COMPONENTS
rows_few s proper =
    let few : largest_set (scheme_in s) ≤ PREFIX = sets_below PREFIX (scheme_in s)
    (λ (e : EntryList) (m : Memᴰ e (scheme_in s)). set_few e (proper.each e m)) in
    omega arith

-- the largest set by a walk from the last entry down: that of the entries from index i on
abbrev pub LargestFrom : Scheme → ℕ → ℕ → Type 0
LargestFrom s i most = most ≡ largest_set (map (entry_at s) (row i (s.count - i)))

pub largest_start : (s : Scheme) → LargestFrom s s.count 0
largest_start s = let e : s.count - s.count ≡ 0 = omega arith in rw e refl

pub largest_more : (s : Scheme) (i most n : ℕ) → 0 < i → i ≤ s.count → n ≡ deleted_by (entry_at s (i - 1)).rule →
    LargestFrom s i most → LargestFrom s (i - 1) (max n most)
largest_more s i most n low high e l =
    let q : s.count - (i - 1) ≡ suc (s.count - i) = omega arith in
    let r : i ≡ suc (i - 1) = omega arith in
    ap₂ max e (l ∙ ap (λ (a : ℕ). largest_set (map (entry_at s) (row a (s.count - i)))) r) ∙
    ap (λ (m : ℕ). largest_set (map (entry_at s) (row (i - 1) m))) (sym q)

pub largest_end : (s : Scheme) (most : ℕ) → LargestFrom s 0 most → most ≡ largest_set (scheme_in s)
largest_end s most l = let q : s.count - 0 ≡ s.count = omega arith in l ∙ ap (λ (m : ℕ). largest_set (map (entry_at s) (row 0 m))) q
