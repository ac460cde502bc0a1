-- The first entries of a cell at a gap vector, as the code makes them, and the gap vectors of an
-- entry from a place on.
-- Assumes nothing.
use Prim.Native.Nat.{ℕ, suc, ◌+◌, ◌≤◌, ◌<◌, min}
use native.Mathlib.Numerals.{add-one}
use native.Mathlib.Omega.{arith}
use mathlib.Core.Path.{◌≡◌, refl, sym, ap, ap₂, ◌∙◌}
use mathlib.Core.Bool.{Bool, true, false, not}
use mathlib.Core.List.{List, [], ◌∷◌, map, Memᴰ}
use lib.ListN.{length, get_or, take, replicate, length-map}
use lib.Seq.{length-take-le}
use Rattle.word.specs.Ceilings.{DIGITS, PREFIX, COMPONENTS, TOTAL, WORD}
use Rattle.word.specs.Lists.{any, keep, each, row}
use Rattle.word.specs.Word.{is_perm}
use Rattle.word.specs.ListLaws.{and_left, and_right, any_out, map_same}
use Rattle.word.specs.PermLaws.{perm_bounds}
use Rattle.cell.specs.Cell.{total, cell, at_least, vectors}
use Rattle.cell.specs.Built.{level, val}
use Rattle.cell.proofs.BuiltWords.{level_at_most}
use Rattle.cell.proofs.Theorems.{gap_law}
use Rattle.placing.specs.Lookup.{entry_of, flagged, Says}
use Rattle.placing.specs.Tabled.{kept_values}
use Rattle.placing.proofs.LookupLaws.{level_more, flag_none}
use Rattle.completion.specs.Completion.{completable}
use Rattle.forms.specs.SchemeMemory.{padded, gap_in, gap_at, entry_in}
use Rattle.forms.specs.MemoryLaws.{padded_within}
use Rattle.scheme.specs.TestLaws.{or_left, from, any_start}
use Rattle.forms.specs.declared.memory.Gap.{Gap}
use Rattle.forms.specs.declared.memory.Entry.{Entry}
use Rattle.verdict.specs.Verdict.{is_empty, live_gap}
use Rattle.verdict.specs.VerdictLaws.{empty_out}
use Rattle.claims.specs.EmptyBelow.{shows_empty, empty_below}
use Rattle.claims.specs.LiveLaws.{completable_live}

-- all elements pass
keep_all : (f : ℕ → Bool) (l : List ℕ) → ((x : ℕ) → Memᴰ x l → f x ≡ true) → keep f l ≡ l
keep_all f [] h = refl
keep_all f (x ∷ l) h = rw (h x (Memᴰ.head refl)) (ap (λ u. x ∷ u) (keep_all f l (λ y m. h y (Memᴰ.tail m))))

-- the level behind the last value is the whole
pub level_whole : (g : List ℕ) → level g (length g) ≡ total g
unfolding level total
level_whole [] = refl
level_whole (x ∷ g) = ap (λ n. x + n) (level_whole g)

-- where nothing is flagged, all values are kept
kept_all : (p g levels : List ℕ) (k : ℕ) → ((a : ℕ) → Memᴰ a p → a ≤ k) → Says levels (k + 1) (level g) → k + total g < 256 →
    kept_values levels (replicate (DIGITS + 1) 0) p ≡ map (val g) p
unfolding kept_values val
kept_all p g levels k low says small =
    ap (map (λ a. min (a + entry_of levels a) 255)) (keep_all (λ a. not (flagged (replicate (DIGITS + 1) 0) a)) p
    (λ a m. ap not (or_left (flagged (replicate (DIGITS + 1) 0) a) false (flag_none (DIGITS + 1) a false)))) ∙
    map_same (λ a. min (a + entry_of levels a) 255) (val g) p at
  where
    at : (a : ℕ) → Memᴰ a p → min (a + entry_of levels a) 255 ≡ a + level g a
    at a m =
        let e : entry_of levels a ≡ level g a = says a (omega (arith, low a m)) in
        let h : a + level g a < 256 = omega (arith, low a m, level_at_most g a) in
        rw e (omega arith)

-- the parts of a vector of k + 1 components; `parts` is its array
pub gap_is : (b : Gap) (k : ℕ) (parts : List ℕ) → b.width ≡ suc k → parts ≡ b.parts → length parts ≡ COMPONENTS →
    k ≤ PREFIX → gap_in b ≡ take (k + 1) parts
gap_is b k parts wide same seven short =
    ap₂ padded (wide ∙ sym (add-one k)) (sym same) ∙ padded_within (k + 1) parts (omega (arith, seven))

-- A spacing of k + 1 components in an array of seven.
module _ (k : ℕ) (parts : List ℕ) (seven : length parts ≡ COMPONENTS) (short : k ≤ PREFIX)
    (small : total (take (k + 1) parts) ≤ TOTAL) (levels : List ℕ)
    (says : Says levels (k + 1) (level (take (k + 1) parts))) where
  spacing_size : length (take (k + 1) parts) ≡ k + 1
  spacing_size = length-take-le (k + 1) parts (omega (arith, seven))

  -- the length of the members of the cell
  pub cell_length : get_or levels k 0 + get_or parts k 0 ≡ total (take (k + 1) parts)
  cell_length =
      ap (λ n. n + get_or parts k 0) (says k (omega arith)) ∙ sym (level_more parts (k + 1) k (omega arith) (omega (arith, seven))) ∙
      ap (level (take (k + 1) parts)) (sym spacing_size) ∙ level_whole (take (k + 1) parts)

  -- the first entries can be completed exactly if the cell is not empty
  pub live_is : (P : List (List ℕ)) (prefix entries : List ℕ) (n len : ℕ) → length prefix ≡ PREFIX →
      is_perm (take k prefix) ≡ true → length entries ≡ WORD →
      len ≤ PREFIX → take len entries ≡ kept_values levels (replicate (DIGITS + 1) 0) (take k prefix) → n ≡
      k + (get_or levels k 0 + get_or parts k 0) →
      completable P n (take k entries) ≡ not (is_empty (cell P (take k prefix) (take (k + 1) parts)))
  live_is P prefix entries n len six perm twenty few kept whole =
      let p = take k prefix in
      let g = take (k + 1) parts in
      let size : length p ≡ k = length-take-le k prefix (omega (arith, six)) in
      let values : take len entries ≡ map (val g) p =
      kept ∙ kept_all p g levels k (λ a m. omega (arith, perm_bounds p perm m, size)) says (omega (arith, small)) in
      let is : len ≡ k = sym (length-take-le len entries (omega (arith, twenty))) ∙ ap length values ∙ length-map p (val g) ∙ size in
      ap₂ (completable P) (whole ∙ ap₂ ◌+◌ (sym size) cell_length) (ap (λ i. take i entries) (sym is) ∙ values) ∙
      completable_live P p g perm (spacing_size ∙ add-one k ∙ ap suc (sym size))

-- a vector with an empty cell that is at most b
module _ (P : List (List ℕ)) (p b : List ℕ) where
  pub shows_not : (g : List ℕ) → at_least b g ≡ false → shows_empty P p b g ≡ false
  unfolding shows_empty
  shows_not g e = rw e refl

  pub shows_if_empty : (g : List ℕ) (live : Bool) → at_least b g ≡ true → live ≡ not (is_empty (cell P p g)) →
      not live ≡ shows_empty P p b g
  unfolding shows_empty
  shows_if_empty g live above e = ap not e ∙ twice (is_empty (cell P p g)) ∙ rw above refl
    where
      twice : (a : Bool) → not (not a) ≡ a
      twice true = refl
      twice false = refl

  -- it shows that the cell at b is empty: the gap law
  shown_empty : (g : List ℕ) → is_perm p ≡ true → shows_empty P p b g ≡ true → cell P p b ≡ []
  unfolding shows_empty
  shown_empty g perm e =
      (gap_law P p g perm).0 (empty_out (cell P p g) (ap not (and_right (at_least b g) (is_empty (cell P p g)) e))) b
      (and_left (at_least b g) (is_empty (cell P p g)) e)

  pub below_empty : (k : ℕ) → is_perm p ≡ true → empty_below P p b k ≡ true → cell P p b ≡ []
  below_empty k perm e =
      let (g, m, q) = any_out (shows_empty P p b) (each (vectors (suc k)) (row 0 (total b))) e in
      shown_empty g perm q

-- the test of a vector against the first k + 1 components of an array
abbrev pub shows : List (List ℕ) → List ℕ → ℕ → List ℕ → List ℕ → Bool
shows P prefix k parts = shows_empty P (take k prefix) (take (k + 1) parts)

-- whether the cell at a vector is not empty
abbrev pub live_at : List (List ℕ) → List ℕ → List ℕ → Bool
live_at P p b = not (is_empty (cell P p b))

pub live_start : (P : List (List ℕ)) (e : Entry) → live_gap P (entry_in e).prefix (entry_in e).gaps ≡
    any (live_at P (entry_in e).prefix) (from (gap_at e) e.gap_count 0)
unfolding live_gap
live_start P e = any_start (live_at P (entry_in e).prefix) (gap_at e) e.gap_count
