-- The cells that the loops of a step go through, component by component, are those of every next
-- entry.
use Prim.Native.Nat.{ℕ, zero, suc, ◌+◌, ◌-◌, ◌≤◌, ◌<◌}
use native.Mathlib.Omega.{arith}
use Rattle.std.specs.Prelude.{◌≡◌}
use Rattle.std.proofs.Math.Path.{refl, sym, ap, ap₂}
use Rattle.std.proofs.Common.{◌∙◌, le-leb}
use mathlib.Core.List.{List, [], ◌∷◌, ◌++◌, map, map-append, Memᴰ}
use Rattle.std.proofs.Math.ListN.{get_or}
use Rattle.word.specs.Lists.{row, one_to}
use Rattle.word.specs.ListLaws.{map_same, row_out}
use Rattle.cell.specs.Cell.{total}
use Rattle.cell.specs.Child.{slot, split}
use Rattle.cell.proofs.ChildLaws.{split_length, slot_bounds}
use Rattle.cell.specs.Binomial.{binomial}
use Rattle.spacing.specs.Rank.{rank_from, rank_after, rank_of}
use Rattle.spacing.specs.TotalLaws.{row_cut, row_moved}
use Rattle.spacing.specs.RankLaws.{after_head}
use Rattle.count_step.specs.Feed.{child_places}
use Rattle.count_step.specs.Step.{LARGEST, capped}
use Rattle.count_step.specs.Sums.{part_places, places_from, places_of}
use Rattle.std.proofs.lemmas.Bool.{lt-leb}

-- a sum that is no larger than the cap is itself
pub below_cap : (n : ℕ) → n ≤ LARGEST → capped n ≡ n
below_cap n h = omega arith

module _ (links : List ℕ) where
  -- the place of the next entry q
  abbrev next_place : ℕ → ℕ → ℕ → List ℕ → ℕ → ℕ
  next_place i s a g q = get_or links (i + (slot g q - 1)) 0 + (s + rank_after i a (split g q))

  -- a next entry in the first component
  here_place : (i s a x : ℕ) (g : List ℕ) (q : ℕ) → 1 ≤ q → q ≤ x →
      get_or links i 0 + (s + rank_from (suc i) (a + x) g) + binomial (a + (q - 1)) (suc i) ≡ next_place i s a (x ∷ g) q
  unfolding slot split rank_after rank_from
  here_place i s a x g q h k =
      let e : suc (a + (q - 1)) + (x - q) ≡ a + x = omega arith in
      let f : i + (1 - 1) ≡ i = omega arith in
      let r : get_or links i 0 + (s + rank_from (suc i) (a + x) g) + binomial (a + (q - 1)) (suc i) ≡
      get_or links i 0 + (s + (binomial (a + (q - 1)) (suc i) + rank_from (suc i) (a + x) g)) = omega arith in
      r ∙ rw (le-leb q x k, e, f) refl

  here_places : (i s a x : ℕ) (g : List ℕ) (q n : ℕ) → 1 ≤ q → q + n ≡ suc x →
      part_places (get_or links i 0 + (s + rank_from (suc i) (a + x) g)) (suc i) (a + (q - 1)) n ≡ map (next_place i s a (x ∷ g)) (row q n)
  here_places i s a x g q zero h e = refl
  here_places i s a x g q (suc n) h e =
      let o : suc (a + (q - 1)) ≡ a + (suc q - 1) = omega arith in
      ap₂ ◌∷◌ (here_place i s a x g q h (omega arith))
      (ap (λ z. part_places (get_or links i 0 + (s + rank_from (suc i) (a + x) g)) (suc i) z n) o ∙
      here_places i s a x g (suc q) n (omega arith) (omega arith))

  -- a next entry in a later component
  later_place : (i s a x : ℕ) (g : List ℕ) (q : ℕ) → 1 ≤ q → q ≤ total g →
      next_place (suc i) (s + binomial (a + x) (suc i)) (suc (a + x)) g q ≡ next_place i s a (x ∷ g) (x + q)
  unfolding slot split rank_after rank_from
  later_place i s a x g q h k =
      let b : x < x + q = omega arith in
      let e : x + q - x ≡ q = omega arith in
      let (low, high) = slot_bounds g q h k in
      let f : suc i + (slot g q - 1) ≡ i + (suc (slot g q) - 1) = omega arith in
      let r : s + binomial (a + x) (suc i) + rank_after (suc i) (suc (a + x)) (split g q) ≡ s + rank_from i (a + x) (split g q) =
      omega (arith, after_head i (a + x) (split g q) (omega (arith, split_length g q h k))) in
      ap₂ (λ m n. get_or links m 0 + n) f r ∙ rw (lt-leb (x + q) x b, e) refl

  places_from_lem : (i s a : ℕ) (g : List ℕ) → places_from links i s a g ≡ map (next_place i s a g) (one_to (total g))
  unfolding places_from total
  places_from_lem i s a [] = refl
  places_from_lem i s a (x ∷ g) =
      let z : a + (1 - 1) ≡ a = omega arith in
      let one : 1 + x ≡ x + 1 = omega arith in
      ap₂ ◌++◌
      (ap (λ n. part_places (get_or links i 0 + (s + rank_from (suc i) (a + x) g)) (suc i) n x) (sym z) ∙
      here_places i s a x g 1 x (omega arith) (omega arith))
      (places_from_lem (suc i) (s + binomial (a + x) (suc i)) (suc (a + x)) g ∙
      map_same (next_place (suc i) (s + binomial (a + x) (suc i)) (suc (a + x)) g)
      (λ q. next_place i s a (x ∷ g) (x + q)) (one_to (total g)) later ∙
      sym (row_moved (next_place i s a (x ∷ g)) x 1 (total g)) ∙
      ap (λ n. map (next_place i s a (x ∷ g)) (row n (total g))) (sym one)) ∙
      sym (ap (map (next_place i s a (x ∷ g))) (row_cut 1 x (total g)) ∙
      map-append (next_place i s a (x ∷ g)) (row 1 x) (row (1 + x) (total g)))
    where
      later : (q : ℕ) → Memᴰ q (one_to (total g)) →
          next_place (suc i) (s + binomial (a + x) (suc i)) (suc (a + x)) g q ≡ next_place i s a (x ∷ g) (x + q)
      later q m = let (low, high) = row_out 1 (total g) m in later_place i s a x g q low (omega arith)

-- The loops go through the cells of the children, in the order of the next entries.
pub places_are : (links g : List ℕ) → places_of links g ≡ child_places links g
unfolding places_of rank_of
places_are links g =
    places_from_lem links 0 0 0 g ∙
    map_same (next_place links 0 0 0 g) (λ q. get_or links (slot g q - 1) 0 + rank_of (split g q)) (one_to (total g)) (λ q m. term q)
  where
    term : (q : ℕ) → next_place links 0 0 0 g q ≡ get_or links (slot g q - 1) 0 + rank_of (split g q)
    term q =
        let e : 0 + (slot g q - 1) ≡ slot g q - 1 = omega arith in
        let f : 0 + rank_after 0 0 (split g q) ≡ rank_after 0 0 (split g q) = omega arith in
        rw (e, f) refl
