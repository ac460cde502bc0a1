-- The inversions of a built word, and how many of them a deletion loses.
use Prim.Native.Nat.{ℕ, zero, suc, ◌+◌, ◌≤◌, ◌<◌}
use Rattle.std.proofs.Math.Nat.{add-zero}
use native.Mathlib.Omega.{arith}
use Rattle.std.specs.Prelude.{◌≡◌, refl, ◌⊎◌, Bool, cond, get_or, leb, ltb}
use Rattle.std.proofs.Common.{subst, sym, ap, ap₂, ◌∙◌, inl, inr}
use Rattle.std.proofs.Math.Bool.{true, false}
use mathlib.Core.List.{List, [], ◌∷◌, ◌++◌, map, map-map, Memᴰ}
use Rattle.std.proofs.Math.ListN.{length}
use borrow.Author.Tests.{ltb-true, ltb-false, lt-ltb, le-ltb, le-leb, lt-leb, eq-eqb, ne_eqb, not-true}
use Rattle.word.specs.Lists.{all}
use Rattle.word.specs.Word.{under, has, entry, distinct, within, is_perm}
use Rattle.word.specs.Inversions.{smaller, inversions}
use Rattle.word.specs.ListLaws.{and_left, and_right, not_in, below_or_not, map_same}
use Rattle.word.specs.PermLaws.{has_out, within_out, distinct_out, perm_bounds, perms_are, under_perm}
use Rattle.word.proofs.InversionLaws.{inversions_map, inversions_reduce, inversions_sublist, smaller_append}
use Rattle.cell.specs.Cell.{total, cell, without, deleted}
use Rattle.cell.specs.Built.{level, val, lift, built}
use Rattle.cell.specs.Lost.{lost_inversions}
use Rattle.cell.proofs.BuiltLaws.{lift_keeps, val_keeps, val_lift}
use Rattle.cell.proofs.BuiltWords.{level_at_most, val_not_lift}
use Rattle.cell.proofs.BuiltCells.{cell_wide, cell_out}
use Rattle.cell.proofs.RestLaws.{Within}
use Rattle.cell.proofs.WithoutLaws.{without_from, without_from_lem, without_sublist, from_none, from_passed}
use Rattle.cell.proofs.MergeLaws.{kept_bounds}
use Rattle.cell.proofs.DeletionLaws.{without_built}
use Rattle.cell.proofs.Theorems.{prefix_within}

-- the inversions of two words one after the other: those of each, and for each entry of the first
-- the smaller ones of the second
inversions_append : (u v : List ℕ) → inversions (u ++ v) ≡ inversions u + (total (map (λ a. smaller a v) u) + inversions v)
unfolding inversions total
inversions_append [] v = omega arith
inversions_append (x ∷ u) v = omega (arith, smaller_append x u v, inversions_append u v)

-- a rest value is below a prefix value if it is at most its level
lift_below : (g : List ℕ) (a s : ℕ) → a < length g → 1 ≤ s → ltb (lift g s) (val g a) ≡ leb s (level g a)
unfolding level
lift_below g a s h k = go (below_or_not (level g a) s)
  where
    apart : (b : ℕ) → a ≡ b → s ≤ level g a → val g a ≡ lift g s → ⊥
    apart zero e c q = omega (arith, ap (level g) e)
    apart (suc b) e c q = val_not_lift g a s (omega arith) h q

    go : (level g a < s) ⊎ (s ≤ level g a) → ltb (lift g s) (val g a) ≡ leb s (level g a)
    go (inl c) =
        let up = ltb-true (val g a) (lift g s) (val_lift g a s h ∙ lt-ltb (level g a) s c) in
        le-ltb (lift g s) (val g a) (omega arith) ∙ sym (lt-leb s (level g a) c)
    go (inr c) =
        let most = ltb-false (val g a) (lift g s) (val_lift g a s h ∙ le-ltb (level g a) s c) in
        let other = apart a refl c in
        lt-ltb (lift g s) (val g a) (omega arith) ∙ sym (le-leb s (level g a) c)

-- so it has as many rest values below it as there are up to its level
smaller_lift : (g : List ℕ) (a : ℕ) (σ : List ℕ) → a < length g → ((s : ℕ) → Memᴰ s σ → 1 ≤ s) →
    smaller (val g a) (map (lift g) σ) ≡ under σ (level g a)
unfolding smaller under
smaller_lift g a [] h k = refl
smaller_lift g a (s ∷ σ) h k =
    ap₂ (λ (b : Bool) (n : ℕ). cond b (suc n) n) (lift_below g a s h (k s (Memᴰ.head refl)))
    (smaller_lift g a σ h (λ t m. k t (Memᴰ.tail m)))

-- The inversions of a built word: those of the prefix, those of the rest, and for each value of the
-- prefix as many as its level says.
pub inversions_built : (q g σ : List ℕ) → Within q g → is_perm σ ≡ true → length σ ≡ total g →
    inversions (built q g σ) ≡ inversions q + (total (map (level g) q) + inversions σ)
unfolding built
inversions_built q g σ low perm size =
    let first : inversions (map (val g) q) ≡ inversions q = inversions_map (val g) (val_keeps g) q in
    let rest : inversions (map (lift g) σ) ≡ inversions σ = inversions_map (lift g) (lift_keeps g) σ in
    let across : map (λ a. smaller a (map (lift g) σ)) (map (val g) q) ≡ map (level g) q =
    map-map (λ a. smaller a (map (lift g) σ)) (val g) q ∙ map_same (λ a. smaller (val g a) (map (lift g) σ)) (level g) q
    (λ a m. smaller_lift g a σ (low a m) (λ s n. (perm_bounds σ perm n).0) ∙
    under_perm σ (level g a) perm (rw size (level_at_most g a))) in
    inversions_append (map (val g) q) (map (lift g) σ) ∙ ap₂ ◌+◌ first (ap₂ ◌+◌ (ap total across) rest)

-- Sums over the entries at some positions and over those at the others

module _ (f : ℕ → ℕ) where
  -- one position more takes its entry out of the sum
  from_more : (R : List ℕ) (i : ℕ) (w : List ℕ) (j : ℕ) → has (i + j) R ≡ false → j < length w →
      total (map f (without_from R i w)) ≡ f (get_or w j 0) + total (map f (without_from ((i + j) ∷ R) i w))
  unfolding without_from total
  from_more R i [] j e h = absurd (omega arith)
  from_more R i (x ∷ w) zero e h =
      subst (λ (k : ℕ). total (map f (without_from R i (x ∷ w))) ≡ f x + total (map f (without_from (k ∷ R) i (x ∷ w))))
      (sym (add-zero i)) (here (subst (λ (k : ℕ). has k R ≡ false) (add-zero i) e))
    where
      here : has i R ≡ false → total (map f (without_from R i (x ∷ w))) ≡ f x + total (map f (without_from (i ∷ R) i (x ∷ w)))
      here q = rw (q, eq-eqb i i refl)
          (ap (λ (v : List ℕ). f x + total (map f v)) (sym (from_passed i (suc i) R w (omega arith))))
  from_more R i (x ∷ w) (suc j) e h =
      let z : i + suc j ≡ suc i + j = omega arith in
      subst (λ (k : ℕ). total (map f (without_from R i (x ∷ w))) ≡ f (get_or w j 0) + total (map f (without_from (k ∷ R) i (x ∷ w))))
      (sym z)
      (rw (ne_eqb i (suc i + j) (λ (q : i ≡ suc i + j). omega arith))
      (go (has i R) (from_more R (suc i) w j (subst (λ (k : ℕ). has k R ≡ false) z e) (omega arith))))
    where
      go : (b : Bool) →
          total (map f (without_from R (suc i) w)) ≡ f (get_or w j 0) + total (map f (without_from ((suc i + j) ∷ R) (suc i) w)) →
          total (map f (cond b (without_from R (suc i) w) (x ∷ without_from R (suc i) w)))
          ≡ f (get_or w j 0) + total
          (map f (cond b (without_from ((suc i + j) ∷ R) (suc i) w) (x ∷ without_from ((suc i + j) ∷ R) (suc i) w)))
      go true q = q
      go false q = omega arith

  -- the sum over a word is that over the other positions and that over distinct positions
  total_without : (R w : List ℕ) → all (within (length w)) R ≡ true → distinct R ≡ true →
      total (map f w) ≡ total (map f (without R w)) + total (map (λ r. f (entry w r)) R)
  unfolding total has entry
  total_without [] w h d = rw (without_from_lem [] w, from_none [] 1 w (λ j l. refl)) (omega arith)
  total_without (r ∷ R) w h d =
      let (fresh, rest) = distinct_out r R d in
      let (low, high) = within_out (length w) r (and_left (within (length w) r) (all (within (length w)) R) h) in
      let out : has r R ≡ false = not-true (has r R) (not_in (has r R) (λ t. fresh (has_out r R t))) in
      total_without R w (and_right (within (length w) r) (all (within (length w)) R) h) rest ∙
      step r low high out
    where
      step : (r : ℕ) → 1 ≤ r → r ≤ length w → has r R ≡ false →
          total (map f (without R w)) + total (map (λ r. f (entry w r)) R)
          ≡ total (map f (without (r ∷ R) w)) + (f (entry w r) + total (map (λ r. f (entry w r)) R))
      step zero low high out = absurd (omega arith)
      step (suc j) low high out =
          let z : 1 + j ≡ suc j = omega arith in
          rw (without_from_lem R w, without_from_lem (suc j ∷ R) w)
          (omega (arith, rw z at (from_more R 1 w j (rw z out) (omega arith))))

-- What a deletion of distinct positions of the prefix loses of a built word depends on prefix and
-- spacing alone.
pub inversions_lost : (p R g σ : List ℕ) → is_perm p ≡ true → all (within (length p)) R ≡ true → distinct R ≡ true →
    length g ≡ suc (length p) → is_perm σ ≡ true → length σ ≡ total g →
    inversions (built p g σ) ≡ inversions (deleted R (built p g σ)) + lost_inversions p R g
unfolding deleted lost_inversions
inversions_lost p R g σ perm inside apart size rest long =
    let kept : Within (without R p) g = λ x m. let (low, high) = kept_bounds R p perm m in omega arith in
    let whole = inversions_built p g σ (prefix_within p g perm size) rest long in
    let part = inversions_built (without R p) g σ kept rest long in
    let levels = total_without (level g) R p inside apart in
    let fewer = inversions_sublist (without_sublist R p) in
    let less : inversions (deleted R (built p g σ)) ≡ inversions (built (without R p) g σ) =
    inversions_reduce (without R (built p g σ)) ∙ ap inversions (without_built R p g σ inside) in
    omega arith

-- "The inversions lost by a deletion follow from prefix and spacing" (02, order 5): each member of
-- a cell loses the same number.
pub cell_loses : (P : List (List ℕ)) (p R g : List ℕ) → is_perm p ≡ true → all (within (length p)) R ≡ true → distinct R ≡ true →
    (w : List ℕ) → Memᴰ w (cell P p g) → inversions w ≡ inversions (deleted R w) + lost_inversions p R g
cell_loses P p R g perm inside apart w m =
    let (σ, s, a, e) = cell_out P p g m in
    let (rest, long) = perms_are (total g) s in
    rw e (inversions_lost p R g σ perm inside apart (cell_wide P p g m) rest long)
