-- Laws of deletion: a built word without some positions of its prefix is, reduced, the built word
-- of the shorter prefix at the merged spacing.
use Rattle.std.specs.Prelude.{ℕ, suc, ◌<◌, ◌≡◌, refl, Bool, false, cond, get_or, leb, ltb}
use Rattle.std.proofs.Common.{arith, sym, ap₂, ◌∙◌, ltb-true, ltb-false, le-leb}
use Rattle.std.proofs.Math.Path.{ap}
use Rattle.std.proofs.Math.Bool.{true}
use Rattle.std.specs.Bool.{beq}
use mathlib.Core.List.{List, [], ◌∷◌, ◌++◌, map, Memᴰ, Sublistᴰ}
use Rattle.std.proofs.Math.ListN.{length}
use Rattle.std.proofs.lemmas.List.{length-map}
use Rattle.std.proofs.lemmas.Bool.{lt-leb}
use Rattle.word.specs.Lists.{all}
use Rattle.word.specs.Word.{alike, iso, avoids, under, reduce, distinct, within, is_perm}
use Rattle.word.specs.ListLaws.{true_not_false, and_left, and_right, beq_true, get_or_mem}
use Rattle.word.specs.IsoLaws.{iso_refl, iso_reduce}
use Rattle.word.specs.ContainsLaws.{avoids_word_iso, avoids_sublist}
use Rattle.word.specs.PermLaws.{distinct_out, perm_distinct, perm_reduce, reduce_perm, length_reduce, under_at_most}
use Rattle.cell.specs.Cell.{without, deleted, merged}
use Rattle.cell.proofs.BuiltLaws.{iso_built, get_d_map}
use Rattle.cell.specs.Built.{level, val, lift, built}
use Rattle.cell.proofs.WithoutLaws.{without_map, without_append, without_sublist, distinct_sublist}
use Rattle.cell.proofs.MergeLaws.{kept_bounds, kept_distinct, merged_length, merged_level}

-- Isomorphic words of distinct entries reduce to the same word

-- an entry has as many of the others at or below it as its partner has
alike_under : (x : ℕ) (u : List ℕ) (y : ℕ) (v : List ℕ) → alike x u y v ≡ true → under u x ≡ under v y
unfolding alike under
alike_under x [] y [] h = refl
alike_under x [] y (c ∷ v) h = absurd (true_not_false (sym h))
alike_under x (a ∷ u) y [] h = absurd (true_not_false (sym h))
alike_under x (a ∷ u) y (c ∷ v) h =
    ap₂ (λ (b : Bool) (n : ℕ). cond b (suc n) n)
    (turn (ltb x a) refl (beq_true (ltb x a) (ltb y c) (and_left (beq (ltb x a) (ltb y c)) (alike x u y v) h)))
    (alike_under x u y v (and_right (beq (ltb x a) (ltb y c)) (alike x u y v) h))
  where
    turn : (b : Bool) → ltb x a ≡ b → ltb x a ≡ ltb y c → leb a x ≡ leb c y
    turn true e q = lt-leb a x (ltb-true x a e) ∙ sym (lt-leb c y (ltb-true y c (sym q ∙ e)))
    turn false e q = le-leb a x (ltb-false x a e) ∙ sym (le-leb c y (ltb-false y c (sym q ∙ e)))

-- a first entry counts in the same places for its partner
alike_counts : (x : ℕ) (u : List ℕ) (y : ℕ) (v : List ℕ) (f h : ℕ → ℕ) → alike x u y v ≡ true → (Memᴰ x u → ⊥) → (Memᴰ y v → ⊥) →
    map f u ≡ map h v → map (λ z. cond (leb x z) (suc (f z)) (f z)) u ≡ map (λ z. cond (leb y z) (suc (h z)) (h z)) v
unfolding alike
alike_counts x [] y [] f h a m n e = refl
alike_counts x [] y (d ∷ v) f h a m n e = absurd (true_not_false (sym a))
alike_counts x (c ∷ u) y [] f h a m n e = absurd (true_not_false (sym a))
alike_counts x (c ∷ u) y (d ∷ v) f h a m n e =
    let first : f c ≡ h d = cc in
    let later : map f u ≡ map h v = cc in
    ap₂ ◌∷◌ (ap₂ (λ (b : Bool) (k : ℕ). cond b (suc k) k)
    (turn (ltb x c) refl (beq_true (ltb x c) (ltb y d) (and_left (beq (ltb x c) (ltb y d)) (alike x u y v) a))) first)
    (alike_counts x u y v f h (and_right (beq (ltb x c) (ltb y d)) (alike x u y v) a)
    (λ (k : Memᴰ x u). m (Memᴰ.tail k)) (λ (k : Memᴰ y v). n (Memᴰ.tail k)) later)
  where
    turn : (b : Bool) → ltb x c ≡ b → ltb x c ≡ ltb y d → leb x c ≡ leb y d
    turn true t q = le-leb x c (omega (arith, ltb-true x c t)) ∙ sym (le-leb y d (omega (arith, ltb-true y d (sym q ∙ t))))
    turn false t q =
        let xc : x ≡ c → ⊥ = λ r. m (Memᴰ.head r) in
        let yd : y ≡ d → ⊥ = λ r. n (Memᴰ.head r) in
        lt-leb x c (omega (arith, ltb-false x c t)) ∙ sym (lt-leb y d (omega (arith, ltb-false y d (sym q ∙ t))))

pub iso_reduces : (u v : List ℕ) → distinct u ≡ true → distinct v ≡ true → iso u v ≡ true → reduce u ≡ reduce v
unfolding iso reduce
iso_reduces [] [] d e h = refl
iso_reduces [] (y ∷ v) d e h = absurd (true_not_false (sym h))
iso_reduces (x ∷ u) [] d e h = absurd (true_not_false (sym h))
iso_reduces (x ∷ u) (y ∷ v) d e h =
    let (m, du) = distinct_out x u d in
    let (n, dv) = distinct_out y v e in
    let a : alike x u y v ≡ true = and_left (alike x u y v) (iso u v) h in
    let below : map (under u) u ≡ map (under v) v = iso_reduces u v du dv (and_right (alike x u y v) (iso u v) h) in
    ap₂ ◌∷◌ (rw (le-leb x x (omega arith), le-leb y y (omega arith)) (ap suc (alike_under x u y v a)))
    (alike_counts x u y v (under u) (under v) a m n below)

-- The shorter prefix

pub deleted_perm : (R p : List ℕ) → is_perm p ≡ true → is_perm (deleted R p) ≡ true
unfolding deleted
deleted_perm R p e = perm_reduce (without R p) (kept_distinct R p (perm_distinct p e))

pub deleted_length : (R p : List ℕ) → length (deleted R p) ≡ length (without R p)
unfolding deleted
deleted_length R p = length_reduce (without R p)

-- leaving positions of the prefix out of a built word
pub without_built : (R p g σ : List ℕ) → all (within (length p)) R ≡ true → without R (built p g σ) ≡ built (without R p) g σ
unfolding built
without_built R p g σ h =
    let k : all (within (length (map (val g) p))) R ≡ true = rw (length-map p (val g)) h in
    without_append R (map (val g) p) (map (lift g) σ) k ∙ ap (λ (t : List ℕ). t ++ map (lift g) σ) (without_map R (val g) p)

pub kept_sublist : (R p g σ : List ℕ) → all (within (length p)) R ≡ true → Sublistᴰ (built (without R p) g σ) (built p g σ)
kept_sublist R p g σ h = rw (← without_built R p g σ h) (without_sublist R (built p g σ))

module _ (R p g : List ℕ) (perm : is_perm p ≡ true) (size : length g ≡ suc (length p))
    (inside : all (within (length p)) R ≡ true) (σ : List ℕ) where
  -- the same values at the same spacing are ordered as the shorter prefix at the merged spacing
  pub built_iso : iso (built (without R p) g σ) (built (deleted R p) (merged R p g) σ) ≡ true
  unfolding deleted reduce
  built_iso = iso_built (without R p) g σ (deleted R p) (merged R p g) σ (iso_reduce (without R p)) (iso_refl σ) low high same
    where
      kept : (i : ℕ) → i < length (without R p) → Memᴰ (get_or (without R p) i 0) (without R p)
      kept i h = get_or_mem (without R p) i 0 h

      place : (i : ℕ) → i < length (without R p) → get_or (deleted R p) i 0 ≡ under (without R p) (get_or (without R p) i 0)
      place i h = get_d_map (under (without R p)) (without R p) i h

      low : (i : ℕ) → i < length (without R p) → get_or (without R p) i 0 < length g
      low i h = let b = kept_bounds R p perm (kept i h) in omega arith

      high : (i : ℕ) → i < length (without R p) → get_or (deleted R p) i 0 < length (merged R p g)
      high i h = omega (
        arith,
        place i h,
        under_at_most (without R p) (get_or (without R p) i 0),
        merged_length R p g
            perm size inside,
        deleted_length R p,
      )

      same : (i j : ℕ) → i < length (without R p) → j < length σ →
          ltb (level g (get_or (without R p) i 0)) (get_or σ j 0) ≡ ltb (level (merged R p g) (get_or (deleted R p) i 0)) (get_or σ j 0)
      same i j h k = rw (place i h, merged_level R p g perm size inside (get_or (without R p) i 0) (kept i h)) refl

  -- so both avoid the same patterns
  pub built_deleted_avoids : (P : List (List ℕ)) → avoids P (built (deleted R p) (merged R p g) σ) ≡ avoids P (built (without R p) g σ)
  built_deleted_avoids P = sym (avoids_word_iso P (built (without R p) g σ) (built (deleted R p) (merged R p g) σ) built_iso)

  -- a word that avoids the patterns still does after the deletion
  pub deleted_avoids : (P : List (List ℕ)) → avoids P (built p g σ) ≡ true → avoids P (built (deleted R p) (merged R p g) σ) ≡ true
  deleted_avoids P h = built_deleted_avoids P ∙ avoids_sublist P (kept_sublist R p g σ inside) h

  -- deleting positions of the prefix of a built word gives the built word of the shorter prefix
  pub deleted_built : is_perm (built p g σ) ≡ true → is_perm (built (deleted R p) (merged R p g) σ) ≡ true →
      deleted R (built p g σ) ≡ built (deleted R p) (merged R p g) σ
  unfolding deleted
  deleted_built long short =
      let apart : distinct (built (without R p) g σ) ≡ true =
      distinct_sublist (kept_sublist R p g σ inside) (perm_distinct (built p g σ) long) in
      ap reduce (without_built R p g σ inside) ∙
      iso_reduces (built (without R p) g σ) (built (deleted R p) (merged R p g) σ) apart
      (perm_distinct (built (deleted R p) (merged R p g) σ) short) built_iso ∙
      reduce_perm (built (deleted R p) (merged R p g) σ) short
