-- Laws of positions that are left out one after the other: what is left of a permutation without
-- one position, and that a set which rises is left out from its last position on.
use Rattle.std.specs.Prelude.{ℕ, zero, suc, ◌+◌, ◌≤◌, ◌<◌, ◌≡◌, refl, Bool, true, false, cond, ◌⊎◌, length, get_or, take, leb, ltb}
use Rattle.std.proofs.Common.{arith, sym, ◌∙◌, inl, inr, leb-true, leb-false, eq-eqb, ne_eqb}
use Rattle.std.proofs.Math.Path.{ap}
use mathlib.Core.List.{List, [], ◌∷◌, ◌++◌, map, Memᴰ}
use Rattle.std.proofs.Math.ListN.{drop}
use Rattle.std.proofs.Math.Seq.{split_at}
use Rattle.word.specs.Word.{under, reduce, iso, has, distinct, is_perm}
use Rattle.word.specs.ListLaws.{map_same, sublist_mem, same_or_not}
use Rattle.word.specs.Vocabulary.{unbump}
use Rattle.word.specs.BumpLaws.{unbump_below, unbump_above}
use Rattle.word.specs.IsoLaws.{iso_refl, iso_map_on, under_order}
use Rattle.word.specs.PermLaws.{under_perm, perm_distinct, perm_reduce, reduce_perm}
use Rattle.cell.specs.Cell.{without, deleted}
use Rattle.cell.proofs.WithoutLaws.{without_from, without_from_lem, without_map, without_sublist, from_none, from_passed}
use Rattle.cell.proofs.MergeLaws.{kept_bounds, kept_distinct}
use Rattle.cell.proofs.DeletionLaws.{iso_reduces}
use Rattle.scheme.specs.WellFormed.{astray}
use Rattle.scheme.specs.PositionLaws.{has_none}

-- "Deleting position r of p, whose value is v there, gives the reduced rest" (01): the entry is
-- left out, and the larger values are one lower

-- no later position is r
from_past : (r i : ℕ) (w : List ℕ) → r < i → without_from (r ∷ []) i w ≡ w
unfolding has
from_past r i w h = from_none (r ∷ []) i w (λ (j : ℕ) (l : i ≤ j). rw (ne_eqb j r (λ (q : j ≡ r). omega arith)) refl)

from_one : (r i m : ℕ) (w : List ℕ) → r ≡ i + m → m < length w → without_from (r ∷ []) i w ≡ take m w ++ drop (suc m) w
unfolding without_from has
from_one r i m [] e h = absurd (omega arith)
from_one r i zero (x ∷ w) e h = rw (eq-eqb i r (omega arith)) (from_past r (suc i) w (omega arith))
from_one r i (suc m) (x ∷ w) e h =
    rw (ne_eqb i r (λ (q : i ≡ r). omega arith)) (ap (λ (v : List ℕ). x ∷ v) (from_one r (suc i) m w (omega arith) (omega arith)))

-- a word without the position with index m
without_one : (m : ℕ) (w : List ℕ) → m < length w → without (suc m ∷ []) w ≡ take m w ++ drop (suc m) w
without_one m w h = without_from_lem (suc m ∷ []) w ∙ from_one (suc m) 1 m w (omega arith) h

-- one entry v more counts where it is at most x
under_cut : (u w : List ℕ) (v x : ℕ) → under (u ++ (v ∷ w)) x ≡ cond (leb v x) (suc (under (u ++ w) x)) (under (u ++ w) x)
unfolding under
under_cut [] w v x = refl
under_cut (y ∷ u) w v x = rw (under_cut u w v x) (go (leb y x) (leb v x))
  where
    go : (a b : Bool) → cond a (suc (cond b (suc (under (u ++ w) x)) (under (u ++ w) x)))
        (cond b (suc (under (u ++ w) x)) (under (u ++ w) x))
        ≡ cond b (suc (cond a (suc (under (u ++ w) x)) (under (u ++ w) x))) (cond a (suc (under (u ++ w) x)) (under (u ++ w) x))
    go true true = refl
    go true false = refl
    go false true = refl
    go false false = refl

module _ (m : ℕ) (p : List ℕ) (perm : is_perm p ≡ true) (h : m < length p) where
  -- in a permutation without its entry v the values from v on are one lower
  under_one : (x : ℕ) → x ≤ length p → under (take m p ++ drop (suc m) p) x ≡ unbump (get_or p m 0) x
  under_one x k = go (leb v x) refl
    where
      v : ℕ
      v = get_or p m 0

      rest : ℕ
      rest = under (take m p ++ drop (suc m) p) x

      whole : x ≡ cond (leb v x) (suc rest) rest
      whole = sym (under_perm p x perm k) ∙ ap (λ (l : List ℕ). under l x) (split_at p m 0 h) ∙ under_cut (take m p) (drop (suc m) p) v x

      go : (b : Bool) → leb v x ≡ b → rest ≡ unbump v x
      go true e =
          let w : x ≡ suc rest = whole ∙ ap (λ b. cond b (suc rest) rest) e in
          omega (arith, unbump_above v x (leb-true v x e))
      go false e =
          let w : x ≡ rest = whole ∙ ap (λ b. cond b (suc rest) rest) e in
          omega (arith, unbump_below v x (leb-false v x e))

  pub deleted_one : deleted (suc m ∷ []) p ≡ map (unbump (get_or p m 0)) (take m p ++ drop (suc m) p)
  unfolding deleted reduce
  deleted_one =
      ap reduce (without_one m p h) ∙
      map_same (under (take m p ++ drop (suc m) p)) (unbump (get_or p m 0)) (take m p ++ drop (suc m) p) value
    where
      value : (x : ℕ) → Memᴰ x (take m p ++ drop (suc m) p) → under (take m p ++ drop (suc m) p) x ≡ unbump (get_or p m 0) x
      value x i =
          let k : Memᴰ x (without (suc m ∷ []) p) = rw (without_one m p h) i in
          let b = kept_bounds (suc m ∷ []) p perm k in
          under_one x b.1

-- A set is left out from its last position on: the positions before it stay where they are

pub deleted_nothing : (p : List ℕ) → is_perm p ≡ true → deleted [] p ≡ p
unfolding deleted has
deleted_nothing p perm = ap reduce (without_from_lem [] p ∙ from_none [] 1 p (λ (j : ℕ) (l : 1 ≤ j). refl)) ∙ reduce_perm p perm

-- a word may be reduced before positions are left out
reduce_before : (S w : List ℕ) → distinct w ≡ true → reduce (without S w) ≡ reduce (without S (reduce w))
unfolding reduce
reduce_before S w d =
    iso_reduces (without S w) (without S (reduce w)) (kept_distinct S w d)
    (kept_distinct S (reduce w) (perm_distinct (reduce w) (perm_reduce w d)))
    (ap (iso (without S w)) (without_map S (under w) w) ∙ iso_map_on (under w) (without S w) order (without S w) ∙ iso_refl (without S w))
  where
    order : (x y : ℕ) → Memᴰ x (without S w) → Memᴰ y (without S w) → ltb (under w x) (under w y) ≡ ltb x y
    order x y a b = under_order w x y (sublist_mem (without_sublist S w) a) (sublist_mem (without_sublist S w) b)

-- the first position is where it was when those behind it are left out
from_first : (k r i : ℕ) (R w : List ℕ) → i ≤ r → astray k r R ≡ false →
    without_from (r ∷ R) i w ≡ without_from (r ∷ []) i (without_from R i w)
unfolding without_from has
from_first k r i R [] h e = refl
from_first k r i R (x ∷ w) h e = go (λ (l : suc i ≤ r). from_first k r (suc i) R w l e) (same_or_not i r)
  where
    none : has i R ≡ false
    none = has_none k r i R h e

    go : (suc i ≤ r → without_from (r ∷ R) (suc i) w ≡ without_from (r ∷ []) (suc i) (without_from R (suc i) w)) →
        (i ≡ r) ⊎ (i ≡ r → ⊥) → without_from (r ∷ R) i (x ∷ w) ≡ without_from (r ∷ []) i (without_from R i (x ∷ w))
    go later (inl q) =
        rw (none, eq-eqb i r q) (from_passed r (suc i) R w (omega arith) ∙
        sym (from_past r (suc i) (without_from R (suc i) w) (omega arith)))
    go later (inr q) = rw (none, ne_eqb i r q) (ap (λ (v : List ℕ). x ∷ v) (later (omega arith)))

pub deleted_first : (k r : ℕ) (R p : List ℕ) → is_perm p ≡ true → 1 ≤ r → astray k r R ≡ false →
    deleted (r ∷ R) p ≡ deleted (r ∷ []) (deleted R p)
unfolding deleted
deleted_first k r R p perm low e =
    ap reduce (without_from_lem (r ∷ R) p ∙ from_first k r 1 R p low e ∙
    ap (without_from (r ∷ []) 1) (sym (without_from_lem R p)) ∙ sym (without_from_lem (r ∷ []) (without R p))) ∙
    reduce_before (r ∷ []) (without R p) (kept_distinct R p (perm_distinct p perm))
