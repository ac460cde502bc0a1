-- Laws for the making of a candidate's word: one entry more, the values that are kept, the rest
-- behind them, and that the whole is the built word.
-- Assumes nothing.
use Prim.Native.Nat.{ℕ, suc, ◌+◌, ◌-◌, ◌≤◌, ◌<◌, min}
use native.Mathlib.Nat.{zero-add, add-zero, suc-add, add-suc}
use native.Mathlib.Numerals.{add-one}
use native.Mathlib.Omega.{arith}
use mathlib.Core.Path.{◌≡◌, refl, sym, ap, ap₂, ◌∙◌}
use mathlib.Core.Bool.{Bool, true, false, not, cond}
use mathlib.Core.List.{List, [], ◌∷◌, ◌++◌, map, map-map, append-nil, Memᴰ}
use lib.ListN.{length, get_or, take, drop, set, length-drop, take-append-drop}
use lib.Seq.{take-suc-set, append_snoc}
use borrow.Author.Tests.{eq-eqb, ne_eqb}
use Rattle.word.specs.Lists.{all, keep}
use Rattle.word.specs.Word.{under, reduce, has, entry, within, is_perm}
use Rattle.word.specs.ListLaws.{map_same, keep_out, get_or_mem, all_out, same_test}
use Rattle.word.specs.PermLaws.{has_out, has_in, within_out, perm_bounds, perm_distinct, under_at_most}
use Rattle.cell.specs.Cell.{total, without}
use Rattle.cell.specs.Built.{level, val, lift, built}
use Rattle.cell.proofs.BuiltWords.{level_at_most}
use Rattle.cell.proofs.WithoutLaws.{without_from, without_from_lem, entry_injective}
use Rattle.placing.specs.Lookup.{entry_of, flagged, Says, Flags}
use Rattle.placing.specs.Tabled.{kept_values, Reached, Tabled}
use Rattle.placing.proofs.LookupLaws.{part_cons, part_end}

-- one entry more of the word: y, which was the first still to come
pub push : (e : List ℕ) (n y : ℕ) (v u w : List ℕ) → n < length e → u ≡ y ∷ v → take n e ++ u ≡ w → take (n + 1) (set e n y) ++ v ≡ w
push e n y v u w h q k = rw (add-one n, take-suc-set e n y h, append_snoc (take n e) y v, ← q) k

-- nothing is still to come
pub pushed : (e : List ℕ) (n : ℕ) (u w : List ℕ) → u ≡ [] → take n e ++ u ≡ w → take n e ≡ w
pushed e n u w q k = sym (append-nil (take n e)) ∙ rw q at k

-- the kept values of the prefix values from index i on

module _ (levels gone p : List ℕ) (i : ℕ) where
  pub kept_here : i < length p → entry_of gone (get_or p i 0) ≡ 0 →
      kept_values levels gone (drop i p) ≡ min (get_or p i 0 + entry_of levels (get_or p i 0)) 255 ∷ kept_values levels gone
      (drop (i + 1) p)
  unfolding kept_values
  kept_here h e = rw (part_cons p i h, eq-eqb (entry_of gone (get_or p i 0)) 0 e) refl

  pub kept_gone : i < length p → (entry_of gone (get_or p i 0) ≡ 0 → ⊥) →
      kept_values levels gone (drop i p) ≡ kept_values levels gone (drop (i + 1) p)
  unfolding kept_values
  kept_gone h e = rw (part_cons p i h, ne_eqb (entry_of gone (get_or p i 0)) 0 e) refl

  pub kept_end : length p ≤ i → kept_values levels gone (drop i p) ≡ []
  unfolding kept_values
  kept_end h = rw (part_end p i h) refl

-- the rest, from index j on, of which y is the first value
pub rest_here : (f : ℕ → ℕ) (rest : List ℕ) (j y : ℕ) → j < length rest → y ≡ f (get_or rest j 0) →
    map f (drop j rest) ≡ y ∷ map f (drop (j + 1) rest)
rest_here f rest j y h e = rw (part_cons rest j h, e) refl

pub rest_end : (f : ℕ → ℕ) (rest : List ℕ) (j : ℕ) → length rest ≤ j → map f (drop j rest) ≡ []
rest_end f rest j h = rw (part_end rest j h) refl

-- What is left without the positions R is what does not stand at them.

from_keep : (t : ℕ → Bool) (R : List ℕ) (i : ℕ) (w : List ℕ) → ((j : ℕ) → j < length w → t (get_or w j 0) ≡ has (i + j) R) →
    without_from R i w ≡ keep (λ a. not (t a)) w
unfolding without_from
from_keep t R i [] h = refl
from_keep t R i (x ∷ w) h =
    let here : t x ≡ has i R = rw (add-zero i) at (h 0 (omega arith)) in
    go (has i R) (t x) here (from_keep t R (suc i) w (λ (j : ℕ) (l : j < length w). rw (suc-add, ← add-suc) (h (suc j) (omega arith))))
  where
    go : (b c : Bool) → c ≡ b → without_from R (suc i) w ≡ keep (λ a. not (t a)) w →
        cond b (without_from R (suc i) w) (x ∷ without_from R (suc i) w) ≡
        cond (not c) (x ∷ keep (λ a. not (t a)) w) (keep (λ a. not (t a)) w)
    go true c e ih = rw e ih
    go false c e ih = rw e (ap (λ (v : List ℕ). x ∷ v) ih)

pub without_keep : (R p : List ℕ) → is_perm p ≡ true → all (within (length p)) R ≡ true → without R p ≡
    keep (λ a. not (has a (map (entry p) R))) p
unfolding entry
without_keep R p perm inside = without_from_lem R p ∙ from_keep (λ a. has a (map (entry p) R)) R 1 p there
  where
    there : (j : ℕ) → j < length p → has (get_or p j 0) (map (entry p) R) ≡ has (1 + j) R
    there j l =
        rw (suc-add, zero-add)
        (same_test (has (get_or p j 0) (map (entry p) R)) (has (suc j) R)
        (λ e. let (i, m, q) = mathlib.Core.List.Memᴰ.of_map (entry p) R (has_out (get_or p j 0) (map (entry p) R) e) in
        let (a, b) = within_out (length p) i (all_out (within (length p)) m inside) in
        let same : i ≡ suc j = entry_injective p i (suc j) (perm_distinct p perm) a b (omega arith) (omega arith) q in
        has_in (rw same at m))
        (λ e. has_in (mathlib.Core.List.Memᴰ.map (entry p) (has_out (suc j) R e))))

keep_same : (f g : ℕ → Bool) (l : List ℕ) → ((x : ℕ) → Memᴰ x l → f x ≡ g x) → keep f l ≡ keep g l
keep_same f g [] h = refl
keep_same f g (x ∷ l) h =
    ap₂ (λ (b : Bool) (v : List ℕ). cond b (x ∷ v) v) (h x (mathlib.Core.List.Memᴰ.head refl))
    (keep_same f g l (λ (y : ℕ) (m : Memᴰ y l). h y (mathlib.Core.List.Memᴰ.tail m)))

-- the kept values are the actual values of what is left of the prefix
pub kept_are : (levels gone p R g : List ℕ) → is_perm p ≡ true → length p ≤ 6 → all (within (length p)) R ≡ true → total g ≤ 8 →
    Says levels (length p + 1) (level g) → Flags gone 9 (λ v. has v (map (entry p) R)) → kept_values levels gone p ≡
    map (val g) (without R p)
unfolding kept_values val
kept_are levels gone p R g perm six inside small says flags =
    let left : List ℕ = keep (λ a. not (has a (map (entry p) R))) p in
    ap (map (λ a. min (a + entry_of levels a) 255))
    (keep_same (λ a. not (flagged gone a)) (λ a. not (has a (map (entry p) R))) p
    (λ (x : ℕ) (m : Memᴰ x p). let b = perm_bounds p perm m in ap not (flags x (omega arith)))) ∙
    map_same (λ a. min (a + entry_of levels a) 255) (val g) left
    (λ (x : ℕ) (m : Memᴰ x left).
    let b = perm_bounds p perm (keep_out (λ a. not (has a (map (entry p) R))) p m).0 in
    omega (arith, says x (omega arith), level_at_most g x)) ∙
    ap (map (val g)) (sym (without_keep R p perm inside))

-- the lifted needed levels are the actual values of the reduced rest
pub rest_are : (need u g : List ℕ) → Says need 9 (under u) → ((y : ℕ) → Memᴰ y u → y ≤ 8) →
    map (λ y. lift g (entry_of need y)) u ≡ map (lift g) (reduce u)
unfolding reduce
rest_are need u g says small =
    map_same (λ y. lift g (entry_of need y)) (λ y. lift g (under u y)) u
    (λ (y : ℕ) (m : Memᴰ y u). let b = small y m in ap (lift g) (says y (omega arith))) ∙
    sym (map-map (lift g) (under u) u)

drop_mem : (n : ℕ) (l : List ℕ) {x : ℕ} → Memᴰ x (drop n l) → Memᴰ x l
drop_mem n l {x} m = rw (take-append-drop n l) at (mathlib.Core.List.Memᴰ.append_right (take n l) m)

module _ (levels gone : List ℕ) (t : ℕ) (need p R g β : List ℕ)
    (six : length p ≤ 6) (short : t ≤ length β) (eight : length β ≤ 8)
    (r : Tabled levels gone t need p R g β) where
  -- the tables serve for the rest
  pub ready_reached : Reached (drop (length β - t) β) need levels (length p) g
  ready_reached = record { size = omega (arith, r.size); says = r.says_levels; small = omega (arith, r.whole); reach = reach }
    where
      u : List ℕ
      u = drop (length β - t) β

      many : length u ≡ t
      many = length-drop (length β - t) β ∙ omega arith

      reach : (j : ℕ) → j < length u → entry_of need (get_or u j 0) ≤ total g
      reach j h =
          let b = r.small (get_or u j 0) (drop_mem (length β - t) β (get_or_mem u j 0 h)) in
          omega (arith, r.says_need (get_or u j 0) (omega arith), under_at_most u (get_or u j 0), many, r.whole)

  -- the kept values with the rest behind them are the built word
  pub ready_made : kept_values levels gone p ++ map (λ y. lift g (entry_of need y)) (drop (length β - t) β)
      ≡ built (without R p) g (reduce (drop (length β - t) β))
  unfolding built
  ready_made =
      ap₂ ◌++◌
      (kept_are levels gone p R g r.perm six r.inside (omega (arith, r.whole)) r.says_levels r.flags_gone)
      (rest_are need (drop (length β - t) β) g r.says_need
      (λ (y : ℕ) (m : Memᴰ y (drop (length β - t) β)). r.small y (drop_mem (length β - t) β m)))
