-- Laws of merging: the number of components, the total, and the level of each prefix value that is
-- kept.
use Prim.Native.Nat.{ℕ, zero, suc, ◌+◌, ◌≤◌, ◌<◌}
use Rattle.std.proofs.Common.{add-zero, add-suc, suc-add, zero-add, arith, ap, ◌∙◌, inl, inr, le-leb, ne_eqb, eq-eqb}
use Rattle.std.specs.Prelude.{◌≡◌, refl, ◌⊎◌, Bool, ◌||◌, length, eqb}
use Rattle.std.proofs.Math.Path.{sym}
use Rattle.std.proofs.Math.Bool.{true, false, not, cond}
use mathlib.Core.List.Memᴰ
use mathlib.Core.List.{List, [], ◌∷◌, map, Memᴰ}
use Rattle.std.proofs.lemmas.Bool.{lt-leb, not-true}
use Rattle.word.specs.Lists.{all}
use Rattle.word.specs.Word.{under, has, within, distinct, is_perm, entry}
use Rattle.word.specs.ListLaws.{true_not_false, not_in, below_or_not, all_out}
use Rattle.word.specs.PermLaws.{has_out, has_in, within_out, distinct_out, perm_bounds, perm_distinct, perm_has, length_reduce}
use Rattle.cell.specs.Cell.{total, without, deleted, merge_from, merged}
use Rattle.cell.specs.Built.{level}
use Rattle.word.specs.ListLaws.{sublist_mem}
use Rattle.cell.proofs.WithoutLaws.{without_sublist, entry_onto, entry_injective, without_out, without_in, distinct_sublist}

-- how many of the n numbers from v on are not in the list
unfoldable pub kept_from : List ℕ → ℕ → ℕ → ℕ
unfolding has
kept_from vs v zero = 0
kept_from vs v (suc n) = cond (has v vs) (kept_from vs (suc v) n) (suc (kept_from vs (suc v) n))

-- the last of them
kept_last : (vs : List ℕ) (v n : ℕ) → kept_from vs v (suc n) ≡ cond (has (v + n) vs) (kept_from vs v n) (suc (kept_from vs v n))
unfolding kept_from
kept_last vs v zero = rw (add-zero v)
kept_last vs v (suc n) = rw (add-suc v n, ← suc-add v n) (go (has v vs) (has (suc v + n) vs) (kept_last vs (suc v) n))
  where
    go : (a b : Bool) → kept_from vs (suc v) (suc n) ≡ cond b (kept_from vs (suc v) n) (suc (kept_from vs (suc v) n)) →
        cond a (kept_from vs (suc v) (suc n)) (suc (kept_from vs (suc v) (suc n)))
        ≡ cond b (cond a (kept_from vs (suc v) n) (suc (kept_from vs (suc v) n)))
        (suc (cond a (kept_from vs (suc v) n) (suc (kept_from vs (suc v) n))))
    go true true e = e
    go true false e = e
    go false true e = ap suc e
    go false false e = ap suc e

-- merge_from: its length, its total and its levels

merge_from_length : (vs : List ℕ) (v x : ℕ) (g : List ℕ) → length (merge_from vs v x g) ≡ suc (kept_from vs v (length g))
unfolding merge_from kept_from
merge_from_length vs v x [] = refl
merge_from_length vs v x (y ∷ g) = go (has v vs) (merge_from_length vs (suc v) (x + y) g) (merge_from_length vs (suc v) y g)
  where
    go : (b : Bool) → length (merge_from vs (suc v) (x + y) g) ≡ suc (kept_from vs (suc v) (length g)) →
        length (merge_from vs (suc v) y g) ≡ suc (kept_from vs (suc v) (length g)) →
        length (cond b (merge_from vs (suc v) (x + y) g) (x ∷ merge_from vs (suc v) y g))
        ≡ suc (cond b (kept_from vs (suc v) (length g)) (suc (kept_from vs (suc v) (length g))))
    go true p q = p
    go false p q = ap suc q

merge_from_total : (vs : List ℕ) (v x : ℕ) (g : List ℕ) → total (merge_from vs v x g) ≡ x + total g
unfolding merge_from total
merge_from_total vs v x [] = refl
merge_from_total vs v x (y ∷ g) = go (has v vs) (merge_from_total vs (suc v) (x + y) g) (merge_from_total vs (suc v) y g)
  where
    go : (b : Bool) → total (merge_from vs (suc v) (x + y) g) ≡ (x + y) + total g → total (merge_from vs (suc v) y g) ≡ y + total g →
        total (cond b (merge_from vs (suc v) (x + y) g) (x ∷ merge_from vs (suc v) y g)) ≡ x + (y + total g)
    go true p q = omega arith
    go false p q = omega arith

merge_from_level : (vs : List ℕ) (v x : ℕ) (g : List ℕ) (n : ℕ) → n < length g → has (v + n) vs ≡ false →
    level (merge_from vs v x g) (suc (kept_from vs v n)) ≡ x + level g n
unfolding merge_from kept_from level
merge_from_level vs v x [] n h e = absurd (omega arith)
merge_from_level vs v x (y ∷ g) zero h e = rw (rw (add-zero v) at e) refl
merge_from_level vs v x (y ∷ g) (suc n) h e =
    let f : has (suc v + n) vs ≡ false = rw (suc-add v n, ← add-suc v n) e in
    go (has v vs) (merge_from_level vs (suc v) (x + y) g n (omega arith) f) (merge_from_level vs (suc v) y g n (omega arith) f)
  where
    go : (b : Bool) → level (merge_from vs (suc v) (x + y) g) (suc (kept_from vs (suc v) n)) ≡ (x + y) + level g n →
        level (merge_from vs (suc v) y g) (suc (kept_from vs (suc v) n)) ≡ y + level g n →
        level (cond b (merge_from vs (suc v) (x + y) g) (x ∷ merge_from vs (suc v) y g))
        (suc (cond b (kept_from vs (suc v) n) (suc (kept_from vs (suc v) n))))
        ≡ x + (y + level g n)
    go true p q = omega arith
    go false p q = omega arith

-- how many entries of a word are at most a number, by the numbers

under_none : (u : List ℕ) → ((x : ℕ) → Memᴰ x u → 1 ≤ x) → under u 0 ≡ 0
unfolding under
under_none [] h = refl
under_none (x ∷ u) h =
    rw (lt-leb x 0 (h x (Memᴰ.head refl))) (under_none u (λ (y : ℕ) (m : Memᴰ y u). h y (Memᴰ.tail m)))

under_all : (u : List ℕ) (n : ℕ) → ((x : ℕ) → Memᴰ x u → x ≤ n) → under u n ≡ length u
unfolding under
under_all [] n h = refl
under_all (x ∷ u) n h =
    rw (le-leb x n (h x (Memᴰ.head refl))) (ap suc (under_all u n (λ (y : ℕ) (m : Memᴰ y u). h y (Memᴰ.tail m))))

-- in a word of distinct entries one number more adds one entry, if it is an entry
under_next : (u : List ℕ) (a : ℕ) → distinct u ≡ true → under u (suc a) ≡ cond (has (suc a) u) (suc (under u a)) (under u a)
unfolding under has
under_next [] a d = refl
under_next (y ∷ u) a d =
    let (fresh, rest) = distinct_out y u d in
    go fresh (under_next u a rest) (below_or_not (suc a) y) (below_or_not a y)
  where
    spread : (b : Bool) (m n : ℕ) → m ≡ cond b (suc n) n → suc m ≡ cond b (suc (suc n)) (suc n)
    spread true m n e = ap suc e
    spread false m n e = ap suc e

    go : (Memᴰ y u → ⊥) → under u (suc a) ≡ cond (has (suc a) u) (suc (under u a)) (under u a) →
        (suc a < y) ⊎ (y ≤ suc a) → (a < y) ⊎ (y ≤ a) →
        under (y ∷ u) (suc a) ≡ cond (eqb (suc a) y || has (suc a) u) (suc (under (y ∷ u) a)) (under (y ∷ u) a)
    go fresh e (inl h) k =
        rw (lt-leb y (suc a) h, lt-leb y a (omega arith), ne_eqb (suc a) y (λ (q : suc a ≡ y). omega arith)) e
    go fresh e (inr h) (inl k) =
        let q : suc a ≡ y = omega arith in
        let f : has (suc a) u ≡ false = not-true (has (suc a) u)
        (not_in (has (suc a) u) (λ t. fresh (Memᴰ.cast (sym q) (has_out (suc a) u t)))) in
        rw (le-leb y (suc a) h, lt-leb y a k, eq-eqb (suc a) y q) (ap suc (rw f at e))
    go fresh e (inr h) (inr k) =
        rw (le-leb y (suc a) h, le-leb y a k, ne_eqb (suc a) y (λ (q : suc a ≡ y). omega arith))
        (spread (has (suc a) u) (under u (suc a)) (under u a) e)

-- the entries that are kept
pub kept_bounds : (R p : List ℕ) {x : ℕ} → is_perm p ≡ true → Memᴰ x (without R p) → (1 ≤ x) × (x ≤ length p)
kept_bounds R p e m = perm_bounds p e (sublist_mem (without_sublist R p) m)

pub kept_distinct : (R w : List ℕ) → distinct w ≡ true → distinct (without R w) ≡ true
kept_distinct R w e = distinct_sublist (without_sublist R w) e

-- A value of p is among the values at the positions R or among those at the others, and not among
-- both.
module _ (R p : List ℕ) (perm : is_perm p ≡ true) (inside : all (within (length p)) R ≡ true) where
  removed_or_kept : (x : ℕ) → 1 ≤ x → x ≤ length p → has x (map (entry p) R) ≡ not (has x (without R p))
  removed_or_kept x l h = go (entry_onto (has_out x p (perm_has p x perm l h)))
    where
      one : (i j : ℕ) → 1 ≤ i → i ≤ length p → 1 ≤ j → j ≤ length p → entry p i ≡ x → entry p j ≡ x → i ≡ j
      one i j a b c d q r = entry_injective p i j (perm_distinct p perm) a b c d (q ∙ sym r)

      apart : (i : ℕ) → 1 ≤ i → i ≤ length p → entry p i ≡ x → (b : Bool) → has i R ≡ b → has x (map (entry p) R) ≡
          not (has x (without R p))
      apart i a b q true e =
          let there : has x (map (entry p) R) ≡ true = has_in (Memᴰ.cast (sym q) (Memᴰ.map (entry p) (has_out i R e))) in
          there ∙ sym (not_in (has x (without R p)) (λ t.
          let (j, c, d, f, r) = without_out R p (has_out x (without R p) t) in
          true_not_false (sym (rw (one i j a b c d q r) at e) ∙ f)))
      apart i a b q false e =
          let there : has x (without R p) ≡ true = has_in (Memᴰ.cast (sym q) (without_in R p i a b e)) in
          rw there (not-true (has x (map (entry p) R)) (not_in (has x (map (entry p) R)) (λ t.
          let (j, m, r) = Memᴰ.of_map (entry p) R (has_out x (map (entry p) R) t) in
          let (c, d) = within_out (length p) j (all_out (within (length p)) m inside) in
          true_not_false (sym (has_in (Memᴰ.cast (one i j a b c d q r) m)) ∙ e))))

      go : (i : ℕ) × (1 ≤ i) × (i ≤ length p) × (entry p i ≡ x) → has x (map (entry p) R) ≡ not (has x (without R p))
      go (i, a, b, q) = apart i a b q (has i R) refl

  -- the place of a number among the kept values
  under_kept : (a : ℕ) → a ≤ length p → under (without R p) a ≡ kept_from (map (entry p) R) 1 a
  unfolding kept_from
  under_kept zero h = under_none (without R p) (λ (x : ℕ) (m : Memᴰ x (without R p)). (kept_bounds R p perm m).0)
  under_kept (suc a) h =
      let e : has (1 + a) (map (entry p) R) ≡ not (has (suc a) (without R p)) =
      rw (suc-add, zero-add) (removed_or_kept (suc a) (omega arith) h) in
      under_next (without R p) a (kept_distinct R p (perm_distinct p perm)) ∙
      go (has (suc a) (without R p)) (under_kept a (omega arith)) e ∙ sym (kept_last (map (entry p) R) 1 a)
    where
      go : (b : Bool) → under (without R p) a ≡ kept_from (map (entry p) R) 1 a → has (1 + a) (map (entry p) R) ≡ not b →
          cond b (suc (under (without R p) a)) (under (without R p) a)
          ≡ cond (has (1 + a) (map (entry p) R)) (kept_from (map (entry p) R) 1 a) (suc (kept_from (map (entry p) R) 1 a))
      go true q e = rw (e, q)
      go false q e = rw (e, q)

-- The merged spacing

pub merged_length : (R p g : List ℕ) → is_perm p ≡ true → length g ≡ suc (length p) → all (within (length p)) R ≡ true →
    length (merged R p g) ≡ suc (length (deleted R p))
unfolding merged deleted
merged_length R p [] perm e inside = absurd (omega arith)
merged_length R p (x ∷ g) perm e inside =
    let vs : List ℕ = map (entry p) R in
    let k : length p ≡ length g = omega arith in
    merge_from_length vs 1 x g ∙ ap suc (rw (← k) (sym (under_kept R p perm inside (length p) (omega arith))) ∙
    under_all (without R p) (length p) (λ (y : ℕ) (m : Memᴰ y (without R p)). (kept_bounds R p perm m).1) ∙
    sym (length_reduce (without R p)))

-- the level of a kept value is the same before and after
pub merged_level : (R p g : List ℕ) → is_perm p ≡ true → length g ≡ suc (length p) → all (within (length p)) R ≡ true →
    (a : ℕ) → Memᴰ a (without R p) → level (merged R p g) (under (without R p) a) ≡ level g a
unfolding merged level
merged_level R p [] perm e inside a m = absurd (omega arith)
merged_level R p (x ∷ g) perm e inside zero m = let b = kept_bounds R p perm m in absurd (omega arith)
merged_level R p (x ∷ g) perm e inside (suc n) m =
    let vs : List ℕ = map (entry p) R in
    let (low, high) = kept_bounds R p perm m in
    let out : has (1 + n) vs ≡ false = rw (suc-add, zero-add) (removed_or_kept R p perm inside (suc n) low high ∙ ap not (has_in m)) in
    let place : under (without R p) (suc n) ≡ suc (kept_from vs 1 n) = under_kept R p perm inside (suc n) high ∙
    kept_last vs 1 n ∙ rw out refl in
    ap (level (merge_from vs 1 x g)) place ∙ merge_from_level vs 1 x g n (omega arith) out

pub merged_total : (R p g : List ℕ) → total (merged R p g) ≡ total g
unfolding merged total
merged_total R p [] = refl
merged_total R p (x ∷ g) = merge_from_total (map (entry p) R) 1 x g
