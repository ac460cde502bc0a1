-- The walk over a spacing for its rank, and the next spacing in memory.
-- Assumes nothing.
use Prim.Native.Nat.{ℕ, zero, suc, ◌+◌, ◌*◌, ◌-◌, ◌≤◌, ◌<◌}
use native.Mathlib.Numerals.{add-one}
use native.Mathlib.Omega.{arith}
use mathlib.Core.Path.{◌≡◌, refl, sym, ap, ap₂, ◌∙◌}
use mathlib.Core.Logic.{◌⊎◌, inl, inr}
use mathlib.Core.Bool.{true, false}
use mathlib.Core.List.{List, [], ◌∷◌}
use lib.ListN.{length, get_or, take, drop, set, drop_of_length-le}
use lib.Seq.{length-take-le, drop-cons, get_or-take, take-set-lt}
use Rattle.word.specs.Ceilings.{LENGTH}
use Rattle.word.specs.Word.{has}
use Rattle.word.specs.ListLaws.{below_or_not}
use Rattle.cell.specs.Cell.{total, merge_values}
use Rattle.cell.specs.Binomial.{binomial}
use Rattle.spacing.specs.Sizes.{CHOICES}
use Rattle.spacing.specs.Rank.{rank_after, carry, next_of}
use Rattle.spacing.specs.RankLaws.{leave_from, merge_rank}
use Rattle.spacing.specs.PascalLaws.{binomial_small}

-- The walk: what is counted, and what is still to come. G is the spacing, vs are the values that
-- are left out, z is the next value, t its number.
pub record Walk (G : List ℕ) (k : ℕ) (vs : List ℕ) (start z count rank t : ℕ) : Type 0 where
  pub whole : rank_after start 0 (merge_values vs G) ≡ rank + leave_from vs t count z (drop t G)
  pub low : 1 ≤ t
  pub high : t ≤ k + 1
  pub counted : count < start + t
  pub fits : z + total (drop t G) + (k + 1 - t) ≤ LENGTH
  pub small : rank ≤ t * CHOICES

-- where no value is left out
pub none_left : (t : ℕ) → has t [] ≡ false
unfolding has
none_left t = refl

-- the spacing is the first k + 1 components of an array
module _ (g : List ℕ) (k : ℕ) (vs : List ℕ) (start : ℕ) (room : k < length g) where
  wide : length (take (k + 1) g) ≡ k + 1
  wide = length-take-le (k + 1) g (omega arith)

  pub walk_start : (z : ℕ) → z ≡ get_or g 0 0 → k + total (take (k + 1) g) ≤ LENGTH → Walk (take (k + 1) g) k vs start z start 0 1
  unfolding total
  walk_start z q h = rw (q ∙ sym (get_or-take (k + 1) g 0 0 (omega arith))) (go (take (k + 1) g) wide h)
    where
      go : (l : List ℕ) → length l ≡ k + 1 → k + total l ≤ LENGTH → Walk l k vs start (get_or l 0 0) start 0 1
      go [] e h = absurd (omega arith)
      go (x ∷ l) e h =
          record {
            whole = merge_rank vs start x l ∙ omega arith;
            low = omega arith;
            high = omega arith;
            counted = omega arith;
            fits = omega arith;
            small = omega arith;
          }

  module _ (z count rank t : ℕ) (w : Walk (take (k + 1) g) k vs start z count rank t) where
    module _ (h : t ≤ k) where
      component : (y : ℕ) → y ≡ get_or g t 0 → y ≡ get_or (take (k + 1) g) t 0
      component y q = q ∙ sym (get_or-take (k + 1) g t 0 (omega arith))

      cut : drop t (take (k + 1) g) ≡ get_or (take (k + 1) g) t 0 ∷ drop (suc t) (take (k + 1) g)
      cut = drop-cons (take (k + 1) g) t 0 (omega (arith, wide))

      rest : total (drop t (take (k + 1) g)) ≡ get_or (take (k + 1) g) t 0 + total (drop (suc t) (take (k + 1) g))
      unfolding total
      rest = ap total cut

      leave : (y : ℕ) → y ≡ get_or (take (k + 1) g) t 0 → has t vs ≡ true → Walk (take (k + 1) g) k vs start (z + y) count rank (t + 1)
      unfolding leave_from
      leave y q e =
          record {
            whole = w.whole ∙ ap (λ n. rank + n) (ap (leave_from vs t count z) cut ∙ rw (e, add-one t, q) refl);
            low = omega arith;
            high = omega arith;
            counted = omega (arith, w.counted);
            fits = rw (add-one t) (omega (arith, w.fits, rest));
            small = omega (arith, w.small);
          }

      pub next_small : (y : ℕ) → y ≡ get_or g t 0 → z + y ≤ LENGTH
      next_small y q = omega (arith, w.fits, rest, component y q)

      pub walk_leave : (y : ℕ) → y ≡ get_or g t 0 → has t vs ≡ true → Walk (take (k + 1) g) k vs start (z + y) count rank (t + 1)
      walk_leave y q e = leave y (component y q) e

      pub value_small : z ≤ LENGTH
      value_small = omega (arith, w.fits)

      keeps : (y : ℕ) → y ≡ get_or (take (k + 1) g) t 0 → has t vs ≡ false →
          Walk (take (k + 1) g) k vs start (z + 1 + y) (count + 1) (rank + binomial z (count + 1)) (t + 1)
      unfolding leave_from
      keeps y q e =
          let m : suc z + y ≡ z + 1 + y = omega arith in
          let step : leave_from vs t count z (y ∷ drop (suc t) (take (k + 1) g)) ≡
          binomial z (count + 1) + leave_from vs (t + 1) (count + 1) (z + 1 + y) (drop (t + 1) (take (k + 1) g)) =
          rw (e, ← m, add-one t, add-one count) refl in
          let shape : drop t (take (k + 1) g) ≡ y ∷ drop (suc t) (take (k + 1) g) =
          cut ∙ ap (λ n. n ∷ drop (suc t) (take (k + 1) g)) (sym q) in
          record {
            whole = w.whole ∙ ap (λ n. rank + n) (ap (leave_from vs t count z) shape ∙ step) ∙ omega arith;
            low = omega arith;
            high = omega arith;
            counted = omega (arith, w.counted);
            fits = rw (add-one t) (omega (arith, w.fits, rest));
            small = omega (arith, w.small, binomial_small z (count + 1) value_small);
          }

      pub walk_keep : (y n : ℕ) → y ≡ get_or g t 0 → n ≡ binomial z (count + 1) → has t vs ≡ false →
          Walk (take (k + 1) g) k vs start (z + 1 + y) (count + 1) (rank + n) (t + 1)
      walk_keep y n q r e = rw r (keeps y (component y q) e)

    pub walk_end : k < t → rank ≡ rank_after start 0 (merge_values vs (take (k + 1) g))
    unfolding leave_from
    walk_end h = sym (w.whole ∙ rw ended (omega arith))
      where
        ended : drop t (take (k + 1) g) ≡ []
        ended = let h : length (take (k + 1) g) ≤ t = omega (arith, wide) in drop_of_length-le (take (k + 1) g) h

-- The next spacing: the first m components of h are 0.

pub carry_found : (t y m : ℕ) (h : List ℕ) → ((a : ℕ) → a < m → get_or h a 0 ≡ 0) → m < length h → get_or h m 0 ≡ suc y →
    carry t h ≡ set (set (0 ∷ h) (suc m) y) m (suc t)
unfolding carry
carry_found t y m [] z l e = absurd (omega arith)
carry_found t y zero (x ∷ h) z l e = rw e refl
carry_found t y (suc m) (x ∷ h) z l e =
    let q : x ≡ 0 = z 0 (omega arith) in
    let s = carry_found t y m h (λ (a : ℕ) (b : a < m). z (suc a) (omega arith)) (omega arith) e in
    ap (λ n. carry t (n ∷ h)) q ∙ ap (λ (v : List ℕ). 0 ∷ v) s ∙ ap (λ n. 0 ∷ set (set (n ∷ h) (suc m) y) m (suc t)) (sym q)

pub carry_none : (t : ℕ) (h : List ℕ) → ((a : ℕ) → a < length h → get_or h a 0 ≡ 0) → carry t h ≡ set (0 ∷ h) (length h) t
unfolding carry
carry_none t [] z = refl
carry_none t (x ∷ h) z =
    let q : x ≡ 0 = z 0 (omega arith) in
    let s = carry_none t h (λ (a : ℕ) (b : a < length h). z (suc a) (omega arith)) in
    ap (λ n. carry t (n ∷ h)) q ∙ ap (λ (v : List ℕ). 0 ∷ v) s ∙ ap (λ n. 0 ∷ set (n ∷ h) (length h) t) (sym q)

-- the components 1 to i - 1 are 0
abbrev pub Zeros : List ℕ → ℕ → Type 0
Zeros g i = (a : ℕ) → 1 ≤ a → a < i → get_or g a 0 ≡ 0

pub zeros_more : (g : List ℕ) (i : ℕ) → Zeros g i → get_or g i 0 ≡ 0 → Zeros g (i + 1)
zeros_more g i z e a l h = go (below_or_not a i)
  where
    go : (a < i) ⊎ (i ≤ a) → get_or g a 0 ≡ 0
    go (inl b) = z a l b
    go (inr b) = let q : a ≡ i = omega arith in ap (λ n. get_or g n 0) q ∙ e

-- a component is at most the total
pub part_small : (g : List ℕ) (i : ℕ) → get_or g i 0 ≤ total g
unfolding total
part_small [] i = omega arith
part_small (x ∷ g) zero = omega arith
part_small (x ∷ g) (suc i) = omega (arith, part_small g i)

pub next_found : (G : List ℕ) (i y : ℕ) → 1 ≤ i → i < length G → Zeros G i → get_or G i 0 ≡ suc y →
    next_of G ≡ set (set (set G 0 0) i y) (i - 1) (get_or G 0 0 + 1)
unfolding next_of
next_found [] i y l h z e = absurd (omega arith)
next_found (t ∷ G) zero y l h z e = absurd (omega arith)
next_found (t ∷ G) (suc m) y l h z e =
    let q : m ≡ suc m - 1 = omega arith in
    let p : suc t ≡ t + 1 = omega arith in
    carry_found t y m G (λ (a : ℕ) (b : a < m). z (suc a) (omega arith) (omega arith)) (omega arith) e ∙
    ap₂ (λ (i n : ℕ). set (set (0 ∷ G) (suc m) y) i n) q p

pub next_none : (G : List ℕ) (k : ℕ) → length G ≡ k + 1 → Zeros G (k + 1) → next_of G ≡ set (set G 0 0) k (get_or G 0 0)
unfolding next_of
next_none [] k l z = absurd (omega arith)
next_none (t ∷ G) k l z =
    let q : length G ≡ k = omega arith in
    carry_none t G (λ (a : ℕ) (b : a < length G). z (suc a) (omega arith) (omega arith)) ∙ ap (λ (i : ℕ). set (0 ∷ G) i t) q

-- the same in an array, of which the spacing is the first k + 1 components
module _ (g : List ℕ) (k : ℕ) (fits : k + 1 ≤ length g) where
  size : length (take (k + 1) g) ≡ k + 1
  size = length-take-le (k + 1) g fits

  zeros : (i : ℕ) → i ≤ k + 1 → Zeros g i → Zeros (take (k + 1) g) i
  zeros i l z a b h = get_or-take (k + 1) g a 0 (omega arith) ∙ z a b h

  pub first_small : get_or g 0 0 ≤ total (take (k + 1) g)
  first_small = omega (arith, part_small (take (k + 1) g) 0, get_or-take (k + 1) g 0 0 (omega arith))

  pub found_memory : (i y : ℕ) → 1 ≤ i → i ≤ k → Zeros g i → y ≡ get_or g i 0 → (y ≡ 0 → ⊥) →
      take (k + 1) (set (set (set g 0 0) i (y - 1)) (i - 1) (get_or g 0 0 + 1)) ≡ next_of (take (k + 1) g)
  found_memory i y l h z e n =
      let q = get_or-take (k + 1) g i 0 (omega arith) in
      let s : get_or (take (k + 1) g) i 0 ≡ suc (y - 1) = omega arith in
      let o = get_or-take (k + 1) g 0 0 (omega arith) in
      take-set-lt (k + 1) (set (set g 0 0) i (y - 1)) (i - 1) (get_or g 0 0 + 1) (omega arith) ∙
      ap (λ (u : List ℕ). set u (i - 1) (get_or g 0 0 + 1))
      (take-set-lt (k + 1) (set g 0 0) i (y - 1) (omega arith) ∙
      ap (λ (u : List ℕ). set u i (y - 1)) (take-set-lt (k + 1) g 0 0 (omega arith))) ∙
      ap (λ m. set (set (set (take (k + 1) g) 0 0) i (y - 1)) (i - 1) (m + 1)) (sym o) ∙
      sym (next_found (take (k + 1) g) i (y - 1) l (omega (arith, size)) (zeros i (omega arith) z) s)

  pub none_memory : Zeros g (k + 1) → take (k + 1) (set (set g 0 0) k (get_or g 0 0)) ≡ next_of (take (k + 1) g)
  none_memory z =
      let o = get_or-take (k + 1) g 0 0 (omega arith) in
      take-set-lt (k + 1) (set g 0 0) k (get_or g 0 0) (omega arith) ∙
      ap₂ (λ (u : List ℕ) (m : ℕ). set u k m) (take-set-lt (k + 1) g 0 0 (omega arith)) (sym o) ∙
      sym (next_none (take (k + 1) g) k size (zeros (k + 1) (omega arith) z))
