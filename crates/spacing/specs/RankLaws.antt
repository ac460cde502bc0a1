-- Laws of ranks: below the number of spacings, different spacings have different ranks, the next
-- spacing has the next rank; the ranks after a split and after a merge.
use Rattle.std.specs.Prelude.{ℕ, zero, suc, ◌+◌, ◌-◌, ◌≤◌, ◌<◌, ◌≡◌, refl, ◌⊎◌, Bool, true, false, cond, List, [], ◌∷◌, length}
use Rattle.std.proofs.Common.{add-zero, arith, ap, ap₂, ◌∙◌, inl, inr}
use Rattle.word.specs.ListLaws.{below_or_not}
use Rattle.word.specs.Word.{has}
use Rattle.cell.specs.Cell.{total, merge_from, merge_values}
use Rattle.cell.specs.Binomial.{binomial}
use Rattle.cell.proofs.BinomialLaws.{binomial_above}
use Rattle.spacing.specs.Following.{first_vector}
use Rattle.spacing.specs.SpacingOrder.{first_length}
use Rattle.spacing.specs.Rank.{rank_from, rank_after, rank_of, carry, next_of}

-- Binomials

pub pascal : (n k : ℕ) → binomial (suc n) (suc k) ≡ binomial n k + binomial n (suc k)
unfolding binomial
pascal n k = refl

pub binomial_zero : (n : ℕ) → binomial n 0 ≡ 1
unfolding binomial
binomial_zero zero = refl
binomial_zero (suc n) = refl

binomial_step : (n k : ℕ) → binomial n k ≤ binomial (suc n) k
binomial_step n zero = omega (arith, binomial_zero n, binomial_zero (suc n))
binomial_step n (suc k) = omega (arith, pascal n k)

binomial_grows : (n d k : ℕ) → binomial n k ≤ binomial (n + d) k
binomial_grows n zero k = rw (add-zero n) (omega arith)
binomial_grows n (suc d) k =
    let e : n + suc d ≡ suc (n + d) = omega arith in
    rw e (omega (arith, binomial_grows n d k, binomial_step (n + d) k))

pub binomial_mono : (n m k : ℕ) → n ≤ m → binomial n k ≤ binomial m k
binomial_mono n m k h =
    let e : n + (m - n) ≡ m = omega arith in
    let l : binomial (n + (m - n)) k ≡ binomial m k = ap (λ x. binomial x k) e in
    omega (arith, binomial_grows n (m - n) k)

-- the values before, and the next one, rank below the next binomial
below_next : (i z s : ℕ) → s < binomial z i → s + binomial z (suc i) < binomial (suc z) (suc i)
below_next i z s h = omega (arith, pascal z i)

-- Ranks are below the number of spacings

rank_below : (i z s : ℕ) (g : List ℕ) → s < binomial z i → s + rank_from i z g < binomial (z + (total g + length g)) (i + length g)
unfolding rank_from total
rank_below i z s [] h =
    let e : z + (0 + 0) ≡ z = omega arith in
    let f : i + 0 ≡ i = omega arith in
    rw (e, f) (omega arith)
rank_below i z s (y ∷ g) h =
    let e : z + ((y + total g) + suc (length g)) ≡ (suc z + y) + (total g + length g) = omega arith in
    let f : i + suc (length g) ≡ suc i + length g = omega arith in
    let n = below_next i z s h in
    let m = binomial_mono (suc z) (suc z + y) (suc i) (omega arith) in
    let r = rank_below (suc i) (suc z + y) (s + binomial z (suc i)) g (omega arith) in
    rw (e, f) (omega arith)

pub rank_bound : (g : List ℕ) (k n : ℕ) → length g ≡ suc k → k + total g ≡ n → rank_of g < binomial n k
unfolding rank_of rank_after total
rank_bound [] k n e t = absurd (omega arith)
rank_bound (x ∷ g) k n e t =
    let z : 0 + x ≡ x = omega arith in
    let a : x + (total g + length g) ≡ n = omega arith in
    let b : 0 + length g ≡ k = omega arith in
    let r = rank_below 0 x 0 g (omega (arith, binomial_zero x)) in
    let q : binomial (x + (total g + length g)) (0 + length g) ≡ binomial n k = ap₂ binomial a b in
    rw z (omega arith)

-- Different spacings have different ranks

rank_same : (i z w s t : ℕ) (g h : List ℕ) → s < binomial z i → t < binomial w i → length g ≡ length h → z + total g ≡ w + total h →
    s + rank_from i z g ≡ t + rank_from i w h → (s ≡ t) × (z ≡ w) × (g ≡ h)
unfolding rank_from total
rank_same i z w s t [] [] a b l m e = (omega arith, omega arith, refl)
rank_same i z w s t [] (y ∷ h) a b l m e = absurd (omega arith)
rank_same i z w s t (x ∷ g) [] a b l m e = absurd (omega arith)
rank_same i z w s t (x ∷ g) (y ∷ h) a b l m e =
    let c = below_next i z s a in
    let d = below_next i w t b in
    let cm = binomial_mono (suc z) (suc z + x) (suc i) (omega arith) in
    let dm = binomial_mono (suc w) (suc w + y) (suc i) (omega arith) in
    let (p, q, r) =
    rank_same (suc i) (suc z + x) (suc w + y) (s + binomial z (suc i)) (t + binomial w (suc i)) g h (omega arith)
    (omega arith) (omega arith)
    (omega arith) (omega arith) in
    go c d p q r (below_or_not z w) (below_or_not w z)
  where
    go : s + binomial z (suc i) < binomial (suc z) (suc i) → t + binomial w (suc i) < binomial (suc w) (suc i) →
        s + binomial z (suc i) ≡ t + binomial w (suc i) → suc z + x ≡ suc w + y → g ≡ h →
        (z < w) ⊎ (w ≤ z) → (w < z) ⊎ (z ≤ w) → (s ≡ t) × (z ≡ w) × (x ∷ g ≡ y ∷ h)
    go c d p q r (inl u) v = absurd (omega (arith, binomial_mono (suc z) w (suc i) (omega arith)))
    go c d p q r (inr u) (inl v) = absurd (omega (arith, binomial_mono (suc w) z (suc i) (omega arith)))
    go c d p q r (inr u) (inr v) =
        let k : z ≡ w = omega arith in
        let n : binomial z (suc i) ≡ binomial w (suc i) = ap (λ m. binomial m (suc i)) k in
        let y : x ≡ y = omega arith in
        (omega arith, k, ap₂ ◌∷◌ y r)

pub rank_injective : (g h : List ℕ) → length g ≡ length h → total g ≡ total h → rank_of g ≡ rank_of h → g ≡ h
unfolding rank_of rank_after total
rank_injective [] [] l t e = refl
rank_injective [] (y ∷ h) l t e = absurd (omega arith)
rank_injective (x ∷ g) [] l t e = absurd (omega arith)
rank_injective (x ∷ g) (y ∷ h) l t e =
    let (p, q, r) =
    rank_same 0 (0 + x) (0 + y) 0 0 g h (omega (arith, binomial_zero (0 + x)))
    (omega (arith, binomial_zero (0 + y))) (omega arith) (omega arith) (omega arith) in
    ap₂ ◌∷◌ (omega arith) r

-- The next spacing

pub carry_length : (t : ℕ) (g : List ℕ) → length (carry t g) ≡ suc (length g)
unfolding carry
carry_length t [] = refl
carry_length t (zero ∷ g) = ap suc (carry_length t g)
carry_length t (suc y ∷ g) = refl

pub carry_total : (t : ℕ) (g : List ℕ) → total (carry t g) ≡ t + total g
unfolding carry total
carry_total t [] = refl
carry_total t (zero ∷ g) = omega (arith, carry_total t g)
carry_total t (suc y ∷ g) = omega arith

-- a list that is not empty
pub after_head : (i z : ℕ) (h : List ℕ) → 1 ≤ length h → rank_from i z h ≡ binomial z (suc i) + rank_after (suc i) (suc z) h
unfolding rank_from rank_after
after_head i z [] e = absurd (omega arith)
after_head i z (y ∷ h) e = refl

carry_rank : (i t : ℕ) (g : List ℕ) → 0 < total g → rank_after i i (carry t g) ≡ rank_after i i (t ∷ g) + binomial (i + t) i
unfolding carry total rank_after rank_from
carry_rank i t [] h = absurd (omega arith)
carry_rank i t (zero ∷ g) h =
    let e : i + 0 ≡ i = omega arith in
    let a : suc (i + t) + 0 ≡ suc i + t = omega arith in
    let b : rank_from (suc i) (suc (i + t) + 0) g ≡ rank_from (suc i) (suc i + t) g = ap (λ z. rank_from (suc i) z g) a in
    let o : suc i + t ≡ suc (i + t) = omega arith in
    let c : binomial (suc i + t) (suc i) ≡ binomial (suc (i + t)) (suc i) = ap (λ z. binomial z (suc i)) o in
    let r = carry_rank (suc i) t g (omega arith) in
    rw e (omega (
      arith,
      after_head i i (carry t g) (omega (arith, carry_length t g)),
      binomial_above i (suc i) (omega arith),
      pascal (i + t) i,
    ))
carry_rank i t (suc y ∷ g) h =
    let a : suc (i + suc t) + y ≡ suc (i + t) + suc y = omega arith in
    let b : rank_from (suc i) (suc (i + suc t) + y) g ≡ rank_from (suc i) (suc (i + t) + suc y) g = ap (λ z. rank_from (suc i) z g) a in
    let o : i + suc t ≡ suc (i + t) = omega arith in
    let c : binomial (i + suc t) (suc i) ≡ binomial (suc (i + t)) (suc i) = ap (λ z. binomial z (suc i)) o in
    omega (arith, pascal (i + t) i)

last_rank : (i t : ℕ) (g : List ℕ) → total g ≡ 0 → rank_after i i (t ∷ g) + binomial (i + t) i ≡ binomial (i + t + length g) (i + length g)
unfolding total rank_after rank_from
last_rank i t [] h =
    let a : i + t + 0 ≡ i + t = omega arith in
    let b : i + 0 ≡ i = omega arith in
    rw (a, b) (omega arith)
last_rank i t (zero ∷ g) h =
    let a : suc (i + t) + 0 ≡ suc i + t = omega arith in
    let b : rank_from (suc i) (suc (i + t) + 0) g ≡ rank_from (suc i) (suc i + t) g = ap (λ z. rank_from (suc i) z g) a in
    let o : suc i + t ≡ suc (i + t) = omega arith in
    let c : binomial (suc i + t) (suc i) ≡ binomial (suc (i + t)) (suc i) = ap (λ z. binomial z (suc i)) o in
    let d : i + t + suc (length g) ≡ suc i + t + length g = omega arith in
    let e : i + suc (length g) ≡ suc i + length g = omega arith in
    rw (d, e) (omega (arith, last_rank (suc i) t g (omega arith), pascal (i + t) i))
last_rank i t (suc y ∷ g) h = absurd (omega arith)

-- where there is a next rank, the next spacing has it
pub next_rank : (g : List ℕ) (k n : ℕ) → length g ≡ suc k → k + total g ≡ n → suc (rank_of g) < binomial n k →
    rank_of (next_of g) ≡ suc (rank_of g)
unfolding rank_of next_of total
next_rank [] k n l t h = absurd (omega arith)
next_rank (x ∷ g) k n l t h = go (below_or_not 0 (total g))
  where
    go : (0 < total g) ⊎ (total g ≤ 0) → rank_after 0 0 (carry x g) ≡ suc (rank_after 0 0 (x ∷ g))
    go (inl p) = omega (arith, carry_rank 0 x g p, binomial_zero (0 + x))
    go (inr p) =
        let a : 0 + x + length g ≡ n = omega arith in
        let b : 0 + length g ≡ k = omega arith in
        let c : binomial (0 + x + length g) (0 + length g) ≡ binomial n k = ap₂ binomial a b in
        absurd (omega (arith, last_rank 0 x g (omega arith), binomial_zero (0 + x)))

pub next_length : (g : List ℕ) → length (next_of g) ≡ length g
unfolding next_of
next_length [] = refl
next_length (x ∷ g) = carry_length x g

pub next_total : (g : List ℕ) → total (next_of g) ≡ total g
unfolding next_of total
next_total [] = refl
next_total (x ∷ g) = carry_total x g

-- the first spacing has the rank 0
first_after : (i k t : ℕ) → rank_after i i (first_vector k t) ≡ 0
unfolding first_vector rank_after rank_from
first_after i zero t = refl
first_after i (suc k) t =
    let e : i + 0 ≡ i = omega arith in
    rw e (omega (
      arith,
      after_head i i (first_vector k t) (omega (arith, first_length k t)),
      binomial_above i (suc i) (omega arith),
      first_after (suc i) k t,
    ))

pub first_rank : (k t : ℕ) → rank_of (first_vector k t) ≡ 0
unfolding rank_of
first_rank k t = first_after 0 k t

-- A merge: the walk over a spacing that leaves out the values of a list. z is the next value, u its
-- number counted from 1.
unfoldable pub leave_from : List ℕ → ℕ → ℕ → ℕ → List ℕ → ℕ
unfolding has binomial
leave_from vs u i z [] = 0
leave_from vs u i z (y ∷ g) = cond (has u vs) (leave_from vs (suc u) i (z + y) g)
    (binomial z (suc i) + leave_from vs (suc u) (suc i) (suc z + y) g)

merge_not_empty : (vs : List ℕ) (u x : ℕ) (g : List ℕ) → 1 ≤ length (merge_from vs u x g)
unfolding merge_from
merge_not_empty vs u x [] = omega arith
merge_not_empty vs u x (y ∷ g) = go (has u vs) (merge_not_empty vs (suc u) (x + y) g)
  where
    go : (b : Bool) → 1 ≤ length (merge_from vs (suc u) (x + y) g) →
        1 ≤ length (cond b (merge_from vs (suc u) (x + y) g) (x ∷ merge_from vs (suc u) y g))
    go true h = h
    go false h = omega arith

merge_after : (vs : List ℕ) (u i a x : ℕ) (g : List ℕ) → rank_after i a (merge_from vs u x g) ≡ leave_from vs u i (a + x) g
unfolding merge_from leave_from rank_after rank_from
merge_after vs u i a x [] = refl
merge_after vs u i a x (y ∷ g) = go (has u vs) (merge_after vs (suc u) i a (x + y) g) (merge_after vs (suc u) (suc i) (suc (a + x)) y g)
  where
    go : (b : Bool) → rank_after i a (merge_from vs (suc u) (x + y) g) ≡ leave_from vs (suc u) i (a + (x + y)) g →
        rank_after (suc i) (suc (a + x)) (merge_from vs (suc u) y g) ≡ leave_from vs (suc u) (suc i) (suc (a + x) + y) g →
        rank_after i a (cond b (merge_from vs (suc u) (x + y) g) (x ∷ merge_from vs (suc u) y g)) ≡
        cond b (leave_from vs (suc u) i (a + x + y) g) (binomial (a + x) (suc i) + leave_from vs (suc u) (suc i) (suc (a + x) + y) g)
    go true p q = let e : a + (x + y) ≡ a + x + y = omega arith in p ∙ ap (λ z. leave_from vs (suc u) i z g) e
    go false p q = after_head i (a + x) (merge_from vs (suc u) y g) (merge_not_empty vs (suc u) y g) ∙
        ap (λ n. binomial (a + x) (suc i) + n) q

-- the rank of the merged spacing, where i values more come before
pub merge_rank : (vs : List ℕ) (i x : ℕ) (g : List ℕ) → rank_after i 0 (merge_values vs (x ∷ g)) ≡ leave_from vs 1 i x g
unfolding merge_values
merge_rank vs i x g = merge_after vs 1 i 0 x g ∙ (let e : 0 + x ≡ x = omega arith in ap (λ z. leave_from vs 1 i z g) e)

-- the rank where nothing comes before
pub after_nothing : (g : List ℕ) → rank_after 0 0 g ≡ rank_of g
unfolding rank_of
after_nothing g = refl

-- no value merges nothing
merge_after_none : (u x : ℕ) (g : List ℕ) → merge_from [] u x g ≡ x ∷ g
unfolding merge_from has
merge_after_none u x [] = refl
merge_after_none u x (y ∷ g) = ap (λ (l : List ℕ). x ∷ l) (merge_after_none (suc u) y g)

pub merge_none : (g : List ℕ) → merge_values [] g ≡ g
unfolding merge_values
merge_none [] = refl
merge_none (x ∷ g) = merge_after_none 1 x g

-- a merge depends only on which of the values 1 to k a list has
merge_after_same : (vs ws : List ℕ) (u x : ℕ) (g : List ℕ) → ((v : ℕ) → u ≤ v → v < u + length g → has v vs ≡ has v ws) →
    merge_from vs u x g ≡ merge_from ws u x g
unfolding merge_from
merge_after_same vs ws u x [] h = refl
merge_after_same vs ws u x (y ∷ g) h =
    let later : (v : ℕ) → suc u ≤ v → v < suc u + length g → has v vs ≡ has v ws =
    λ (v : ℕ) (low : suc u ≤ v) (high : v < suc u + length g). h v (omega arith) (omega arith) in
    rw (
      h u (omega arith) (omega arith),
      merge_after_same vs ws (suc u) (x + y) g later,
      merge_after_same vs ws (suc u) y g later,
    ) refl

pub merge_same : (vs ws g : List ℕ) (k : ℕ) → length g ≡ suc k → ((v : ℕ) → 1 ≤ v → v ≤ k → has v vs ≡ has v ws) →
    merge_values vs g ≡ merge_values ws g
unfolding merge_values
merge_same vs ws [] k e h = refl
merge_same vs ws (x ∷ g) k e h =
    merge_after_same vs ws 1 x g (λ (v : ℕ) (low : 1 ≤ v) (high : v < 1 + length g). h v low (omega arith))
