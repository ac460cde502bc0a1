-- Whether a pattern in memory is monotone, digit by digit, and the shortest one of a set.
-- Assumes nothing.
use Prim.Native.Nat.{ℕ, zero, suc, ◌+◌, ◌-◌, ◌≤◌, ◌<◌, min}
use mathlib.Core.Path.{◌≡◌, refl, sym, ◌∙◌}
use mathlib.Core.Bool.{Bool, true, false, ◌&&◌}
use mathlib.Core.List.{List, [], ◌∷◌}
use native.Mathlib.Numerals.{add-one}
use native.Mathlib.Omega.{arith}
use lib.ListN.{length, get_or, drop, drop_of_length-le, length-drop}
use lib.Seq.{drop-cons}
use Rattle.forms.specs.SetMemory.{held, held_in}
use Rattle.forms.specs.declared.memory.Pattern.{Pattern}
use Rattle.crowding.specs.Crowding.{precedes, monotone, monotone_length, shorter, shortest}
use Rattle.crowding.specs.MonotoneLaws.{monotone_next}

-- one digit more
module _ (up : Bool) (p : List ℕ) (i : ℕ) (pos : 1 ≤ i) (h : i < length p) where
  digits_next : monotone up (drop (i - 1) p) ≡ precedes up (get_or p (i - 1) 0) (get_or p i 0) && monotone up (drop i p)
  digits_next = go (i - 1) (omega arith) refl
    where
      go : (m : ℕ) → i ≡ suc m → i - 1 ≡ m →
          monotone up (drop (i - 1) p) ≡ precedes up (get_or p (i - 1) 0) (get_or p i 0) && monotone up (drop i p)
      go m z q =
          let one : m < length p = omega arith in
          let two : suc m < length p = omega arith in
          rw (q, z) (rw (drop-cons p m 0 one, drop-cons p (suc m) 0 two)
          (monotone_next up (get_or p m 0) (get_or p (suc m) 0) (drop (suc (suc m)) p)))

  pub digits_pass : precedes up (get_or p (i - 1) 0) (get_or p i 0) ≡ true → monotone up (drop (i - 1) p) ≡ monotone up (drop (i + 1 - 1) p)
  digits_pass e = let same : i + 1 - 1 ≡ i = omega arith in rw (digits_next, e, same) refl

  pub digits_fail : precedes up (get_or p (i - 1) 0) (get_or p i 0) ≡ false → monotone up (drop (i - 1) p) ≡ false
  digits_fail e = rw (digits_next, e) refl

pub digits_end : (up : Bool) (p : List ℕ) (i : ℕ) → 1 ≤ i → length p ≤ i → monotone up (drop (i - 1) p) ≡ true
unfolding monotone
digits_end up p i pos h = go (drop (i - 1) p) (omega (arith, length-drop (i - 1) p))
  where
    go : (w : List ℕ) → length w ≤ 1 → monotone up w ≡ true
    go [] l = refl
    go (x ∷ []) l = refl
    go (x ∷ (y ∷ w)) l = absurd (omega arith)

pub length_monotone : (up : Bool) (β : List ℕ) (k : ℕ) → length β ≡ k → monotone up β ≡ true → k ≡ monotone_length up β
unfolding monotone_length
length_monotone up β k l e = rw e (sym l)

pub length_other : (up : Bool) (β : List ℕ) → monotone up β ≡ false → 0 ≡ monotone_length up β
unfolding monotone_length
length_other up β e = rw e refl

-- the smaller of two lengths, where 0 is none
pub shorter_none : (a b : ℕ) → a ≡ 0 → b ≡ shorter a b
unfolding shorter
shorter_none a b e = rw e refl

pub shorter_zero : (a : ℕ) → shorter a 0 ≡ a
unfolding shorter
shorter_zero zero = refl
shorter_zero (suc a) = refl

pub shorter_min : (a b : ℕ) → (a ≡ 0 → ⊥) → (b ≡ 0 → ⊥) → shorter a b ≡ min a b
unfolding shorter
shorter_min zero b f g = absurd (f refl)
shorter_min (suc a) zero f g = absurd (g refl)
shorter_min (suc a) (suc b) f g = refl

shorter_assoc : (a b d : ℕ) → shorter a (shorter b d) ≡ shorter (shorter a b) d
unfolding shorter
shorter_assoc zero b d = refl
shorter_assoc (suc a) zero d = refl
shorter_assoc (suc a) (suc b) zero = sym (shorter_zero (min (suc a) (suc b)))
shorter_assoc (suc a) (suc b) (suc d) =
    shorter_min (suc a) (min (suc b) (suc d)) (λ e. omega arith) (λ (e : min (suc b) (suc d) ≡ 0). omega arith) ∙ same ∙
    sym (shorter_min (min (suc a) (suc b)) (suc d) (λ (e : min (suc a) (suc b) ≡ 0). omega arith) (λ e. omega arith))
  where
    same : min (suc a) (min (suc b) (suc d)) ≡ min (min (suc a) (suc b)) (suc d)
    same = omega arith

-- the shortest of a set in memory: of the patterns before place i, and of those from there on
pub shortest_start : (up : Bool) (P : List (List ℕ)) → shortest up P ≡ shorter 0 (shortest up P)
unfolding shorter
shortest_start up P = refl

pub shortest_end : (up : Bool) (best : ℕ) (s : List Pattern) (i : ℕ) → length s ≤ i → shorter best (shortest up (held_in (drop i s))) ≡ best
unfolding shortest
shortest_end up best s i h = rw (drop_of_length-le s h) (shorter_zero best)

pub shortest_more : (up : Bool) (s : List Pattern) (i best next : ℕ) (d : Pattern) → i < length s →
    next ≡ monotone_length up (held (get_or s i d)) →
    shorter best (shortest up (held_in (drop i s))) ≡ shorter (shorter best next) (shortest up (held_in (drop (i + 1) s)))
unfolding shortest
shortest_more up s i best next d h e =
    rw (drop-cons s i d h, add-one i, ← e) (shorter_assoc best next (shortest up (held_in (drop (suc i) s))))
