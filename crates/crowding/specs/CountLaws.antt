-- Laws of counting: how many entries of a list follow a number or lie between two, and that these
-- numbers are the same for any two ways to complete a word to a permutation.
use Rattle.std.specs.Prelude.{ℕ, zero, suc, ◌+◌, ◌-◌, ◌≤◌, ◌<◌, min, ◌≡◌, refl, ◌⊎◌, Bool, true, false}
use Rattle.std.specs.Prelude.{cond, List, [], ◌∷◌, ◌++◌, length, leb}
use Rattle.std.proofs.Common.{sym, ap, ◌∙◌, inl, inr, arith, length-append, lt-ltb, le-ltb, le-leb}
use Rattle.std.proofs.Math.Dec.{leb-suc-suc}
use Rattle.std.proofs.lemmas.Bool.{lt-leb}
use Rattle.word.specs.Lists.{keep}
use Rattle.word.specs.Word.{under, is_perm}
use Rattle.word.specs.ListLaws.{below_or_not}
use Rattle.word.specs.IsoLaws.{under_mono}
use Rattle.word.specs.PermLaws.{under_perm, under_at_most}
use Rattle.crowding.specs.Crowding.{between, precedes}
use Rattle.crowding.specs.Followers.{following}

-- the entries between two numbers are those that follow both: where the first number is the smaller
-- one, every entry follows at least one of them
follow_one : (low high : ℕ) (w : List ℕ) → low < high → between low high w + length w ≡ following true low w + following false high w
unfolding between following
follow_one low high [] h = refl
follow_one low high (v ∷ w) h = go (below_or_not low v) (below_or_not v high) (follow_one low high w h)
  where
    go : (low < v) ⊎ (v ≤ low) → (v < high) ⊎ (high ≤ v) →
        between low high w + length w ≡ following true low w + following false high w →
        between low high (v ∷ w) + length (v ∷ w) ≡ following true low (v ∷ w) + following false high (v ∷ w)
    go (inl a) (inl b) e = rw (lt-ltb low v a, lt-ltb v high b) (omega arith)
    go (inl a) (inr b) e = rw (lt-ltb low v a, le-ltb v high b) (omega arith)
    go (inr a) (inl b) e = rw (le-ltb low v a, lt-ltb v high b) (omega arith)
    go (inr a) (inr b) e = absurd (omega arith)

-- else none follows both
follow_none : (low high : ℕ) (w : List ℕ) → high ≤ low →
    (between low high w ≡ 0) × (following true low w + following false high w ≤ length w)
unfolding between following
follow_none low high [] h = (refl, omega arith)
follow_none low high (v ∷ w) h = go (below_or_not low v) (below_or_not v high) (follow_none low high w h)
  where
    go : (low < v) ⊎ (v ≤ low) → (v < high) ⊎ (high ≤ v) →
        (between low high w ≡ 0) × (following true low w + following false high w ≤ length w) →
        (between low high (v ∷ w) ≡ 0) × (following true low (v ∷ w) + following false high (v ∷ w) ≤ length (v ∷ w))
    go (inl a) (inl b) e = absurd (omega arith)
    go (inl a) (inr b) e = rw (lt-ltb low v a, le-ltb v high b) (e.0, omega arith)
    go (inr a) (inl b) e = rw (le-ltb low v a, lt-ltb v high b) (e.0, omega arith)
    go (inr a) (inr b) e = rw (le-ltb low v a, le-ltb v high b) (e.0, omega arith)

pub between_is : (low high : ℕ) (w : List ℕ) → between low high w ≡ following true low w + following false high w - length w
between_is low high w = go (below_or_not low high)
  where
    go : (low < high) ⊎ (high ≤ low) → between low high w ≡ following true low w + following false high w - length w
    go (inl h) = omega (arith, follow_one low high w h)
    go (inr h) = let (a, b) = follow_none low high w h in omega arith

-- how many follow a number, by how many are at most that number
following_up : (x : ℕ) (w : List ℕ) → following true x w + under w x ≡ length w
unfolding following under
following_up x [] = refl
following_up x (v ∷ w) = go (below_or_not x v) (following_up x w)
  where
    go : (x < v) ⊎ (v ≤ x) → following true x w + under w x ≡ length w → following true x (v ∷ w) + under (v ∷ w) x ≡ length (v ∷ w)
    go (inl h) e = rw (lt-ltb x v h, lt-leb v x h) (omega arith)
    go (inr h) e = rw (le-ltb x v h, le-leb v x h) (omega arith)

following_down : (x : ℕ) (w : List ℕ) → following false (suc x) w ≡ under w x
unfolding following under
following_down x [] = refl
following_down x (v ∷ w) = rw (leb-suc-suc v x) (go (leb v x) (following_down x w))
  where
    go : (b : Bool) → following false (suc x) w ≡ under w x →
        length (cond b (v ∷ keep (precedes false (suc x)) w) (keep (precedes false (suc x)) w)) ≡ cond b (suc (under w x)) (under w x)
    go true e = ap suc e
    go false e = e

following_zero : (w : List ℕ) → following false 0 w ≡ 0
unfolding following
following_zero [] = refl
following_zero (v ∷ w) = rw (le-ltb v 0 (omega arith)) (following_zero w)

-- how many entries are at most a number, in joined lists and in a permutation
under_append : (u w : List ℕ) (x : ℕ) → under (u ++ w) x ≡ under u x + under w x
unfolding under
under_append [] w x = omega arith
under_append (y ∷ u) w x = go (leb y x) (under_append u w x)
  where
    go : (b : Bool) → under (u ++ w) x ≡ under u x + under w x →
        cond b (suc (under (u ++ w) x)) (under (u ++ w) x) ≡ cond b (suc (under u x)) (under u x) + under w x
    go true e = omega arith
    go false e = e

under_whole : (w : List ℕ) (x : ℕ) → is_perm w ≡ true → under w x ≡ min x (length w)
under_whole w x p = go (below_or_not x (length w))
  where
    go : (x < length w) ⊎ (length w ≤ x) → under w x ≡ min x (length w)
    go (inl h) = omega (arith, under_perm w x p (omega arith))
    go (inr h) =
        omega (arith, under_mono w (length w) x h, under_perm w (length w) p (omega arith), under_at_most w x)

-- two lists that complete a word to permutations of one length
module _ (u s t : List ℕ) (p : is_perm (u ++ s) ≡ true) (q : is_perm (u ++ t) ≡ true) (l : length (u ++ s) ≡ length (u ++ t)) where
  under_rest : (x : ℕ) → under s x ≡ under t x
  under_rest x = omega (arith, under_append u s x, under_append u t x, under_whole (u ++ s) x p, under_whole (u ++ t) x q)

  length_rest : length s ≡ length t
  length_rest = omega (arith, length-append u s, length-append u t)

  following_rest : (up : Bool) (x : ℕ) → following up x s ≡ following up x t
  following_rest true x = omega (arith, following_up x s, following_up x t, under_rest x, length_rest)
  following_rest false zero = following_zero s ∙ sym (following_zero t)
  following_rest false (suc x) = following_down x s ∙ under_rest x ∙ sym (following_down x t)

  pub between_rest : (low high : ℕ) → between low high s ≡ between low high t
  between_rest low high =
      omega (arith, between_is low high s, between_is low high t, following_rest true low, following_rest false high, length_rest)
