-- The test for a permutation from a place on: what one entry adds to it.
-- Assumes nothing.
use Prim.Native.Nat.{ℕ, suc, ◌+◌, ◌≤◌, ◌<◌}
use mathlib.Core.Path.{◌≡◌, refl, sym}
use mathlib.Core.Bool.{Bool, true, false, ◌&&◌, and-false}
use mathlib.Core.List.{List, ◌∷◌}
use native.Mathlib.Numerals.{add-one}
use native.Mathlib.Omega.{arith}
use lib.ListN.{length, get_or, drop, drop_of_length-le}
use lib.Dec.{leb}
use lib.Seq.{drop-cons}
use borrow.Author.Tests.{le-leb, lt-leb, eq-eqb, ne_eqb}
use Rattle.word.specs.Lists.{all}
use Rattle.word.specs.Word.{has, distinct, within, is_perm}

-- the entries of w are from 1 to n, and none stands twice
unfoldable pub listed : ℕ → List ℕ → Bool
unfolding within distinct
listed n w = all (within n) w && distinct w

pub listed_whole : (w : List ℕ) → is_perm w ≡ listed (length w) w
unfolding is_perm listed
listed_whole w = refl

module _ (n : ℕ) (s : List ℕ) (i : ℕ) (h : i < length s) where
  pub listed_none : get_or s i 0 ≡ 0 → listed n (drop i s) ≡ false
  unfolding listed
  listed_none e = rw (drop-cons s i 0 h, e) refl

  pub listed_above : n < get_or s i 0 → listed n (drop i s) ≡ false
  unfolding listed
  listed_above e = rw (drop-cons s i 0 h, lt-leb (get_or s i 0) n e, and-false (leb 1 (get_or s i 0))) refl

  pub listed_twice : has (get_or s i 0) (drop (i + 1) s) ≡ true → listed n (drop i s) ≡ false
  unfolding listed
  listed_twice e =
      let later : has (get_or s i 0) (drop (suc i) s) ≡ true = rw (add-one i) at e in
      rw (drop-cons s i 0 h, later) (and-false (all (within n) (get_or s i 0 ∷ drop (suc i) s)))

  pub listed_next : (get_or s i 0 ≡ 0 → ⊥) → get_or s i 0 ≤ n → has (get_or s i 0) (drop (i + 1) s) ≡ false →
      listed n (drop i s) ≡ listed n (drop (i + 1) s)
  unfolding listed
  listed_next z a e =
      let later : has (get_or s i 0) (drop (suc i) s) ≡ false = rw (add-one i) at e in
      rw (add-one i, drop-cons s i 0 h, later, le-leb 1 (get_or s i 0) (omega arith), le-leb (get_or s i 0) n a) refl

-- an entry stands from i on, if it stands at i or later
module _ (x : ℕ) (s : List ℕ) (i : ℕ) where
  pub has_here : i < length s → get_or s i 0 ≡ x → has x (drop i s) ≡ true
  unfolding has
  has_here h e = rw (drop-cons s i 0 h, eq-eqb x (get_or s i 0) (sym e)) refl

  pub has_later : i < length s → (get_or s i 0 ≡ x → ⊥) → has x (drop i s) ≡ has x (drop (i + 1) s)
  unfolding has
  has_later h e = rw (add-one i, drop-cons s i 0 h, ne_eqb x (get_or s i 0) (λ q. e (sym q))) refl

  pub has_none : length s ≤ i → has x (drop i s) ≡ false
  unfolding has
  has_none h = rw (drop_of_length-le s h) refl

pub listed_end : (n : ℕ) (s : List ℕ) (i : ℕ) → length s ≤ i → listed n (drop i s) ≡ true
unfolding listed
listed_end n s i h = rw (drop_of_length-le s h) refl
