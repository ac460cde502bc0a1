-- The patterns of a set in memory from a place on: whether one of them is contained, and the
-- earliest that has a copy.
-- Assumes nothing.
use Prim.Native.Nat.{ℕ, zero, suc, ◌+◌, ◌-◌, ◌≤◌, ◌<◌}
use mathlib.Core.Path.{◌≡◌, refl}
use mathlib.Core.Bool.{true, false, not}
use mathlib.Core.List.{List, [], ◌∷◌}
use native.Mathlib.Nat.{sub-zero}
use native.Mathlib.Numerals.{add-one}
use native.Mathlib.Omega.{arith}
use lib.ListN.{length, get_or, take, drop, drop_of_length-le}
use lib.Seq.{drop-cons}
use Rattle.word.specs.Word.{contains, avoids, first_copy}
use Rattle.word.specs.Earliest.{nowhere, copy_or, earliest_from, earliest}
use Rattle.word.specs.Patterns.{patterns_of}

-- the patterns from place i on
unfoldable pub from : List (List ℕ) → List ℕ → ℕ → ℕ → List (List ℕ)
from rows lengths n i = patterns_of (drop i rows) (drop i lengths) (n - i)

pub from_start : (rows : List (List ℕ)) (lengths : List ℕ) (n : ℕ) → patterns_of rows lengths n ≡ from rows lengths n 0
unfolding from
from_start rows lengths n = rw (sub-zero n) refl

pub from_counted : (rows : List (List ℕ)) (lengths : List ℕ) (n i : ℕ) → n ≤ i → from rows lengths n i ≡ []
unfolding from
from_counted rows lengths n i h = go (n - i) (omega arith)
  where
    go : (m : ℕ) → m ≡ 0 → patterns_of (drop i rows) (drop i lengths) m ≡ []
    go m e = rw e refl

pub from_end : (rows : List (List ℕ)) (lengths : List ℕ) (n i : ℕ) → length rows ≤ i → from rows lengths n i ≡ []
unfolding from
from_end rows lengths n i h = rw (drop_of_length-le rows h) (go (n - i))
  where
    go : (m : ℕ) → patterns_of [] (drop i lengths) m ≡ []
    go zero = refl
    go (suc m) = refl

module _ (rows : List (List ℕ)) (lengths : List ℕ) (n i : ℕ) (hr : i < length rows) (hl : i < length lengths) (hn : i < n) where
  pub from_cons : from rows lengths n i ≡ take (get_or lengths i 0) (get_or rows i []) ∷ from rows lengths n (i + 1)
  unfolding from
  from_cons = rw (drop-cons rows i [] hr, drop-cons lengths i 0 hl, add-one i) (go (n - i) (n - suc i) (omega arith))
    where
      go : (m k : ℕ) → m ≡ suc k →
          patterns_of (get_or rows i [] ∷ drop (suc i) rows) (get_or lengths i 0 ∷ drop (suc i) lengths) m ≡
          take (get_or lengths i 0) (get_or rows i []) ∷ patterns_of (drop (suc i) rows) (drop (suc i) lengths) k
      go m k e = rw e refl

module _ (rows : List (List ℕ)) (lengths : List ℕ) (n : ℕ) (w : List ℕ) (i : ℕ) (hr : i < length rows)
    (hl : i < length lengths) (hn : i < n) where
  -- whether one of them stands in w
  pub some_here : contains (take (get_or lengths i 0) (get_or rows i [])) w ≡ true → not (avoids (from rows lengths n i) w) ≡ true
  unfolding avoids
  some_here e = rw (from_cons rows lengths n i hr hl hn, e) refl

  pub some_later : contains (take (get_or lengths i 0) (get_or rows i [])) w ≡ false →
      not (avoids (from rows lengths n i) w) ≡ not (avoids (from rows lengths n (i + 1)) w)
  unfolding avoids
  some_later e = rw (from_cons rows lengths n i hr hl hn, e) refl

  -- the earliest of them that has a copy, counted from i on
  pub early_cons : earliest_from i (from rows lengths n i) w ≡
      copy_or i (first_copy (take (get_or lengths i 0) (get_or rows i [])) w) (earliest_from (i + 1) (from rows lengths n (i + 1)) w)
  unfolding earliest_from
  early_cons = rw (from_cons rows lengths n i hr hl hn, add-one i) refl

-- behind the last of them nothing stands
pub some_none : (P : List (List ℕ)) (w : List ℕ) → P ≡ [] → not (avoids P w) ≡ false
unfolding avoids
some_none P w e = rw e refl

pub early_none : (i : ℕ) (P : List (List ℕ)) (w : List ℕ) → P ≡ [] → earliest_from i P w ≡ nowhere
unfolding earliest_from
early_none i P w e = rw e refl

pub early_start : (P Q : List (List ℕ)) (w : List ℕ) → P ≡ Q → earliest P w ≡ earliest_from 0 Q w
unfolding earliest
early_start P Q w e = rw e refl
