-- The state of `placed`: what placing the rest of the head in the rest of the prefix comes to, one
-- step at a time.
-- Assumes nothing.
use Prim.Native.Nat.{ℕ, ◌+◌, ◌≤◌, ◌<◌}
use mathlib.Core.Path.{◌≡◌, refl, ◌∙◌}
use mathlib.Core.Bool.{Bool, true, false, ◌&&◌, ◌||◌}
use mathlib.Core.List.{List, [], ◌∷◌, ◌++◌, Memᴰ}
use native.Mathlib.Numerals.{add-one}
use lib.ListN.{length, get_or, take, drop, set, drop_of_length-le}
use lib.Seq.{drop-cons, take-suc, take-suc-set}
use lib.Dec.{eqb}
use borrow.Author.Tests.{eq-eqb, ne_eqb}
use Rattle.word.specs.Vocabulary.{fits}
use Rattle.cell.specs.Candidate.{place}

module _ (need lev : ℕ → ℕ) (gone : ℕ → Bool) (H P : List ℕ) where
  -- the entries of the head from place s on are to be placed in the prefix from index i on, behind
  -- the values of `chosen`
  abbrev pub state : Bool → List ℕ → ℕ → ℕ → Bool
  state used chosen s i = place need lev gone used (take s H) (take s chosen) (drop s H) (drop i P)

  pub placed_done : (used : Bool) (chosen : List ℕ) (s i : ℕ) → length H ≤ s → state used chosen s i ≡ used
  unfolding place
  placed_done used chosen s i h = rw (drop_of_length-le H h) refl

  pub placed_none : (used : Bool) (chosen : List ℕ) (s i : ℕ) → s < length H → length P ≤ i → state used chosen s i ≡ false
  unfolding place
  placed_none used chosen s i h j = rw (drop-cons H s 0 h, drop_of_length-le P j) refl

  module _ (used : Bool) (chosen : List ℕ) (s i : ℕ) (h : s < length H) (j : i < length P) (room : s < length chosen) where
    -- the entry at place s stands at the value at index i, or at a later one
    step : state used chosen s i ≡
        (eqb (lev (get_or P i 0)) (need (get_or H s 0)) && (fits (take s H) (get_or H s 0) (take s chosen) (get_or P i 0) &&
        state (used || gone (get_or P i 0)) (set chosen s (get_or P i 0)) (s + 1) (i + 1))) || state used chosen s (i + 1)
    unfolding place
    step = rw (add-one s, add-one i, take-suc H s 0 h, take-suc-set chosen s (get_or P i 0) room, drop-cons P i 0 j, drop-cons H s 0 h) refl

    pub placed_level : (lev (get_or P i 0) ≡ need (get_or H s 0) → ⊥) → state used chosen s i ≡ state used chosen s (i + 1)
    placed_level e = step ∙ rw (ne_eqb (lev (get_or P i 0)) (need (get_or H s 0)) e) refl

    module _ (e : lev (get_or P i 0) ≡ need (get_or H s 0)) where
      pub placed_pairs : fits (take s H) (get_or H s 0) (take s chosen) (get_or P i 0) ≡ false → state used chosen s i ≡
          state used chosen s (i + 1)
      placed_pairs f = step ∙ rw (eq-eqb (lev (get_or P i 0)) (need (get_or H s 0)) e, f) refl

      module _ (f : fits (take s H) (get_or H s 0) (take s chosen) (get_or P i 0) ≡ true) where
        tried : state used chosen s i ≡ state (used || gone (get_or P i 0)) (set chosen s (get_or P i 0)) (s + 1)
            (i + 1) || state used chosen s (i + 1)
        tried = step ∙ rw (eq-eqb (lev (get_or P i 0)) (need (get_or H s 0)) e, f) refl

        pub placed_here : state (used || gone (get_or P i 0)) (set chosen s (get_or P i 0)) (s + 1) (i + 1) ≡ true →
            state used chosen s i ≡ true
        placed_here r = tried ∙ rw r refl

        pub placed_later : state (used || gone (get_or P i 0)) (set chosen s (get_or P i 0)) (s + 1) (i + 1) ≡ false →
            state used chosen s i ≡ state used chosen s (i + 1)
        placed_later r = tried ∙ rw r refl

-- placing depends on what the three functions say of the entries alone
pub place_same : (need need' lev lev' : ℕ → ℕ) (gone gone' : ℕ → Bool) (hs ps : List ℕ) →
    ((x : ℕ) → Memᴰ x hs → need x ≡ need' x) → ((a : ℕ) → Memᴰ a ps → lev a ≡ lev' a) →
    ((a : ℕ) → Memᴰ a ps → gone a ≡ gone' a) →
    (used : Bool) (b c : List ℕ) → place need lev gone used b c hs ps ≡ place need' lev' gone' used b c hs ps
unfolding place
place_same need need' lev lev' gone gone' [] ps n l d used b c = refl
place_same need need' lev lev' gone gone' (x ∷ hs) [] n l d used b c = refl
place_same need need' lev lev' gone gone' (x ∷ hs) (a ∷ ps) n l d used b c =
    rw (
      n x (Memᴰ.head refl),
      l a (Memᴰ.head refl),
      d a (Memᴰ.head refl),
      place_same need need' lev lev' gone gone' hs ps (λ y m. n y (Memᴰ.tail m))
          (λ y m. l y (Memᴰ.tail m)) (λ y m. d y (Memᴰ.tail m))
          (used || gone' a) (b ++ (x ∷ [])) (c ++ (a ∷ [])),
      place_same need need' lev lev' gone gone' (x ∷ hs) ps n (λ y m. l y (Memᴰ.tail m)) (λ y m. d y (Memᴰ.tail m)) used b c,
    ) refl
