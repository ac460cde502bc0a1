-- Laws of the earliest pattern that has a copy: there is one exactly if the word does not avoid the
-- patterns, its copy is the first of that pattern, no earlier pattern has one; and the sizes of a
-- copy.
use Rattle.std.specs.Prelude.{ℕ, zero, suc, ◌+◌, ◌≤◌, ◌<◌, ◌≡◌, refl, true, false, not, ◌&&◌, length, get_or}
use Rattle.std.proofs.Common.{sym, ap, ◌∙◌, arith}
use mathlib.Core.List.{List, [], ◌∷◌, map, Memᴰ}
use Rattle.std.proofs.Math.Option.{Option, none, some}
use Rattle.std.proofs.lemmas.List.{length-map}
use Rattle.word.specs.Word.{entry, contains, first_copy, avoids}
use Rattle.word.specs.Earliest.{Earliest, nowhere, stands, copy_or, earliest_from, earliest, is_nowhere, positions_of}
use Rattle.word.specs.ListLaws.{sublist_mem, true_not_false, row_out}
use Rattle.word.specs.IsoLaws.{iso_length}
use Rattle.word.specs.CopyLaws.{found, copy_exactly, copy_is}

-- The first copy of one pattern

-- a copy has as many positions as the pattern has entries
pub copy_length : (β w at : List ℕ) → first_copy β w ≡ some at → length at ≡ length β
copy_length β w at h =
    sym (length-map at (entry w)) ∙ sym (iso_length β (map (entry w) at) (copy_is β w at h).1)

-- its positions are positions of the word
pub copy_within : (β w at : List ℕ) {x : ℕ} → first_copy β w ≡ some at → Memᴰ x at → (1 ≤ x) × (x ≤ length w)
copy_within β w at h m =
    let r = row_out 1 (length w) (sublist_mem (copy_is β w at h).0 m) in
    (r.0, omega (arith, r.1))

-- a pattern with a copy is contained, one without is not
found_some : (β w at : List ℕ) → first_copy β w ≡ some at → contains β w ≡ true
found_some β w at h = sym (copy_exactly β w) ∙ ap found h

found_none : (β w : List ℕ) → first_copy β w ≡ none → contains β w ≡ false
found_none β w h = sym (copy_exactly β w) ∙ ap found h

-- The earliest pattern

from_avoids : (k : ℕ) (P : List (List ℕ)) (w : List ℕ) → is_nowhere (earliest_from k P w) ≡ avoids P w
unfolding earliest_from avoids
from_avoids k [] w = refl
from_avoids k (β ∷ P) w = go (first_copy β w) refl (from_avoids (suc k) P w)
  where
    go : (o : Option (List ℕ)) → first_copy β w ≡ o → is_nowhere (earliest_from (suc k) P w) ≡ avoids P w →
        is_nowhere (copy_or k o (earliest_from (suc k) P w)) ≡ not (contains β w) && avoids P w
    go none h e = rw (found_none β w h) e
    go (some at) h e = rw (found_some β w at h) refl

-- no pattern has a copy exactly if the word avoids the patterns
pub earliest_avoids : (P : List (List ℕ)) (w : List ℕ) → is_nowhere (earliest P w) ≡ avoids P w
unfolding earliest
earliest_avoids P w = from_avoids 0 P w

pub nowhere_avoids : (P : List (List ℕ)) (w : List ℕ) → earliest P w ≡ nowhere → avoids P w ≡ true
nowhere_avoids P w h = sym (earliest_avoids P w) ∙ ap is_nowhere h

pub avoids_nowhere : (P : List (List ℕ)) (w : List ℕ) → avoids P w ≡ true → earliest P w ≡ nowhere
avoids_nowhere P w h = go (earliest P w) (earliest_avoids P w ∙ h)
  where
    go : (e : Earliest) → is_nowhere e ≡ true → e ≡ nowhere
    go nowhere q = refl
    go (stands i at) q = absurd (true_not_false (sym q))

pub fails_stands : (P : List (List ℕ)) (w : List ℕ) → avoids P w ≡ false →
    (i : ℕ) × (at : List ℕ) × (earliest P w ≡ stands i at)
fails_stands P w h = go (earliest P w) refl (earliest_avoids P w ∙ h)
  where
    go : (e : Earliest) → earliest P w ≡ e → is_nowhere e ≡ false → (i : ℕ) × (at : List ℕ) × (earliest P w ≡ stands i at)
    go nowhere s q = absurd (true_not_false q)
    go (stands i at) s q = (i, at, s)

-- of patterns counted from k on: the place of the earliest, its copy, and those before it
abbrev Place : ℕ → List (List ℕ) → List ℕ → ℕ → List ℕ → Type 0
Place k P w i at =
    (j : ℕ) × (i ≡ k + j) × (j < length P) × (first_copy (get_or P j []) w ≡ some at) ×
    ((t : ℕ) → t < j → contains (get_or P t []) w ≡ false)

from_is : (k : ℕ) (P : List (List ℕ)) (w : List ℕ) (i : ℕ) (at : List ℕ) → earliest_from k P w ≡ stands i at → Place k P w i at
unfolding earliest_from
from_is k [] w i at h = absurd (true_not_false (ap is_nowhere h))
from_is k (β ∷ P) w i at h = go (first_copy β w) refl h (λ q. from_is (suc k) P w i at q)
  where
    one_more : (j : ℕ) → first_copy β w ≡ none → ((t : ℕ) → t < j → contains (get_or P t []) w ≡ false) → (t : ℕ) → t < suc j →
        contains (get_or (β ∷ P) t []) w ≡ false
    one_more j s before zero b = found_none β w s
    one_more j s before (suc t) b = before t (omega arith)

    go : (o : Option (List ℕ)) → first_copy β w ≡ o → copy_or k o (earliest_from (suc k) P w) ≡ stands i at →
        (earliest_from (suc k) P w ≡ stands i at → Place (suc k) P w i at) → Place k (β ∷ P) w i at
    go none s q below =
        let (j, e, inside, copy, before) = below q in
        (suc j, omega arith, omega arith, copy, one_more j s before)
    go (some l) s q below =
        let e : ◌≡◌ {A = ℕ} i k = cc in
        let p : ◌≡◌ {A = List ℕ} l at = cc in
        (0, omega arith, omega arith, s ∙ ap some p, λ t b. absurd (omega arith))

-- the earliest pattern stands in the list, its copy is its first, and no earlier one is contained
pub earliest_is : (P : List (List ℕ)) (w : List ℕ) (i : ℕ) (at : List ℕ) → earliest P w ≡ stands i at →
    (i < length P) × (first_copy (get_or P i []) w ≡ some at) × ((j : ℕ) → j < i → contains (get_or P j []) w ≡ false)
unfolding earliest
earliest_is P w i at h =
    let (j, e, inside, copy, before) = from_is 0 P w i at h in
    let same : j ≡ i = omega arith in
    rw (← same) (inside, copy, before)

from_short : (k : ℕ) (P : List (List ℕ)) (w : List ℕ) (n : ℕ) → ((β : List ℕ) → Memᴰ β P → length β ≤ n) →
    length (positions_of (earliest_from k P w)) ≤ n
unfolding earliest_from
from_short k [] w n h = omega arith
from_short k (β ∷ P) w n h = go (first_copy β w) refl (from_short (suc k) P w n (λ α m. h α (Memᴰ.tail m)))
  where
    go : (o : Option (List ℕ)) → first_copy β w ≡ o → length (positions_of (earliest_from (suc k) P w)) ≤ n →
        length (positions_of (copy_or k o (earliest_from (suc k) P w))) ≤ n
    go none s b = b
    go (some at) s b =
        let short = h β (Memᴰ.head refl) in
        omega (arith, copy_length β w at s, short)

-- a copy is no longer than the patterns are
pub positions_short : (P : List (List ℕ)) (w : List ℕ) (n : ℕ) → ((β : List ℕ) → Memᴰ β P → length β ≤ n) →
    length (positions_of (earliest P w)) ≤ n
unfolding earliest
positions_short P w n h = from_short 0 P w n h
