-- The patterns of a set from a place on: whether one of them stands in a word, and what is shown of
-- the earliest that has a copy.
-- Assumes nothing.
use Prim.Native.Nat.{ℕ, ◌+◌, ◌<◌, ◌≤◌}
use mathlib.Core.Path.{◌≡◌, refl, sym, ap, ◌∙◌}
use mathlib.Core.Bool.{Bool, true, false, not, ◌||◌, ◌&&◌}
use mathlib.Core.List.{List, [], ◌∷◌}
use mathlib.Core.Option.{Option as Maybe, none, some}
use native.Mathlib.Numerals.{add-one}
use lib.ListN.{length, get_or, take, drop, drop_of_length-le}
use lib.Seq.{take_all, drop-cons}
use Rattle.std.specs.Prelude.{Option, Some, None}
use Rattle.std.specs.List.{list_any}
use Rattle.word.specs.Word.{contains, avoids, first_copy}
use Rattle.word.specs.Earliest.{Earliest, nowhere, copy_or, earliest_from}
use Rattle.forms.specs.SetMemory.{held, held_in}
use Rattle.forms.specs.HeldLaws.{held_few}
use Rattle.forms.specs.declared.memory.Pattern.{Pattern}
use Rattle.copy_search.specs.Copy.{shown, placed}
use Rattle.containment.specs.SetCopies.{shown_in}
use Rattle.word.proofs.EarliestLaws.{copy_length}

-- the first copy of a pattern in memory is sought with all its digits
pub short_copy : (p : Pattern) (l w : List ℕ) (r : Option (List ℕ)) → r ≡ shown (first_copy (take 8 l) w) → l ≡ held p →
    r ≡ shown (first_copy (held p) w)
short_copy p l w r e q = e ∙ ap (λ (m : List ℕ). shown (first_copy m w)) (ap (take 8) q ∙ take_all 8 (held p) (held_few p))

-- one of the patterns stands in the word, or the word avoids them all
pub any_held : (s : List Pattern) (w : List ℕ) → list_any (λ p. contains (held p) w) s ≡ not (avoids (held_in s) w)
unfolding avoids
any_held [] w = refl
any_held (p ∷ s) w = go (contains (held p) w) (any_held s w)
  where
    go : (b : Bool) → list_any (λ p. contains (held p) w) s ≡ not (avoids (held_in s) w) →
        (b || list_any (λ p. contains (held p) w) s) ≡ not (not b && avoids (held_in s) w)
    go true e = refl
    go false e = e

-- the earliest of the patterns from place i on that has a copy
pub early_turn : (s : List Pattern) (w : List ℕ) (i : ℕ) (d : Pattern) → i < length s →
    earliest_from i (held_in (drop i s)) w ≡
    copy_or i (first_copy (held (get_or s i d)) w) (earliest_from (i + 1) (held_in (drop (i + 1) s)) w)
unfolding earliest_from
early_turn s w i d h = rw (drop-cons s i d h, add-one i) refl

-- a copy in hand is the earliest, or the search goes on
pub early_here : (β w : List ℕ) (i n : ℕ) (at : List ℕ) (later : Earliest) → n ≡ length β → Some at ≡ shown (first_copy β w) →
    Some (record { pattern = i; length = n; at = at }) ≡ shown_in (copy_or i (first_copy β w) later)
early_here β w i n at later l e = go (first_copy β w) refl e
  where
    go : (o : Maybe (List ℕ)) → first_copy β w ≡ o → Some at ≡ shown o →
        Some (record { pattern = i; length = n; at = at }) ≡ shown_in (copy_or i o later)
    go none s q = cc
    go (some k) s q =
        let size : n ≡ length k = l ∙ sym (copy_length β w k s) in
        let same : at ≡ placed k = cc in
        rw (size, same) refl

pub early_later : (β w : List ℕ) (i : ℕ) (later : Earliest) → None ≡ shown (first_copy β w) → copy_or i (first_copy β w) later ≡ later
early_later β w i later e = go (first_copy β w) e
  where
    go : (o : Maybe (List ℕ)) → None ≡ shown o → copy_or i o later ≡ later
    go none q = refl
    go (some k) q = cc

-- behind the last of them nothing stands
pub early_none : (s : List Pattern) (w : List ℕ) (i : ℕ) → length s ≤ i → earliest_from i (held_in (drop i s)) w ≡ nowhere
unfolding earliest_from
early_none s w i h = rw (drop_of_length-le s h) refl
