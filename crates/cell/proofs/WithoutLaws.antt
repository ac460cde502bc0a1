-- Laws of a word with some positions left out: it is a sublist, it has the entries of the other
-- positions, and what follows the positions stays.
use Rattle.std.specs.Prelude.{ℕ, zero, suc, ◌+◌, ◌≤◌, ◌<◌, ◌≡◌, refl, Bool, true, false, not, cond, length, get_or}
use Rattle.std.proofs.Common.{zero-add, suc-add, add-suc, add-zero, arith, sym, ap, ap₂, ◌∙◌, ne_eqb}
use mathlib.Core.List.Memᴰ
use mathlib.Core.List.{List, [], ◌∷◌, ◌++◌, map, Memᴰ}
use mathlib.Core.List.{Sublistᴰ}
use Rattle.std.proofs.lemmas.Bool.{not-true}
use Rattle.word.specs.Lists.{all, keep, row, one_to}
use Rattle.word.specs.Word.{has, within, distinct, entry}
use Rattle.word.specs.ListLaws.{not_in, all_out, keep_out, keep_in, row_out, row_in, get_or_mem}
use Rattle.word.specs.PermLaws.{has_out, within_out, distinct_out, distinct_in}
use Rattle.cell.specs.Cell.{without}
use Rattle.word.specs.ListLaws.{sublist_mem}

-- the entries of w at the positions that are not in R, where the first position of w is i
unfoldable pub without_from : List ℕ → ℕ → List ℕ → List ℕ
unfolding has
without_from R i [] = []
without_from R i (x ∷ w) = cond (has i R) (without_from R (suc i) w) (x ∷ without_from R (suc i) w)

keep_from : (R : List ℕ) (f : ℕ → ℕ) (i : ℕ) (w : List ℕ) → ((j : ℕ) → j < length w → f (i + j) ≡ get_or w j 0) →
    map f (keep (λ j. not (has j R)) (row i (length w))) ≡ without_from R i w
unfolding without_from
keep_from R f i [] h = refl
keep_from R f i (x ∷ w) h = go (has i R) (keep_from R f (suc i) w later)
  where
    later : (j : ℕ) → j < length w → f (suc i + j) ≡ get_or w j 0
    later j l = rw (suc-add, ← add-suc i j) (h (suc j) (omega arith))

    go : (b : Bool) → map f (keep (λ j. not (has j R)) (row (suc i) (length w))) ≡ without_from R (suc i) w →
        map f (cond (not b) (i ∷ keep (λ j. not (has j R)) (row (suc i) (length w))) (keep (λ j. not (has j R)) (row (suc i) (length w))))
        ≡ cond b (without_from R (suc i) w) (x ∷ without_from R (suc i) w)
    go true e = e
    go false e = ap₂ ◌∷◌ (ap f (sym (add-zero i)) ∙ h 0 (omega arith)) e

-- position by position
pub without_from_lem : (R w : List ℕ) → without R w ≡ without_from R 1 w
unfolding without
without_from_lem R w = keep_from R (entry w) 1 w (λ (j : ℕ) (l : j < length w). rw (suc-add, zero-add) refl)

from_sublist : (R : List ℕ) (i : ℕ) (w : List ℕ) → Sublistᴰ (without_from R i w) w
unfolding without_from
from_sublist R i [] = Sublistᴰ.slnil
from_sublist R i (x ∷ w) = go (has i R) (from_sublist R (suc i) w)
  where
    go : (b : Bool) → Sublistᴰ (without_from R (suc i) w) w →
        Sublistᴰ (cond b (without_from R (suc i) w) (x ∷ without_from R (suc i) w)) (x ∷ w)
    go true d = Sublistᴰ.cons d
    go false d = Sublistᴰ.cons-cons refl d

pub without_sublist : (R w : List ℕ) → Sublistᴰ (without R w) w
without_sublist R w = rw (without_from_lem R w) (from_sublist R 1 w)

from_map : (R : List ℕ) (f : ℕ → ℕ) (i : ℕ) (w : List ℕ) → without_from R i (map f w) ≡ map f (without_from R i w)
unfolding without_from
from_map R f i [] = refl
from_map R f i (x ∷ w) = go (has i R) (from_map R f (suc i) w)
  where
    go : (b : Bool) → without_from R (suc i) (map f w) ≡ map f (without_from R (suc i) w) →
        cond b (without_from R (suc i) (map f w)) (f x ∷ without_from R (suc i) (map f w))
        ≡ map f (cond b (without_from R (suc i) w) (x ∷ without_from R (suc i) w))
    go true e = e
    go false e = ap (λ (v : List ℕ). f x ∷ v) e

pub without_map : (R : List ℕ) (f : ℕ → ℕ) (w : List ℕ) → without R (map f w) ≡ map f (without R w)
without_map R f w = rw (without_from_lem R (map f w), without_from_lem R w) (from_map R f 1 w)

-- no position of R is i or later
pub from_none : (R : List ℕ) (i : ℕ) (w : List ℕ) → ((j : ℕ) → i ≤ j → has j R ≡ false) → without_from R i w ≡ w
unfolding without_from
from_none R i [] h = refl
from_none R i (x ∷ w) h = rw (h i (omega arith), from_none R (suc i) w (λ (j : ℕ) (l : suc i ≤ j). h j (omega arith)))

-- a position before the first is passed
pub from_passed : (r j : ℕ) (R w : List ℕ) → r < j → without_from (r ∷ R) j w ≡ without_from R j w
unfolding without_from has
from_passed r j R [] h = refl
from_passed r j R (x ∷ w) h =
    rw (ne_eqb j r (λ (q : j ≡ r). omega arith), from_passed r (suc j) R w (omega arith)) refl

from_append : (R : List ℕ) (i : ℕ) (u v : List ℕ) → ((j : ℕ) → i + length u ≤ j → has j R ≡ false) →
    without_from R i (u ++ v) ≡ without_from R i u ++ v
unfolding without_from
from_append R i [] v h = from_none R i v (λ (j : ℕ) (l : i ≤ j). h j (omega arith))
from_append R i (x ∷ u) v h = go (has i R) (from_append R (suc i) u v (λ (j : ℕ) (l : suc i + length u ≤ j). h j (omega arith)))
  where
    go : (b : Bool) → without_from R (suc i) (u ++ v) ≡ without_from R (suc i) u ++ v →
        cond b (without_from R (suc i) (u ++ v)) (x ∷ without_from R (suc i) (u ++ v)) ≡
        cond b (without_from R (suc i) u) (x ∷ without_from R (suc i) u) ++ v
    go true e = e
    go false e = ap (λ (t : List ℕ). x ∷ t) e

-- a number beyond n is no position within n
within_has : (R : List ℕ) (n j : ℕ) → all (within n) R ≡ true → n < j → has j R ≡ false
within_has R n j h l = not-true (has j R) (not_in (has j R)
    (λ e. let t = within_out n j (all_out (within n) (has_out j R e) h) in omega arith))

-- what follows the word in which all the positions lie stays
pub without_append : (R u v : List ℕ) → all (within (length u)) R ≡ true → without R (u ++ v) ≡ without R u ++ v
without_append R u v h =
    rw (without_from_lem R (u ++ v), without_from_lem R u)
    (from_append R 1 u v (λ (j : ℕ) (l : 1 + length u ≤ j). within_has R (length u) j h (omega arith)))

-- Positions and entries

pub entry_mem : (w : List ℕ) (i : ℕ) → 1 ≤ i → i ≤ length w → Memᴰ (entry w i) w
unfolding entry
entry_mem w zero l h = absurd (omega arith)
entry_mem w (suc i) l h = get_or_mem w i 0 (omega arith)

-- each entry stands at a position
get_or_onto : {x : ℕ} {w : List ℕ} → Memᴰ x w → (i : ℕ) × (i < length w) × (get_or w i 0 ≡ x)
get_or_onto (Memᴰ.head e) = (0, omega arith, sym e)
get_or_onto (Memᴰ.tail m) = let (i, h, q) = get_or_onto m in (suc i, omega arith, q)

pub entry_onto : {x : ℕ} {w : List ℕ} → Memᴰ x w → (i : ℕ) × (1 ≤ i) × (i ≤ length w) × (entry w i ≡ x)
unfolding entry
entry_onto m = let (i, h, q) = get_or_onto m in (suc i, omega arith, omega arith, q)

-- entries that are distinct stand at one position each
get_or_injective : (w : List ℕ) (i j : ℕ) → distinct w ≡ true → i < length w → j < length w → get_or w i 0 ≡ get_or w j 0 → i ≡ j
get_or_injective [] i j d h k q = absurd (omega arith)
get_or_injective (x ∷ w) zero zero d h k q = refl
get_or_injective (x ∷ w) zero (suc j) d h k q = absurd ((distinct_out x w d).0 (Memᴰ.cast q (get_or_mem w j 0 (omega arith))))
get_or_injective (x ∷ w) (suc i) zero d h k q = absurd ((distinct_out x w d).0 (Memᴰ.cast (sym q) (get_or_mem w i 0 (omega arith))))
get_or_injective (x ∷ w) (suc i) (suc j) d h k q = ap suc (get_or_injective w i j (distinct_out x w d).1 (omega arith) (omega arith) q)

pub entry_injective : (w : List ℕ) (i j : ℕ) → distinct w ≡ true → 1 ≤ i → i ≤ length w → 1 ≤ j → j ≤ length w →
    entry w i ≡ entry w j → i ≡ j
unfolding entry
entry_injective w zero j d a b c e q = absurd (omega arith)
entry_injective w (suc i) zero d a b c e q = absurd (omega arith)
entry_injective w (suc i) (suc j) d a b c e q = ap suc (get_or_injective w i j d (omega arith) (omega arith) q)

-- the members of a word with the positions R left out
pub without_out : (R w : List ℕ) {x : ℕ} → Memᴰ x (without R w) → (i : ℕ) × (1 ≤ i) × (i ≤ length w) ×
    (has i R ≡ false) × (entry w i ≡ x)
unfolding without
without_out R w m =
    let (i, k, q) = Memᴰ.of_map (entry w) (keep (λ i. not (has i R)) (one_to (length w))) m in
    let (n, f) = keep_out (λ i. not (has i R)) (one_to (length w)) k in
    let (low, high) = row_out 1 (length w) n in
    (i, low, omega arith, not-true (has i R) f, q)

pub without_in : (R w : List ℕ) (i : ℕ) → 1 ≤ i → i ≤ length w → has i R ≡ false → Memᴰ (entry w i) (without R w)
unfolding without
without_in R w i l h f =
    Memᴰ.map (entry w) (keep_in (λ i. not (has i R)) (row_in 1 (length w) i l (omega arith)) (ap not f))

-- the members of a sublist are members, and are distinct where the members are
pub distinct_sublist : {u w : List ℕ} → Sublistᴰ u w → distinct w ≡ true → distinct u ≡ true
distinct_sublist Sublistᴰ.slnil h = h
distinct_sublist (Sublistᴰ.cons {a = a} {l₂ = w} d) h = distinct_sublist d (distinct_out a w h).1
distinct_sublist (Sublistᴰ.cons-cons {a = a} {b = b} {l₁ = u} {l₂ = w} e d) h =
    let (fresh, rest) = distinct_out b w h in
    distinct_in a u (λ (m : Memᴰ a u). fresh (Memᴰ.cast (sym e) (sublist_mem d m))) (distinct_sublist d rest)
