-- The first n numbers of an array in memory, and whether two such lists are the same; arrays that
-- are written place by place.
-- Assumes nothing.
use Rattle.std.specs.Prelude.{ℕ, zero, suc, ◌+◌, ◌≤◌, ◌<◌, ◌≡◌, refl, Bool, false, ◌&&◌, List, [], ◌∷◌, ◌++◌, map, ◌⊎◌, length, get_or}
use Rattle.std.specs.Prelude.{take, set, replicate, eqb}
use Rattle.std.proofs.Common.{arith, ap, ◌∙◌, inl, inr, length-append, length-take-le, get_or-take, get_or-set_same, get_or-set_other}
use Rattle.std.proofs.Math.Bool.{and-false}
use Rattle.std.proofs.lemmas.List.{length-replicate, take-append-le}
use Rattle.std.proofs.Math.ListN.{get_or-append}
use Rattle.word.specs.Lists.{all, row}
use Rattle.word.specs.ListLaws.{same_or_not}
use Rattle.word.specs.Word.{is_perm, within}
use lib.Pointwise.{pointwise}
use Rattle.cell.specs.Basis.{same}
use Rattle.cell.proofs.BuiltCells.{same_refl}
use Rattle.forms.specs.SchemeMemory.{padded}

-- the first n numbers of an array
pub padded_within : (n : ℕ) (l : List ℕ) → n ≤ length l → padded n l ≡ take n l
padded_within n l h = take-append-le n l (replicate n 0) h

pub length_padded : (n : ℕ) (l : List ℕ) → length (padded n l) ≡ n
length_padded n l = length-take-le n (l ++ replicate n 0) (omega (arith, length-append l (replicate n 0), length-replicate {A = ℕ} n 0))

pub get_or_padded : (n : ℕ) (l : List ℕ) (i : ℕ) → i < n → i < length l → get_or (padded n l) i 0 ≡ get_or l i 0
get_or_padded n l i h k = get_or-take n (l ++ replicate n 0) i 0 h ∙ get_or-append l (replicate n 0) 0 i k

-- a test that refuses 0 refuses more numbers than the array has
pub padded_zero : (f : ℕ → Bool) (n : ℕ) (l : List ℕ) → f 0 ≡ false → length l < n → all f (padded n l) ≡ false
padded_zero f n l e h = go n l n h (omega arith)
  where
    go : (m : ℕ) (l : List ℕ) (k : ℕ) → length l < m → 0 < k → all f (take m (l ++ replicate k 0)) ≡ false
    go zero l k h p = absurd (omega arith)
    go (suc m) [] zero h p = absurd (omega arith)
    go (suc m) [] (suc k) h p = rw e refl
    go (suc m) (x ∷ l) k h p = rw (go m l k (omega arith) p) (and-false (f x))

pub padded_no_perm : (n : ℕ) (l : List ℕ) → length l < n → is_perm (padded n l) ≡ false
unfolding is_perm within
padded_no_perm n l h = rw (padded_zero (within (length (padded n l))) n l refl h) refl

-- two lists have the same numbers
pub same_lengths : (u v : List ℕ) → (length u ≡ length v → ⊥) → same u v ≡ false
unfolding same
same_lengths [] [] h = absurd (h refl)
same_lengths [] (y ∷ v) h = refl
same_lengths (x ∷ u) [] h = refl
same_lengths (x ∷ u) (y ∷ v) h = rw (same_lengths u v (λ e. h (ap suc e))) (and-false (eqb x y))

-- arrays of one length that are taken whole, with zeros behind them, are the same if they are
pub same_padded : (n : ℕ) (a b : List ℕ) → length a ≡ length b → length a ≤ n → same (padded n a) (padded n b) ≡ same a b
unfolding same
same_padded n a b e h = go n a b e h
  where
    go : (m : ℕ) (a b : List ℕ) → length a ≡ length b → length a ≤ m →
        same (take m (a ++ replicate n 0)) (take m (b ++ replicate n 0)) ≡ same a b
    go m [] [] e h = same_refl (take m (replicate n 0))
    go m [] (y ∷ b) e h = absurd (omega arith)
    go m (x ∷ a) [] e h = absurd (omega arith)
    go zero (x ∷ a) (y ∷ b) e h = absurd (omega arith)
    go (suc m) (x ∷ a) (y ∷ b) e h = ap (λ (r : Bool). eqb x y && r) (go m a b (omega arith) (omega arith))

-- elements written one after the other
pub rows_more : {A : Type 0} (Q : ℕ → A → Type 0) (rows : List A) (d : A) (n : ℕ) (x : A) → n < length rows → Q n x →
    ((j : ℕ) → j < n → Q j (get_or rows j d)) → (j : ℕ) → j < n + 1 → Q j (get_or (set rows n x) j d)
rows_more Q rows d n x room new old j h = go (same_or_not j n)
  where
    go : (j ≡ n) ⊎ (j ≡ n → ⊥) → Q j (get_or (set rows n x) j d)
    go (inl e) = rw (e, get_or-set_same rows n x d room) new
    go (inr e) = rw (get_or-set_other rows n j x d e) (old j (omega arith))

-- the first n elements of a list, place by place
pub take_row : {A : Type 0} (l : List A) (d : A) (n : ℕ) → n ≤ length l → take n l ≡ map (λ i. get_or l i d) (row 0 n)
take_row l d zero h = refl
take_row [] d (suc n) h = absurd (omega arith)
take_row (x ∷ l) d (suc n) h = ap (λ u. x ∷ u) (take_row l d n (omega arith) ∙ later 0 n)
  where
    later : (a n : ℕ) → map (λ i. get_or l i d) (row a n) ≡ map (λ i. get_or (x ∷ l) i d) (row (suc a) n)
    later a zero = refl
    later a (suc n) = ap (λ u. get_or l a d ∷ u) (later (suc a) n)

-- std compares slices place by place
pub same_pointwise : (a b : List ℕ) → same a b ≡ pointwise eqb a b
unfolding same
same_pointwise [] [] = refl
same_pointwise [] (y ∷ b) = refl
same_pointwise (x ∷ a) [] = refl
same_pointwise (x ∷ a) (y ∷ b) = ap (λ (r : Bool). eqb x y && r) (same_pointwise a b)
