-- Spacings in memory: the array steps of the first and the next spacing, and the tests on
-- components and gap vectors from a place on.
-- Assumes nothing.
use Prim.Native.Nat.{ℕ, zero, suc, ◌+◌, ◌-◌, ◌≤◌, ◌<◌}
use Rattle.std.specs.Prelude.{Some, None}
use mathlib.Core.Path.{◌≡◌, refl, sym, ap, ◌∙◌}
use mathlib.Core.Bool.{Bool, true, false, not, ◌&&◌}
use mathlib.Core.List.{List, [], ◌∷◌, ◌++◌, map}
use native.Mathlib.Nat.{sub-zero}
use native.Mathlib.Numerals.{add-one}
use native.Mathlib.Omega.{arith}
use lib.ListN.{length, get_or, take, drop, set, replicate, drop_of_length-le}
use lib.Dec.{leb}
use lib.Seq.{drop-cons, split_at, take-set-lt, drop-set-lt, get_or-take, length-take-le}
use borrow.Author.Tests.{le-leb, lt-leb}
use Rattle.word.specs.Lists.{row}
use Rattle.cell.specs.Cell.{total, at_least, free}
use Rattle.forms.specs.GapRows.{vector_at, gaps_of}
use Rattle.spacing.specs.Following.{first_vector, later, Follows, Steps}
use Rattle.spacing.specs.SpacingOrder.{step_from, step_to, later_none, later_next, next_total}

-- the first spacing

first_put : (k n t : ℕ) → k < n → take (suc k) (set (replicate n 0) k t) ≡ first_vector k t
unfolding first_vector
first_put k zero t h = absurd (omega arith)
first_put zero (suc n) t h = refl
first_put (suc k) (suc n) t h = ap (λ (l : List ℕ). 0 ∷ l) (first_put k n t (omega arith))

pub first_memory : (k n t : ℕ) → k < n → take (k + 1) (set (replicate n 0) k t) ≡ first_vector k t
first_memory k n t h = rw (add-one k) (first_put k n t h)

-- the next spacing: the components behind j are 0

abbrev pub Cleared : List ℕ → ℕ → Type 0
Cleared v j = drop (suc j) v ≡ replicate (length v - suc j) 0

pub cleared_start : (v : List ℕ) (k : ℕ) → length v ≡ suc k → Cleared v k
cleared_start v k l =
    let z : length v - suc k ≡ 0 = omega arith in
    rw (z, drop_of_length-le v {i = suc k} (omega arith)) refl

cleared_suc : (v : List ℕ) (i : ℕ) → suc i < length v → Cleared v (suc i) → get_or v (suc i) 0 ≡ 0 → Cleared v i
cleared_suc v i h d e =
    let z : length v - suc i ≡ suc (length v - suc (suc i)) = omega arith in
    rw (z, drop-cons v (suc i) 0 h, e, d) refl

pub cleared_down : (v : List ℕ) (j : ℕ) → 0 < j → j < length v → Cleared v j → get_or v j 0 ≡ 0 → Cleared v (j - 1)
cleared_down v zero p h d e = absurd (omega arith)
cleared_down v (suc i) p h d e =
    let i1 : suc i - 1 ≡ i = omega arith in
    rw i1 (cleared_suc v i h d e)

pub cleared_last : (v : List ℕ) → 0 < length v → Cleared v 0 → later v ≡ []
cleared_last [] h d = absurd (omega arith)
cleared_last (x ∷ v) h d = rw d (later_none x (suc (length v) - 1))

-- the parts of a spacing whose last component that is not 0 is at j
pub cleared_split : (v : List ℕ) (j : ℕ) → 0 < j → j < length v → Cleared v j → (get_or v j 0 ≡ 0 → ⊥) →
    v ≡ step_from (take (j - 1) v) (get_or v (j - 1) 0) (get_or v j 0 - 1) (length v - suc j)
unfolding step_from
cleared_split v zero p h d e = absurd (omega arith)
cleared_split v (suc i) p h d e =
    let i1 : suc i - 1 ≡ i = omega arith in
    let r : suc (get_or v (suc i) 0 - 1) ≡ get_or v (suc i) 0 = omega arith in
    rw (i1, r) (split_at v i 0 (omega arith) ∙
    ap (λ (l : List ℕ). take i v ++ (get_or v i 0 ∷ l))
    (drop-cons v (suc i) 0 h ∙ ap (λ (l : List ℕ). get_or v (suc i) 0 ∷ l) d))

-- the two components are part of the total
pub step_total : (pre : List ℕ) (y r z : ℕ) → y + suc r ≤ total (step_from pre y r z)
unfolding step_from total
step_total [] y r z = omega arith
step_total (x ∷ pre) y r z = omega (arith, step_total pre y r z)

last_put : (z r : ℕ) → set (0 ∷ replicate z 0) z r ≡ first_vector z r
unfolding first_vector
last_put zero r = refl
last_put (suc z) r = ap (λ (l : List ℕ). 0 ∷ l) (last_put z r)

step : (pre : List ℕ) (y r z m : ℕ) → m ≡ suc (length pre + z) →
    set (set (set (step_from pre y r z) (suc (length pre)) 0) (length pre) (suc y)) m r ≡ step_to pre y r z
unfolding step_from step_to
step [] y r z m e =
    let f : m ≡ suc z = omega arith in
    rw f (ap (λ (l : List ℕ). suc y ∷ l) (last_put z r))
step (x ∷ pre) y r z m e =
    let f : m ≡ suc (suc (length pre + z)) = omega arith in
    rw f (ap (λ (l : List ℕ). x ∷ l) (step pre y r z (suc (length pre + z)) refl))

pub taken_length : (g : List ℕ) (k : ℕ) → k < length g → length (take (k + 1) g) ≡ suc k
taken_length g k l = omega (arith, length-take-le (k + 1) g (omega arith))

-- what the code keeps: the components of g from behind j to k are 0
abbrev pub Seen : List ℕ → ℕ → ℕ → Type 0
Seen g k j = (j ≤ k) × Cleared (take (k + 1) g) j

pub seen_start : (g : List ℕ) (k : ℕ) → k < length g → Seen g k k
seen_start g k l = (omega arith, cleared_start (take (k + 1) g) k (taken_length g k l))

pub seen_down : (g : List ℕ) (k j : ℕ) → k < length g → 0 < j → Seen g k j → get_or g j 0 ≡ 0 → Seen g k (j - 1)
seen_down g k j l p s e =
    let len = taken_length g k l in
    (omega arith, cleared_down (take (k + 1) g) j p (omega arith) s.1 (get_or-take (k + 1) g j 0 (omega arith) ∙ e))

pub seen_last : (g : List ℕ) (k j : ℕ) → k < length g → Seen g k j → j ≡ 0 → Steps g k None
seen_last g k j l s e =
    let len = taken_length g k l in
    record {
      follows = record { rest = cleared_last (take (k + 1) g) (omega arith) (rw e at s.1); same_total = refl };
      behind = refl;
    }

module _ (g : List ℕ) (k j : ℕ) (l : k < length g) (p : 0 < j) (s : Seen g k j) (e : get_or g j 0 ≡ 0 → ⊥) where
  parts : take (k + 1) g ≡ step_from (take (j - 1) (take (k + 1) g)) (get_or g (j - 1) 0) (get_or g j 0 - 1) (k - j)
  parts =
      let len = taken_length g k l in
      let here : get_or (take (k + 1) g) j 0 ≡ get_or g j 0 = get_or-take (k + 1) g j 0 (omega arith) in
      let there : get_or (take (k + 1) g) (j - 1) 0 ≡ get_or g (j - 1) 0 = get_or-take (k + 1) g (j - 1) 0 (omega arith) in
      let z : length (take (k + 1) g) - suc j ≡ k - j = omega arith in
      let whole = cleared_split (take (k + 1) g) j p (omega arith) s.1 (λ q. e (sym here ∙ q)) in
      rw (here, there, z) at whole

  pub next_fits : total (take (k + 1) g) < 256 → get_or g (j - 1) 0 + 1 < 256
  next_fits small =
      omega (arith, ap total parts, step_total (take (j - 1) (take (k + 1) g)) (get_or g (j - 1) 0) (get_or g j 0 - 1) (k - j))

  next_follows : Follows (take (k + 1) g) true (take (k + 1) (set (set (set g j 0) (j - 1) (get_or g (j - 1) 0 + 1)) k (get_or g j 0 - 1)))
  next_follows =
      let y = get_or g (j - 1) 0 in
      let r = get_or g j 0 - 1 in
      let pre = take (j - 1) (take (k + 1) g) in
      let len = taken_length g k l in
      let at1 : length pre ≡ j - 1 = length-take-le (j - 1) (take (k + 1) g) (omega arith) in
      let at2 : suc (length pre) ≡ j = omega arith in
      let inside : take (k + 1) (set (set (set g j 0) (j - 1) (y + 1)) k r) ≡ set (set (set (take (k + 1) g) j 0) (j - 1) (y + 1)) k r =
      take-set-lt (k + 1) (set (set g j 0) (j - 1) (y + 1)) k r (omega arith) ∙
      ap (λ (v : List ℕ). set v k r) (take-set-lt (k + 1) (set g j 0) (j - 1) (y + 1) (omega arith) ∙
      ap (λ (v : List ℕ). set v (j - 1) (y + 1)) (take-set-lt (k + 1) g j 0 (omega arith))) in
      let done : set (set (set (step_from pre y r (k - j)) (suc (length pre)) 0) (length pre) (suc y)) k r ≡
      step_to pre y r (k - j) = step pre y r (k - j) k (omega arith) in
      let moved : take (k + 1) (set (set (set g j 0) (j - 1) (y + 1)) k r) ≡ step_to pre y r (k - j) =
      inside ∙ ap (λ (v : List ℕ). set (set (set v j 0) (j - 1) (y + 1)) k r) parts ∙ (rw (at2, at1, ← add-one y) at done) in
      record {
        rest = rw moved (ap later parts ∙ later_next pre y r (k - j));
        same_total =
            rw moved (next_total pre y r (k - j) ∙ ap total (sym parts));
      }

  pub next_memory : Steps g k (Some (set (set (set g j 0) (j - 1) (get_or g (j - 1) 0 + 1)) k (get_or g j 0 - 1)))
  next_memory =
      let y = get_or g (j - 1) 0 + 1 in
      record {
        follows = next_follows;
        behind = drop-set-lt (k + 1) (set (set g j 0) (j - 1) y) k (get_or g j 0 - 1) (omega arith) ∙
            drop-set-lt (k + 1) (set g j 0) (j - 1) y (omega arith) ∙ drop-set-lt (k + 1) g j 0 (omega arith);
      }

-- the comparison of two vectors of one length, from component i on

module _ (g b : List ℕ) (i : ℕ) (same : length g ≡ length b) where
  least_cons : i < length b → at_least (drop i g) (drop i b) ≡ leb (get_or b i 0) (get_or g i 0) && at_least (drop (i + 1) g)
      (drop (i + 1) b)
  unfolding at_least
  least_cons h =
      let l : i < length g = omega arith in
      rw (drop-cons g i 0 l, drop-cons b i 0 h, add-one i) refl

  pub least_fails : i < length b → get_or g i 0 < get_or b i 0 → at_least (drop i g) (drop i b) ≡ false
  least_fails h e = least_cons h ∙ rw (lt-leb (get_or b i 0) (get_or g i 0) e) refl

  pub least_passes : i < length b → get_or b i 0 ≤ get_or g i 0 →
      at_least (drop i g) (drop i b) ≡ at_least (drop (i + 1) g) (drop (i + 1) b)
  least_passes h e = least_cons h ∙ rw (le-leb (get_or b i 0) (get_or g i 0) e) refl

  pub least_end : length b ≤ i → at_least (drop i g) (drop i b) ≡ true
  unfolding at_least
  least_end h =
      let l : length g ≤ i = omega arith in
      rw (drop_of_length-le g l, drop_of_length-le b h) refl

-- the test against the gap vectors from j on

unfoldable pub free_from : List ℕ → ℕ → ℕ → List ℕ → ℕ → Bool
free_from parts w n v j = free (map (vector_at parts w) (row j (n - j))) v

module _ (parts : List ℕ) (w n : ℕ) (v : List ℕ) where
  pub free_start : free (gaps_of parts w n) v ≡ free_from parts w n v 0
  unfolding free_from gaps_of
  free_start = rw (sub-zero n) refl

  pub free_end : (j : ℕ) → n ≤ j → free_from parts w n v j ≡ true
  unfolding free_from free
  free_end j h = let z : n - j ≡ 0 = omega arith in rw z refl

  free_cons : (j : ℕ) → j < n → free_from parts w n v j ≡ not (at_least v (vector_at parts w j)) && free_from parts w n v (j + 1)
  unfolding free_from free
  free_cons j l =
      let z : n - j ≡ suc (n - suc j) = omega arith in
      rw (add-one j, z) refl

  pub free_fails : (j : ℕ) → j < n → at_least v (vector_at parts w j) ≡ true → free_from parts w n v j ≡ false
  free_fails j l e = free_cons j l ∙ rw e refl

  pub free_passes : (j : ℕ) → j < n → at_least v (vector_at parts w j) ≡ false → free_from parts w n v j ≡ free_from parts w n v (j + 1)
  free_passes j l e = free_cons j l ∙ rw e refl
