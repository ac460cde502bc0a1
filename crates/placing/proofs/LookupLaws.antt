-- Laws over lists for the tables of the candidate search: one entry more of a count, of a table, of
-- the levels, of the deleted values.
-- Assumes nothing.
use Prim.Native.Nat.{ℕ, zero, suc, ◌+◌, ◌-◌, ◌≤◌, ◌<◌}
use native.Mathlib.Nat.{add-zero}
use native.Mathlib.Numerals.{add-one}
use native.Mathlib.Omega.{arith}
use mathlib.Core.Path.{◌≡◌, refl, sym, ap₂, ◌∙◌}
use mathlib.Core.Logic.{◌⊎◌, inl, inr}
use mathlib.Core.Bool.{Bool, true, false, ◌||◌, cond, or-false}
use mathlib.Core.List.{List, [], ◌∷◌, map}
use lib.ListN.{length, get_or, take, drop, set, replicate, drop_of_length-le}
use lib.Seq.{drop-cons, length-take-le, get_or-take, get_or-set_same, get_or-set_other}
use lib.Dec.{ltb, eqb}
use borrow.Author.Tests.{le-leb, lt-leb, lt-ltb, le-ltb, eq-eqb, ne_eqb}
use Rattle.word.specs.Lists.{all}
use Rattle.word.specs.Word.{under, has, entry, within, is_perm}
use Rattle.word.specs.ListLaws.{below_or_not, same_or_not, all_out, get_or_mem}
use Rattle.word.specs.PermLaws.{within_out, perm_bounds}
use Rattle.cell.specs.Cell.{total}
use Rattle.cell.specs.Built.{level, lift}
use Rattle.cell.proofs.BuiltWords.{lift_low, lift_high}
use Rattle.cell.proofs.WithoutLaws.{entry_mem}
use Rattle.placing.specs.Lookup.{entry_of, flagged, Says}

-- the entries of a list from index j on

pub part_cons : (l : List ℕ) (j : ℕ) → j < length l → drop j l ≡ get_or l j 0 ∷ drop (j + 1) l
part_cons l j h = rw (add-one j) (drop-cons l j 0 h)

pub part_end : (l : List ℕ) (j : ℕ) → length l ≤ j → drop j l ≡ []
part_end l j h = drop_of_length-le l h

-- counting the entries that are at most x

module _ (l : List ℕ) (j x : ℕ) (h : j < length l) where
  pub under_counted : get_or l j 0 ≤ x → under (drop j l) x ≡ suc (under (drop (j + 1) l) x)
  unfolding under
  under_counted e = rw (part_cons l j h, le-leb (get_or l j 0) x e) refl

  pub under_passed : x < get_or l j 0 → under (drop j l) x ≡ under (drop (j + 1) l) x
  unfolding under
  under_passed e = rw (part_cons l j h, lt-leb (get_or l j 0) x e) refl

pub under_end : (l : List ℕ) (j x : ℕ) → length l ≤ j → under (drop j l) x ≡ 0
unfolding under
under_end l j x h = rw (part_end l j h) refl

-- a table that says what f says of one value more
pub says_more : (a : List ℕ) (n y : ℕ) (f : ℕ → ℕ) → n < length a → y ≡ f n → Says a n f → Says (set a n y) (n + 1) f
says_more a n y f h e s v l = go (same_or_not v n)
  where
    go : (v ≡ n) ⊎ (v ≡ n → ⊥) → get_or (set a n y) v 0 ≡ f v
    go (inl q) = rw (q, get_or-set_same a n y 0 h) e
    go (inr q) = get_or-set_other a n v y 0 q ∙ s v (omega arith)

pub says_first : (a : List ℕ) (f : ℕ → ℕ) → get_or a 0 0 ≡ f 0 → Says a (0 + 1) f
says_first a f e zero h = e
says_first a f e (suc v) h = absurd (omega arith)

-- the level of the next value, and of the last

pub level_next : (g : List ℕ) (v : ℕ) → v < length g → level g (suc v) ≡ level g v + get_or g v 0
unfolding level
level_next [] v h = absurd (omega arith)
level_next (x ∷ g) zero h = omega arith
level_next (x ∷ g) (suc v) h = omega (arith, level_next g v (omega arith))

-- the level behind the next component of the first n
pub level_more : (l : List ℕ) (n v : ℕ) → v < n → n ≤ length l → level (take n l) (v + 1) ≡ level (take n l) v + get_or l v 0
level_more l n v h k =
    let fits : v < length (take n l) = omega (arith, length-take-le n l k) in
    rw (add-one v, ← get_or-take n l v 0 h) (level_next (take n l) v fits)

pub level_zero : (g : List ℕ) → level g 0 ≡ 0
unfolding level
level_zero g = refl

-- deleted values: flagged already, or still to come

pub flag_more : (a : List ℕ) (x : ℕ) (u : List ℕ) (v : ℕ) → x < length a → flagged (set a x 1) v || has v u ≡ flagged a v || has v (x ∷ u)
unfolding has
flag_more a x u v h = go (same_or_not v x)
  where
    or_late : (b : Bool) → b || true ≡ true
    or_late true = refl
    or_late false = refl

    go : (v ≡ x) ⊎ (v ≡ x → ⊥) → flagged (set a x 1) v || has v u ≡ flagged a v || (eqb v x || has v u)
    go (inl q) = rw (q, get_or-set_same a x 1 0 h, eq-eqb x x refl) (sym (or_late (flagged a x)))
    go (inr q) = rw (get_or-set_other a x v 1 0 q, ne_eqb v x q) refl

-- nothing is flagged at first
pub flag_none : (n v : ℕ) (b : Bool) → flagged (replicate n 0) v || b ≡ b
flag_none n v b = rw (zeros n v) refl
  where
    zeros : (n v : ℕ) → entry_of (replicate n 0) v ≡ 0
    zeros zero v = refl
    zeros (suc n) zero = refl
    zeros (suc n) (suc v) = zeros n v

-- the position at index j, and the value there

module _ (p positions : List ℕ) (j : ℕ) (h : j < length positions) (perm : is_perm p ≡ true)
    (inside : all (within (length p)) positions ≡ true) where
  pub position_bounds : (1 ≤ get_or positions j 0) × (get_or positions j 0 ≤ length p)
  position_bounds = within_out (length p) (get_or positions j 0) (all_out (within (length p)) (get_or_mem positions j 0 h) inside)

  pub position_value : entry p (get_or positions j 0) ≡ get_or p (get_or positions j 0 - 1) 0
  unfolding entry
  position_value = go (get_or positions j 0) position_bounds.0
    where
      go : (r : ℕ) → 1 ≤ r → entry p r ≡ get_or p (r - 1) 0
      go zero a = absurd (omega arith)
      go (suc r) a = let e : suc r - 1 ≡ r = omega arith in rw e refl

  pub position_small : get_or p (get_or positions j 0 - 1) 0 ≤ length p
  position_small =
      let (a, b) = position_bounds in
      let m = perm_bounds p perm (entry_mem p (get_or positions j 0) a b) in
      omega (arith, position_value)

  -- its value is flagged
  pub flag_next : (a : List ℕ) (v : ℕ) → length p < length a →
      flagged (set a (get_or p (get_or positions j 0 - 1) 0) 1) v || has v (map (entry p) (drop (j + 1) positions))
      ≡ flagged a v || has v (map (entry p) (drop j positions))
  flag_next a v l =
      rw (part_cons positions j h, ← position_value)
      (flag_more a (entry p (get_or positions j 0)) (map (entry p) (drop (j + 1) positions)) v
      (omega (arith, position_value, position_small)))

pub flag_end : (e : ℕ → ℕ) (a positions : List ℕ) (j v : ℕ) → length positions ≤ j →
    flagged a v || has v (map e (drop j positions)) ≡ flagged a v
unfolding has
flag_end e a positions j v h = rw (part_end positions j h) (or-false (flagged a v))

-- lifting: one more for each prefix value whose level is below s

-- how many of the n values from v on have a level below s
unfoldable pub lower : (ℕ → ℕ) → ℕ → ℕ → ℕ → ℕ
lower lev s v zero = 0
lower lev s v (suc n) = cond (ltb (lev v) s) (suc (lower lev s (suc v) n)) (lower lev s (suc v) n)

lower_none : (lev : ℕ → ℕ) (s v n : ℕ) → ((a : ℕ) → v ≤ a → s ≤ lev a) → lower lev s v n ≡ 0
unfolding lower
lower_none lev s v zero h = refl
lower_none lev s v (suc n) h = rw (le-ltb (lev v) s (h v (omega arith))) (lower_none lev s (suc v) n (λ a l. h a (omega arith)))

lower_shift : (x : ℕ) (g : List ℕ) (s v n : ℕ) → x < s → lower (level (x ∷ g)) s (suc v) n ≡ lower (level g) (s - x) v n
unfolding lower level
lower_shift x g s v zero h = refl
lower_shift x g s v (suc n) h = ap₂ (λ (b : Bool) (m : ℕ). cond b (suc m) m) (go (below_or_not (level g v) (s - x)))
    (lower_shift x g s (suc v) n h)
  where
    go : (level g v < s - x) ⊎ (s - x ≤ level g v) → ltb (x + level g v) s ≡ ltb (level g v) (s - x)
    go (inl l) = lt-ltb (x + level g v) s (omega arith) ∙ sym (lt-ltb (level g v) (s - x) l)
    go (inr l) = le-ltb (x + level g v) s (omega arith) ∙ sym (le-ltb (level g v) (s - x) l)

-- The actual value of a rest value: itself, and one more for each prefix value below it.
pub lift_count : (g : List ℕ) (k s : ℕ) → length g ≡ suc k → s ≤ total g → lift g s ≡ s + lower (level g) s 1 k
unfolding lower level
lift_count [] k s l h = absurd (omega arith)
lift_count (x ∷ []) zero s l h = lift_low x [] s (omega arith) ∙ sym (add-zero s)
lift_count (x ∷ []) (suc k) s l h = absurd (omega arith)
lift_count (x ∷ (y ∷ g)) zero s l h = absurd (omega arith)
lift_count (x ∷ (y ∷ g)) (suc k) s l h = go (lift_count (y ∷ g) k (s - x) (omega arith) (omega arith)) (below_or_not x s)
  where
    high : (a : ℕ) → 1 ≤ a → s ≤ x → s ≤ level (x ∷ (y ∷ g)) a
    high zero p q = absurd (omega arith)
    high (suc a) p q = omega arith

    go : lift (y ∷ g) (s - x) ≡ s - x + lower (level (y ∷ g)) (s - x) 1 k → (x < s) ⊎ (s ≤ x) →
        lift (x ∷ (y ∷ g)) s ≡ s + lower (level (x ∷ (y ∷ g))) s 1 (suc k)
    go ih (inl b) =
        rw (lt-ltb (level (x ∷ (y ∷ g)) 1) s (omega arith))
        (omega (arith, lift_high x (y ∷ g) s b, lower_shift x (y ∷ g) s 1 k b))
    go ih (inr b) =
        rw (lower_none (level (x ∷ (y ∷ g))) s 1 (suc k) (λ a p. high a p b)) (lift_low x (y ∷ g) s b ∙ sym (add-zero s))

-- tables that say the same of the values counted
lower_same : (f g : ℕ → ℕ) (s v n m : ℕ) → v + n ≤ m → ((a : ℕ) → a < m → f a ≡ g a) → lower f s v n ≡ lower g s v n
unfolding lower
lower_same f g s v zero m l h = refl
lower_same f g s v (suc n) m l h =
    rw (h v (omega arith), lower_same f g s (suc v) n m (omega arith) h) refl

-- what is still to be counted, of the values v to k

module _ (f : ℕ → ℕ) (s k v : ℕ) where
  lower_head : v ≤ k → lower f s v (suc k - v) ≡
      cond (ltb (f v) s) (suc (lower f s (v + 1) (suc k - (v + 1)))) (lower f s (v + 1) (suc k - (v + 1)))
  unfolding lower
  lower_head h = go (suc k - v) (suc k - (v + 1)) (omega arith)
    where
      go : (a b : ℕ) → a ≡ suc b → lower f s v a ≡ cond (ltb (f v) s) (suc (lower f s (v + 1) b)) (lower f s (v + 1) b)
      go a b e = rw (e, add-one v) refl

  pub lower_counted : v ≤ k → f v < s → lower f s v (suc k - v) ≡ suc (lower f s (v + 1) (suc k - (v + 1)))
  lower_counted h e = lower_head h ∙ rw (lt-ltb (f v) s e) refl

  pub lower_passed : v ≤ k → s ≤ f v → lower f s v (suc k - v) ≡ lower f s (v + 1) (suc k - (v + 1))
  lower_passed h e = lower_head h ∙ rw (le-ltb (f v) s e) refl

  pub lower_end : k < v → lower f s v (suc k - v) ≡ 0
  unfolding lower
  lower_end h = go (suc k - v) (omega arith)
    where
      go : (a : ℕ) → a ≡ 0 → lower f s v a ≡ 0
      go a e = rw e refl

-- the count from 1 on lifts s, by a table that says the levels of g
pub lower_lifts : (a g : List ℕ) (k s : ℕ) → length g ≡ k + 1 → Says a (k + 1) (level g) → s ≤ total g →
    s + lower (entry_of a) s 1 (suc k - 1) ≡ lift g s
lower_lifts a g k s l e h =
    let q : suc k - 1 ≡ k = omega arith in
    rw (q, lower_same (entry_of a) (level g) s 1 k (k + 1) (omega arith) e) (sym (lift_count g k s (omega arith) h))
