-- The walk of `first_copy`: what is left to try at each of its points, that this is the first copy
-- at the start, and how it falls.
-- Assumes nothing.
use Prim.Native.Nat.{ℕ, zero, suc, ◌+◌, ◌-◌, ◌≤◌, ◌<◌, min}
use mathlib.Core.Path.{◌≡◌, refl, sym, ap, ◌∙◌, fun_ext}
use mathlib.Core.Bool.{Bool, true, false, not, cond, ◌&&◌, beq}
use mathlib.Core.List.{List, [], ◌∷◌, ◌++◌, map, append_assoc, append-nil, map-append}
use mathlib.Core.Option
use mathlib.Core.Option.{Option, none, some}
use mathlib.Core.Logic.{◌⊎◌, inl, inr}
use native.Mathlib.Nat.{sub-zero, zero-sub, suc-sub-suc}
use native.Mathlib.Numerals.{add-one}
use native.Mathlib.Omega.{arith}
use lib.ListN.{length, get_or, take, drop, set, replicate, length-append, length-take, length-drop, length-set}
use lib.ListN.{drop_of_length-le, take-append-drop}
use lib.Dec.{ltb}
use lib.Seq.{take-set-le, take-suc-set, take-suc, drop-cons, get_or-set_same, get_or-set_other, drop-length}
use lib.Seq.{length-take-le, get_or-take, drop-set-lt, take-take}
use borrow.Author.Tests.{not-true, not-false}
use Rattle.std.specs.Prelude.{Some}
use Rattle.word.specs.Lists.{first, sublists, row}
use Rattle.word.specs.Word.{iso, entry, first_copy}
use Rattle.copy_search.specs.Copy.{shown}
use Rattle.word.specs.ListLaws.{length_row, same_or_not}
use Rattle.word.specs.Vocabulary.{fits}
use Rattle.word.specs.IsoLaws.{iso_snoc, iso_prefix, iso_length}

-- the first of two that there is
abbrev pub or_else : Option (List ℕ) → Option (List ℕ) → Option (List ℕ)
or_else none b = b
or_else (some a) b = some a

or_else_none : (a : Option (List ℕ)) → or_else a none ≡ a
or_else_none none = refl
or_else_none (some a) = refl

or_else_assoc_lem : (a b c : Option (List ℕ)) → or_else (or_else a b) c ≡ or_else a (or_else b c)
or_else_assoc_lem none b c = refl
or_else_assoc_lem (some a) b c = refl

map_or_else : (g : List ℕ → List ℕ) (a b : Option (List ℕ)) → Option.map g (or_else a b) ≡ or_else (Option.map g a) (Option.map g b)
map_or_else g none b = refl
map_or_else g (some a) b = refl

map_map : (g h : List ℕ → List ℕ) (a : Option (List ℕ)) → Option.map g (Option.map h a) ≡ Option.map (λ l. g (h l)) a
map_map g h none = refl
map_map g h (some a) = refl

-- the first completion: b of the pattern stands at the entries s, r is still to be placed, at
-- positions of q
unfoldable pub seek : (ℕ → ℕ) → List ℕ → List ℕ → List ℕ → List ℕ → Option (List ℕ)
seek f b [] s q = some []
seek f b (x ∷ r) s [] = none
seek f b (x ∷ r) s (i ∷ q) =
    or_else (cond (fits b x s (f i)) (Option.map (λ l. i ∷ l) (seek f (b ++ (x ∷ [])) r (s ++ (f i ∷ [])) q)) none)
    (seek f b (x ∷ r) s q)

-- how many steps a search for a entries among l positions takes at the most
unfoldable pub size : ℕ → ℕ → ℕ
size zero l = 1
size (suc a) zero = 1
size (suc a) (suc l) = suc (size a l + size (suc a) l)

size_pos : (a l : ℕ) → 1 ≤ size a l
unfolding size
size_pos zero l = omega arith
size_pos (suc a) zero = omega arith
size_pos (suc a) (suc l) = omega arith

-- the positions of w after t
abbrev pub after : List ℕ → ℕ → List ℕ
after w t = row (suc t) (length w - t)

pub after_cons : (w : List ℕ) (i : ℕ) → i < length w → after w i ≡ suc i ∷ after w (suc i)
after_cons w i h = go (length w - i) (length w - suc i) (omega arith)
  where
    go : (a b : ℕ) → a ≡ suc b → row (suc i) a ≡ suc i ∷ row (suc (suc i)) b
    go a b e = rw e refl

pub length_after : (w : List ℕ) (i : ℕ) → length (after w i) ≡ length w - i
length_after w i = length_row (suc i) (length w - i)

first_append : (t : List ℕ → Bool) (k l : List (List ℕ)) → first t (k ++ l) ≡ or_else (first t k) (first t l)
first_append t [] l = refl
first_append t (x ∷ k) l = go (t x) (first_append t k l)
  where
    go : (c : Bool) → first t (k ++ l) ≡ or_else (first t k) (first t l) →
        cond c (some x) (first t (k ++ l)) ≡ or_else (cond c (some x) (first t k)) (first t l)
    go true e = refl
    go false e = e

first_map : (t : List ℕ → Bool) (g : List ℕ → List ℕ) (l : List (List ℕ)) → first t (map g l) ≡ Option.map g (first (λ x. t (g x)) l)
first_map t g [] = refl
first_map t g (x ∷ l) = go (t (g x)) (first_map t g l)
  where
    go : (c : Bool) → first t (map g l) ≡ Option.map g (first (λ x. t (g x)) l) →
        cond c (some (g x)) (first t (map g l)) ≡ Option.map g (cond c (some x) (first (λ x. t (g x)) l))
    go true e = refl
    go false e = e

first_never : (t : List ℕ → Bool) → ((x : List ℕ) → t x ≡ false) → (l : List (List ℕ)) → first t l ≡ none
first_never t h [] = refl
first_never t h (x ∷ l) = rw (h x) (first_never t h l)

-- the test of a copy that goes on with position i
go_on : (f : ℕ → ℕ) (b : List ℕ) (x : ℕ) (r s : List ℕ) (i : ℕ) (l : List ℕ) →
    iso (b ++ (x ∷ r)) (s ++ map f (i ∷ l)) ≡ iso ((b ++ (x ∷ [])) ++ r) ((s ++ (f i ∷ [])) ++ map f l)
go_on f b x r s i l = rw (append_assoc b (x ∷ []) r, append_assoc s (f i ∷ []) (map f l)) refl

-- where the new entries do not fit, no copy goes on with them
no_copy : (f : ℕ → ℕ) (b : List ℕ) (x : ℕ) (r s : List ℕ) (i : ℕ) → iso b s ≡ true → fits b x s (f i) ≡ false →
    (l : List ℕ) → iso (b ++ (x ∷ r)) (s ++ map f (i ∷ l)) ≡ false
no_copy f b x r s i e h l = go (iso (b ++ (x ∷ r)) (s ++ map f (i ∷ l))) refl
  where
    go : (c : Bool) → iso (b ++ (x ∷ r)) (s ++ map f (i ∷ l)) ≡ c → c ≡ false
    go false k = refl
    go true k =
        let len : length (b ++ (x ∷ [])) ≡ length (s ++ (f i ∷ [])) =
        omega (arith, length-append b (x ∷ []), length-append s (f i ∷ []), iso_length b s e) in
        let p : iso (b ++ (x ∷ [])) (s ++ (f i ∷ [])) ≡ true =
        iso_prefix (b ++ (x ∷ [])) r (s ++ (f i ∷ [])) (map f l) len (sym (go_on f b x r s i l) ∙ k) in
        sym p ∙ iso_snoc b x s (f i) ∙ rw (e, h) refl

seek_step : (f : ℕ → ℕ) (b : List ℕ) (x : ℕ) (r s : List ℕ) (i : ℕ) (k : List (List ℕ)) (o : Option (List ℕ)) → iso b s ≡ true →
    (iso (b ++ (x ∷ [])) (s ++ (f i ∷ [])) ≡ true → o ≡ first (λ l. iso ((b ++ (x ∷ [])) ++ r) ((s ++ (f i ∷ [])) ++ map f l)) k) →
    cond (fits b x s (f i)) (Option.map (λ l. i ∷ l) o) none ≡
    Option.map (λ l. i ∷ l) (first (λ l. iso (b ++ (x ∷ r)) (s ++ map f (i ∷ l))) k)
seek_step f b x r s i k o e ih = go (fits b x s (f i)) refl
  where
    go : (c : Bool) → fits b x s (f i) ≡ c →
        cond c (Option.map (λ l. i ∷ l) o) none ≡ Option.map (λ l. i ∷ l) (first (λ l. iso (b ++ (x ∷ r)) (s ++ map f (i ∷ l))) k)
    go true h =
        ap (Option.map (λ l. i ∷ l)) (ih (iso_snoc b x s (f i) ∙ rw (e, h) refl) ∙
        ap (λ (t : List ℕ → Bool). first t k) (fun_ext (λ l. sym (go_on f b x r s i l))))
    go false h = sym (ap (Option.map (λ l. i ∷ l)) (first_never (λ l. iso (b ++ (x ∷ r)) (s ++ map f (i ∷ l))) (no_copy f b x r s i e h) k))

-- the search entry by entry finds the first of all lists of positions
seek_first : (f : ℕ → ℕ) (b r s q : List ℕ) → iso b s ≡ true →
    seek f b r s q ≡ first (λ at. iso (b ++ r) (s ++ map f at)) (sublists (length r) q)
unfolding seek
seek_first f b [] s q e = rw (append-nil b, append-nil s, e) refl
seek_first f b (x ∷ r) s [] e = refl
seek_first f b (x ∷ r) s (i ∷ q) e =
    rw (first_append (λ at. iso (b ++ (x ∷ r)) (s ++ map f at)) (map (λ l. i ∷ l) (sublists (length r) q)) (sublists (suc (length r)) q))
    (rw (first_map (λ at. iso (b ++ (x ∷ r)) (s ++ map f at)) (λ l. i ∷ l) (sublists (length r) q))
    (rw (
      seek_first f b (x ∷ r) s q e,
      seek_step f b x r s i (sublists (length r) q)
          (seek f (b ++ (x ∷ [])) r (s ++ (f i ∷ [])) q) e (λ h. seek_first f (b ++ (x ∷ [])) r (s ++ (f i ∷ [])) q h),
    ) refl))

-- too few positions hold no copy
seek_short : (f : ℕ → ℕ) (b r s q : List ℕ) → length q < length r → seek f b r s q ≡ none
unfolding seek
seek_short f b [] s q h = absurd (omega arith)
seek_short f b (x ∷ r) s [] h = refl
seek_short f b (x ∷ r) s (i ∷ q) h =
    rw (seek_short f b (x ∷ r) s q (omega arith), seek_short f (b ++ (x ∷ [])) r (s ++ (f i ∷ [])) q (omega arith)) (go (fits b x s (f i)))
  where
    go : (c : Bool) → or_else (cond c (Option.map (λ l. i ∷ l) none) none) none ≡ none
    go true = refl
    go false = refl

seek_place : (f : ℕ → ℕ) (b : List ℕ) (x : ℕ) (r s pre : List ℕ) (i : ℕ) (q : List ℕ) → fits b x s (f i) ≡ true →
    Option.map (λ l. pre ++ l) (seek f b (x ∷ r) s (i ∷ q)) ≡
    or_else (Option.map (λ l. (pre ++ (i ∷ [])) ++ l) (seek f (b ++ (x ∷ [])) r (s ++ (f i ∷ [])) q))
    (Option.map (λ l. pre ++ l) (seek f b (x ∷ r) s q))
unfolding seek
seek_place f b x r s pre i q e =
    rw (e, map_or_else (λ l. pre ++ l), map_map (λ l. pre ++ l) (λ l. i ∷ l)) (simp append_assoc)

module _ (β w : List ℕ) where
  -- the first copy whose first d positions are those of `at`, its next position one of q
  unfoldable pub here : List ℕ → ℕ → List ℕ → Option (List ℕ)
  here at d q = Option.map (λ l. take d at ++ l) (seek (entry w) (take d β) (drop d β) (map (entry w) (take d at)) q)

  -- what the positions before the one at place d put off
  unfoldable pub later : List ℕ → ℕ → Option (List ℕ)
  unfolding here
  later at zero = none
  later at (suc d) = or_else (here at d (after w (get_or at d 0))) (later at d)

  unfoldable pub left : List ℕ → ℕ → List ℕ → Option (List ℕ)
  unfolding here later
  left at d q = or_else (here at d q) (later at d)

  pub left_start : (at : List ℕ) → left at 0 (after w 0) ≡ first_copy β w
  unfolding left seek first_copy iso
  left_start at = rw (sub-zero (length w)) (start (seek (entry w) [] β [] (row 1 (length w))) ∙ seek_first (entry w)
      [] β [] (row 1 (length w)) refl)
    where
      start : (a : Option (List ℕ)) → or_else (Option.map (λ l. l) a) none ≡ a
      start none = refl
      start (some l) = refl

  -- whether the entry at position i can stand for the pattern entry at place d
  abbrev pub place : List ℕ → ℕ → ℕ → Bool
  place at d i = fits (take d β) (get_or β d 0) (map (entry w) (take d at)) (entry w i)

  here_skip : (at : List ℕ) (d i : ℕ) (q : List ℕ) → d < length β → place at d i ≡ false → here at d (i ∷ q) ≡ here at d q
  unfolding here seek
  here_skip at d i q h e = rw (drop-cons β d 0 h, e) refl

  pub left_skip : (at : List ℕ) (d i : ℕ) (q : List ℕ) → d < length β → place at d i ≡ false → left at d (i ∷ q) ≡ left at d q
  unfolding left
  left_skip at d i q h e = rw (here_skip at d i q h e) refl

  here_set : (at : List ℕ) (d i : ℕ) (q : List ℕ) → here (set at d i) d q ≡ here at d q
  unfolding here
  here_set at d i q = rw (take-set-le d at d i (omega arith)) refl

  later_set : (at : List ℕ) (d i m : ℕ) → m ≤ d → later (set at d i) m ≡ later at m
  unfolding later
  later_set at d i zero h = refl
  later_set at d i (suc m) h =
      rw (get_or-set_other at d m i 0 (omega arith), take-set-le m at d i (omega arith), later_set at d i m (omega arith)) refl

  here_place : (at : List ℕ) (d i : ℕ) (q : List ℕ) → d < length β → d < length at → place at d i ≡ true →
      here at d (i ∷ q) ≡ or_else (here (set at d i) (suc d) q) (here at d q)
  unfolding here seek
  here_place at d i q h k e =
      rw (take-suc-set at d i k, take-suc β d 0 h, map-append, drop-cons β d 0 h)
      (seek_place (entry w) (take d β) (get_or β d 0) (drop (suc d) β) (map (entry w) (take d at)) (take d at) i q e)

  pub left_place : (at : List ℕ) (d i : ℕ) → d < length β → d < length at → place at d i ≡ true →
      left at d (i ∷ after w i) ≡ left (set at d i) (suc d) (after w i)
  unfolding left later
  left_place at d i h k e =
      rw (get_or-set_same at d i 0 k, here_set at d i, later_set at d i d (omega arith), here_place at d i (after w i) h k e)
      (or_else_assoc_lem (here (set at d i) (suc d) (after w i)) (here at d (after w i)) (later at d))

  here_none : (at : List ℕ) (d : ℕ) (q : List ℕ) → length q < length β - d → here at d q ≡ none
  unfolding here
  here_none at d q h =
      rw (seek_short (entry w) (take d β) (drop d β) (map (entry w) (take d at)) q (omega (arith, length-drop d β))) refl

  pub left_back : (at : List ℕ) (d : ℕ) (q : List ℕ) → length q < length β - suc d → left at (suc d) q ≡ left at d (after w (get_or at d 0))
  unfolding left later
  left_back at d q h = rw (here_none at (suc d) q h) refl

  pub left_none : (at : List ℕ) (q : List ℕ) → length q < length β → left at 0 q ≡ none
  unfolding left later
  left_none at q h = rw (here_none at 0 q (omega arith)) refl

  pub left_found : (at : List ℕ) (q : List ℕ) → left at (length β) q ≡ some (take (length β) at)
  unfolding left here seek
  left_found at q = rw (drop-length β, append-nil) refl

-- how many steps are left at the most

-- what the positions before the one at place d put off
unfoldable pub load : ℕ → ℕ → List ℕ → ℕ → ℕ
unfolding size
load k n at zero = 0
load k n at (suc d) = size (k - d) (n - get_or at d 0) + load k n at d

unfoldable pub weight : ℕ → ℕ → List ℕ → ℕ → ℕ → ℕ
unfolding load
weight k n at d i = size (k - d) (n - i) + load k n at d

-- one position is tried: its part and the rest
size_parts : (a b l m : ℕ) → a ≡ suc b → l ≡ suc m → size b m + size a m < size a l
unfolding size
size_parts a b l m p q = rw (p, q) (omega arith)

load_set : (k n : ℕ) (at : List ℕ) (d v m : ℕ) → m ≤ d → load k n (set at d v) m ≡ load k n at m
unfolding load
load_set k n at d v zero h = refl
load_set k n at d v (suc m) h = rw (get_or-set_other at d m v 0 (omega arith), load_set k n at d v m (omega arith)) refl

pub weight_skip : (k n : ℕ) (at : List ℕ) (d i : ℕ) → d < k → i < n → weight k n at d (i + 1) < weight k n at d i
unfolding weight
weight_skip k n at d i h j = omega (arith, size_parts (k - d) (k - (d + 1)) (n - i) (n - (i + 1)) (omega arith) (omega arith))

pub weight_place : (k n : ℕ) (at : List ℕ) (d i : ℕ) → d < k → i < n → d < length at →
    weight k n (set at d (i + 1)) (d + 1) (i + 1) < weight k n at d i
unfolding weight load
weight_place k n at d i h j l =
    rw (add-one d, get_or-set_same at d (i + 1) 0 l, load_set k n at d (i + 1) d (omega arith))
    (omega (arith, size_parts (k - d) (k - suc d) (n - i) (n - (i + 1)) (omega arith) (omega arith)))

pub weight_back : (k n : ℕ) (at : List ℕ) (d i : ℕ) → (d ≡ 0 → ⊥) → weight k n at (d - 1) (get_or at (d - 1) 0) < weight k n at d i
unfolding weight load
weight_back k n at d i h = go (d - 1) (omega arith)
  where
    go : (c : ℕ) → d ≡ suc c → weight k n at c (get_or at c 0) < weight k n at d i
    go c e = rw e (omega (arith, size_pos (k - suc c) (n - i)))

-- the pairs of the new entries with those that stand

pub pairs_none : (b e : List ℕ) (x y d j : ℕ) → d ≤ length b → d ≤ length e → d ≤ j →
    fits (drop j (take d b)) x (drop j (take d e)) y ≡ true
unfolding fits
pairs_none b e x y d j hb he h =
    let lb : length (take d b) ≤ j = rw (length-take-le d b hb) h in
    let le : length (take d e) ≤ j = rw (length-take-le d e he) h in
    rw (drop_of_length-le (take d b) lb, drop_of_length-le (take d e) le) refl

pair_cons : (b e : List ℕ) (x y d j : ℕ) → d ≤ length b → d ≤ length e → j < d →
    fits (drop j (take d b)) x (drop j (take d e)) y ≡
    beq (ltb (get_or b j 0) x) (ltb (get_or e j 0) y) && fits (drop (j + 1) (take d b)) x (drop (j + 1) (take d e)) y
unfolding fits
pair_cons b e x y d j hb he h =
    let lb : j < length (take d b) = rw (length-take-le d b hb) h in
    let le : j < length (take d e) = rw (length-take-le d e he) h in
    rw (add-one j, drop-cons (take d b) j 0 lb, drop-cons (take d e) j 0 le, get_or-take d b j 0 h, get_or-take d e j 0 h) refl

module _ (b e : List ℕ) (x y d j : ℕ) (hb : d ≤ length b) (he : d ≤ length e) (h : j < d) where
  pub pair_passed : not (beq (ltb (get_or b j 0) x) (ltb (get_or e j 0) y)) ≡ false →
      fits (drop j (take d b)) x (drop j (take d e)) y ≡ fits (drop (j + 1) (take d b)) x (drop (j + 1) (take d e)) y
  pair_passed t = rw (pair_cons b e x y d j hb he h, not-false (beq (ltb (get_or b j 0) x) (ltb (get_or e j 0) y)) t) refl

  pub pair_failed : not (beq (ltb (get_or b j 0) x) (ltb (get_or e j 0) y)) ≡ true →
      fits (drop j (take d b)) x (drop j (take d e)) y ≡ false
  pair_failed t = rw (pair_cons b e x y d j hb he h, not-true (beq (ltb (get_or b j 0) x) (ltb (get_or e j 0) y)) t) refl

-- the state of the walk before the entry at place d is sought after position i: the first copy is
-- the first that is left, the entries are those at the positions, and behind the pattern's length
-- no position was written
pub record Walk (β w : List ℕ) (k : ℕ) (at entries : List ℕ) (d i : ℕ) : Type 0 where
  pub answer : first_copy β w ≡ left β w at d (after w i)
  pub same : take d entries ≡ map (entry w) (take d at)
  pub inside : d < k
  pub positions : length at ≡ 8
  pub values : length entries ≡ 8
  pub rest : drop k at ≡ replicate (8 - k) 0
  pub reached : i ≤ length w
  pub stored : (j : ℕ) → j < d → get_or at j 0 ≤ length w

drop_replicate : (k n : ℕ) → drop {A = ℕ} k (replicate n 0) ≡ replicate (n - k) 0
drop_replicate zero n = rw (sub-zero n) refl
drop_replicate (suc k) zero = rw (zero-sub (suc k)) refl
drop_replicate (suc k) (suc n) = rw (suc-sub-suc n k) (drop_replicate k n)

take_map : (f : ℕ → ℕ) (d : ℕ) (l : List ℕ) → take d (map f l) ≡ map f (take d l)
take_map f zero l = refl
take_map f (suc d) [] = refl
take_map f (suc d) (x ∷ l) = ap {B = List ℕ} (λ r. f x ∷ r) (take_map f d l)

-- one entry less stands
take_less : (f : ℕ → ℕ) (d c : ℕ) (at entries : List ℕ) → c ≤ d → take d entries ≡ map f (take d at) → take c entries ≡ map f (take c at)
take_less f d c at entries h e =
    sym (take-take c d entries h) ∙ ap (take c) e ∙ take_map f c (take d at) ∙ ap (map f) (take-take c d at h)

-- one entry more stands
take_more : (w : List ℕ) (d i : ℕ) (at entries : List ℕ) → d < length at → d < length entries → take d entries ≡ map (entry w) (take d at) →
    take (d + 1) (set entries d (get_or w i 0)) ≡ map (entry w) (take (d + 1) (set at d (i + 1)))
unfolding entry
take_more w d i at entries ha he e =
    rw (add-one d, add-one i, take-suc-set at d (suc i) ha, take-suc-set entries d (get_or w i 0) he, map-append, e) refl

module _ (p w : List ℕ) (k : ℕ) (capped : k ≡ min (length p) 8) where
  pub length_cut : length (take 8 p) ≡ k
  length_cut = omega (arith, length-take 8 p, capped)

  pub walk_start : (k ≡ 0 → ⊥) → Walk (take 8 p) w k (replicate 8 0) (replicate 8 0) 0 0
  walk_start h =
      record {
        answer = sym (left_start (take 8 p) w (replicate 8 0));
        same = refl;
        inside = omega arith;
        positions = refl;
        values = refl;
        rest = drop_replicate k 8;
        reached = omega arith;
        stored = λ j b. absurd (omega arith);
      }

  module _ (at entries : List ℕ) (d i : ℕ) (W : Walk (take 8 p) w k at entries d i) where
    module _ (h : i < length w) where
      fit_place : fits (take d p) (get_or p d 0) (take d entries) (get_or w i 0) ≡ place (take 8 p) w at d (suc i)
      unfolding entry
      fit_place =
          rw (W.same, take-take d 8 p (omega (arith, W.inside)), get_or-take 8 p d 0 (omega (arith, W.inside, capped))) refl

      pub walk_skip : fits (take d p) (get_or p d 0) (take d entries) (get_or w i 0) ≡ false → Walk (take 8 p) w k at entries d (i + 1)
      walk_skip e =
          record {
            answer =
                W.answer ∙ rw (add-one i, after_cons w i h)
                (left_skip (take 8 p) w at d (suc i) (after w (suc i)) (omega (arith, length_cut, W.inside)) (sym fit_place ∙ e));
            same = W.same;
            inside = W.inside;
            positions = W.positions;
            values = W.values;
            rest = W.rest;
            reached = omega arith;
            stored = W.stored;
          }

      module _ (e : fits (take d p) (get_or p d 0) (take d entries) (get_or w i 0) ≡ true) where
        placed : first_copy (take 8 p) w ≡ left (take 8 p) w (set at d (i + 1)) (d + 1) (after w (i + 1))
        placed =
            W.answer ∙ rw (add-one i, add-one d, after_cons w i h)
            (left_place (take 8 p) w at d (suc i) (omega (arith, length_cut, W.inside))
            (omega (arith, W.positions, W.inside)) (sym fit_place ∙ e))

        rest_kept : drop k (set at d (i + 1)) ≡ replicate (8 - k) 0
        rest_kept = drop-set-lt k at d (i + 1) W.inside ∙ W.rest

        pub walk_on : (d + 1 ≡ k → ⊥) → Walk (take 8 p) w k (set at d (i + 1)) (set entries d (get_or w i 0)) (d + 1) (i + 1)
        walk_on n =
            record {
              answer = placed;
              same = take_more w d i at entries (omega (arith, W.positions, W.inside)) (omega (arith, W.values, W.inside)) W.same;
              inside = omega (arith, W.inside);
              positions = length-set at d (i + 1) ∙ W.positions;
              values = length-set entries d (get_or w i 0) ∙ W.values;
              rest = rest_kept;
              reached = omega arith;
              stored = λ j b. stored_set j b (same_or_not j d);
            }
          where
            stored_set : (j : ℕ) → j < d + 1 → (j ≡ d) ⊎ (j ≡ d → ⊥) → get_or (set at d (i + 1)) j 0 ≤ length w
            stored_set j b (inl q) = rw (q, get_or-set_same at d (i + 1) 0 (omega (arith, W.positions, W.inside))) (omega arith)
            stored_set j b (inr q) = rw (get_or-set_other at d j (i + 1) 0 q) (W.stored j (omega arith))

        pub walk_found : d + 1 ≡ k → Some (set at d (i + 1)) ≡ shown (first_copy (take 8 p) w)
        walk_found n =
            let next : List ℕ = set at d (i + 1) in
            let copy : first_copy (take 8 p) w ≡ some (take k next) =
            placed ∙ ap (λ (m : ℕ). left (take 8 p) w next m (after w (i + 1))) (n ∙ sym length_cut) ∙
            left_found (take 8 p) w next (after w (i + 1)) ∙ ap (λ (m : ℕ). some (take m next)) length_cut in
            let long : length (take k next) ≡ k = length-take-le k next (omega (arith, length-set at d (i + 1), W.positions)) in
            let whole : take k next ++ replicate (8 - length (take k next)) 0 ≡ next =
            ap (λ (m : ℕ). take k next ++ replicate (8 - m) 0) long ∙ ap (λ (r : List ℕ). take k next ++ r) (sym rest_kept) ∙
            take-append-drop k next in
            rw copy (ap Some (sym whole))

    pub walk_back : length w - i < k - d → (d ≡ 0 → ⊥) → Walk (take 8 p) w k at entries (d - 1) (get_or at (d - 1) 0)
    walk_back h n = back (d - 1) (omega arith)
      where
        back : (c : ℕ) → d ≡ suc c → Walk (take 8 p) w k at entries c (get_or at c 0)
        back c e =
            record {
              answer = W.answer ∙ rw e (left_back (take 8 p) w at c (after w i) (omega (arith, length_cut, length_after w i, e)));
              same = take_less (entry w) d c at entries (omega arith) W.same;
              inside = omega (arith, W.inside);
              positions = W.positions;
              values = W.values;
              rest = W.rest;
              reached = W.stored c (omega arith);
              stored = λ j b. W.stored j (omega arith);
            }

    pub walk_none : length w - i < k - d → d ≡ 0 → first_copy (take 8 p) w ≡ none
    walk_none h n = W.answer ∙ rw n (left_none (take 8 p) w at (after w i) (omega (arith, length_cut, length_after w i, n)))

-- the empty pattern stands everywhere, at no position
pub empty_copy : (β w : List ℕ) → length β ≡ 0 → shown (first_copy β w) ≡ Some (replicate 8 0)
empty_copy β w e =
    let none_left : left β w [] 0 (after w 0) ≡ some [] =
    ap (λ (m : ℕ). left β w [] m (after w 0)) (sym e) ∙ left_found β w [] (after w 0) ∙ ap (λ (m : ℕ). some (take m [])) e in
    ap shown (sym (left_start β w []) ∙ none_left)
