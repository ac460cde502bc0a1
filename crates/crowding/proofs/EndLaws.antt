-- The ends in memory, entry by entry, and how many unused values follow them.
-- Assumes nothing.
use Prim.Native.Nat.{ℕ, zero, suc, ◌+◌, ◌-◌, ◌≤◌, ◌<◌}
use mathlib.Core.Path.{◌≡◌, refl, sym, ap, ap₂, ◌∙◌}
use mathlib.Core.Logic.{◌⊎◌, inl, inr}
use mathlib.Core.Bool.{Bool, true, false, not, ◌&&◌, cond}
use mathlib.Core.List.{List, [], ◌∷◌, ◌++◌}
use native.Mathlib.Numerals.{add-one}
use native.Mathlib.Omega.{arith}
use lib.ListN.{length, get_or, take, drop, set, replicate, get_or-replicate, drop_of_length-le}
use lib.Seq.{take-suc, drop-cons, take_all, get_or-set_same, get_or-set_other}
use Rattle.word.specs.ListLaws.{same_or_not}
use Rattle.crowding.specs.Crowding.{precedes, bound, start_ends, next_ends, ends_after, ends}
use Rattle.crowding.specs.Followers.{following, Holds}

-- fewer elements, and one more
pub holds_fewer : (j k : ℕ) (f : ℕ → ℕ) (s : List ℕ) → j ≤ k → Holds k f s → Holds j f s
holds_fewer j k f s h e l i = e l (omega arith)

pub holds_more : (k : ℕ) (f : ℕ → ℕ) (s : List ℕ) (v : ℕ) → k < length s → v ≡ f k → Holds k f s → Holds (k + 1) f (set s k v)
holds_more k f s v h q e l i = go (same_or_not l k)
  where
    go : (l ≡ k) ⊎ (l ≡ k → ⊥) → get_or (set s k v) l 0 ≡ f l
    go (inl o) = rw o (get_or-set_same s k v 0 h ∙ q)
    go (inr o) = get_or-set_other s k l v 0 o ∙ e l (omega arith)

pub holds_start : (up : Bool) (n k first none : ℕ) → first ≡ bound up n → none ≡ bound (not up) n →
    Holds k (start_ends up n) (set (replicate k none) 0 first)
unfolding start_ends
holds_start up n zero first none p q l h = absurd (omega arith)
holds_start up n (suc k) first none p q zero h = p
holds_start up n (suc k) first none p q (suc l) h = get_or-replicate k l none 0 (omega arith) ∙ q

-- the ends after one entry more
after_snoc : (up : Bool) (e : ℕ → ℕ) (u : List ℕ) (x l : ℕ) → ends_after up e (u ++ (x ∷ [])) l ≡ next_ends up x (ends_after up e u) l
unfolding ends_after
after_snoc up e [] x l = refl
after_snoc up e (y ∷ u) x l = after_snoc up (next_ends up y e) u x l

ends_snoc : (up : Bool) (n : ℕ) (u : List ℕ) (x l : ℕ) → ends up n (u ++ (x ∷ [])) l ≡ next_ends up x (ends up n u) l
unfolding ends
ends_snoc up n u x l = after_snoc up (start_ends up n) u x l

next_same : (up : Bool) (x k : ℕ) (e f : ℕ → ℕ) → ((l : ℕ) → l < k → e l ≡ f l) → (l : ℕ) → l < k → next_ends up x e l ≡ next_ends up x f l
unfolding next_ends
next_same up x k e f h zero i = h zero i
next_same up x k e f h (suc l) i =
    ap₂ (λ (a b : ℕ). cond (precedes up a x && precedes up x b) x b) (h l (omega arith)) (h (suc l) i)

pub ends_none : (up : Bool) (n k : ℕ) (s : List ℕ) → Holds k (start_ends up n) s → Holds k (ends up n []) s
unfolding ends ends_after
ends_none up n k s h = h

pub ends_more : (up : Bool) (n k : ℕ) (w : List ℕ) (i : ℕ) (s t : List ℕ) → i < length w → Holds k (ends up n (take i w)) s →
    Holds k (next_ends up (get_or w i 0) (λ l. get_or s l 0)) t → Holds k (ends up n (take (i + 1) w)) t
ends_more up n k w i s t h e f l j =
    rw (add-one i, take-suc w i 0 h)
    (f l j ∙ next_same up (get_or w i 0) k (λ l. get_or s l 0) (ends up n (take i w)) e l j ∙
    sym (ends_snoc up n (take i w) (get_or w i 0) l))

pub ends_whole : (up : Bool) (n k : ℕ) (w : List ℕ) (i : ℕ) (s : List ℕ) → length w ≤ i → Holds k (ends up n (take i w)) s →
    Holds k (ends up n w) s
ends_whole up n k w i s h e l j = e l j ∙ ap (λ (u : List ℕ). ends up n u l) (take_all i w h)

-- the first ends stay, and the next one is told by `next_end`
pub next_first : (up : Bool) (x : ℕ) (s : List ℕ) → Holds 1 (next_ends up x (λ l. get_or s l 0)) s
unfolding next_ends
next_first up x s zero h = refl
next_first up x s (suc l) h = absurd (omega arith)

pub next_more : (up : Bool) (x : ℕ) (s t : List ℕ) (l v : ℕ) → 1 ≤ l → l < length t →
    v ≡ cond (precedes up (get_or s (l - 1) 0) x && precedes up x (get_or s l 0)) x (get_or s l 0) →
    Holds l (next_ends up x (λ l. get_or s l 0)) t → Holds (l + 1) (next_ends up x (λ l. get_or s l 0)) (set t l v)
unfolding next_ends
next_more up x s t l v pos h q e = holds_more l (next_ends up x (λ l. get_or s l 0)) t v h (next (l - 1) (omega arith)) e
  where
    next : (m : ℕ) → l ≡ suc m → v ≡ next_ends up x (λ l. get_or s l 0) l
    next m z = let before : l - 1 ≡ m = omega arith in rw z (rw z at (rw before at q))

-- one unused value more
module _ (up : Bool) (x : ℕ) (w : List ℕ) (i : ℕ) (h : i < length w) where
  rest_cons : drop i w ≡ get_or w i 0 ∷ drop (i + 1) w
  rest_cons = rw (add-one i) (drop-cons w i 0 h)

  pub following_one : precedes up x (get_or w i 0) ≡ true → following up x (drop i w) ≡ 1 + following up x (drop (i + 1) w)
  unfolding following
  following_one e = rw (rest_cons, e) (omega arith)

  pub following_other : precedes up x (get_or w i 0) ≡ false → following up x (drop i w) ≡ following up x (drop (i + 1) w)
  unfolding following
  following_other e = rw (rest_cons, e) refl

pub following_none : (up : Bool) (x : ℕ) (w : List ℕ) (i : ℕ) → length w ≤ i → following up x (drop i w) ≡ 0
unfolding following
following_none up x w i h = rw (drop_of_length-le w h) refl
