-- One entry of the rest of a built word goes: the spacing with one component lowered, and the word
-- that is left.
use Rattle.std.specs.Prelude.{ℕ, zero, suc, ◌+◌, ◌-◌, ◌≤◌, ◌<◌, ◌≡◌, refl, true, cond, ◌⊎◌, length, get_or, leb, ltb}
use Rattle.std.proofs.Common.{sym, ap, ◌∙◌, inl, inr, arith, length-append, lt-ltb, le-ltb, le-leb}
use mathlib.Core.List.Memᴰ
use mathlib.Core.List.{List, [], ◌∷◌, ◌++◌, map, Memᴰ}
use mathlib.Core.List.Sublistᴰ
use mathlib.Core.List.{Sublistᴰ}
use Rattle.std.proofs.Math.ListN.{get_or-map}
use Rattle.std.proofs.lemmas.Bool.{lt-leb}
use Rattle.word.specs.Word.{iso, contains, avoids, distinct, is_perm, bump}
use Rattle.word.specs.ListLaws.{below_or_not, and_in, get_or_mem}
use Rattle.word.specs.IsoLaws.{iso_refl, iso_sym, iso_trans, iso_map}
use Rattle.word.specs.ContainsLaws.{contains_word_iso, avoids_word_iso, avoids_sublist}
use Rattle.word.specs.BumpLaws.{Bumped, stays, moves, bumped, bump_below, bump_keeps}
use Rattle.word.specs.PermLaws.{distinct_out, distinct_in, perm_bounds, perm_distinct, perm_in, perm_uncons}
use Rattle.cell.specs.Cell.{total, at_least}
use Rattle.cell.proofs.BuiltLaws.{iso_built}
use Rattle.cell.specs.Built.{level, val, lift, built}
use Rattle.cell.proofs.SpacingWalk.{at_least_refl}
use Rattle.word.specs.ListLaws.{sublist_mem}
use Rattle.cell.specs.SublistLaws.{sublist_map, sublist_without}

-- Lowering a spacing

-- g with the component that holds the rest value s lowered by one
unfoldable pub lowered : List ℕ → ℕ → List ℕ
lowered [] s = []
lowered (x ∷ g) s = cond (leb s x) ((x - 1) ∷ g) (x ∷ lowered g (s - x))

-- the first component holds s, or a later one does
pub data Lowered (x : ℕ) (g : List ℕ) (s : ℕ) : Type 0 where
  here : s ≤ x → lowered (x ∷ g) s ≡ (x - 1) ∷ g → Lowered x g s
  later : x < s → lowered (x ∷ g) s ≡ x ∷ lowered g (s - x) → Lowered x g s

pub lowers : (x : ℕ) (g : List ℕ) (s : ℕ) → Lowered x g s
unfolding lowered
lowers x g s = go (below_or_not x s)
  where
    go : (x < s) ⊎ (s ≤ x) → Lowered x g s
    go (inl h) = later h (rw (lt-leb s x h) refl)
    go (inr h) = here h (rw (le-leb s x h) refl)

pub length_lowered : (g : List ℕ) (s : ℕ) → length (lowered g s) ≡ length g
unfolding lowered
length_lowered [] s = refl
length_lowered (x ∷ g) s = go (length_lowered g (s - x)) (lowers x g s)
  where
    go : length (lowered g (s - x)) ≡ length g → Lowered x g s → length (lowered (x ∷ g) s) ≡ suc (length g)
    go ih (here h e) = rw e
    go ih (later h e) = rw e (ap suc ih)

pub total_lowered : (g : List ℕ) (s : ℕ) → 1 ≤ s → s ≤ total g → total (lowered g s) + 1 ≡ total g
unfolding total
total_lowered [] s p h = absurd (omega arith)
total_lowered (x ∷ g) s p h = go (total_lowered g (s - x)) (lowers x g s)
  where
    go : (1 ≤ s - x → s - x ≤ total g → total (lowered g (s - x)) + 1 ≡ total g) → Lowered x g s →
        total (lowered (x ∷ g) s) + 1 ≡ x + total g
    go ih (here k e) = rw e (omega arith)
    go ih (later k e) = rw e (omega (arith, ih (omega arith) (omega arith)))

-- a prefix value with fewer than s rest values below it keeps their number, any other loses one
pub level_lowered_below : (g : List ℕ) (s a : ℕ) → 1 ≤ s → level g a < s → level (lowered g s) a ≡ level g a
unfolding level lowered
level_lowered_below g s zero p h = refl
level_lowered_below [] s (suc a) p h = refl
level_lowered_below (x ∷ g) s (suc a) p h = go (level_lowered_below g (s - x) a) (lowers x g s)
  where
    go : (1 ≤ s - x → level g a < s - x → level (lowered g (s - x)) a ≡ level g a) → Lowered x g s →
        level (lowered (x ∷ g) s) (suc a) ≡ x + level g a
    go ih (here k e) = absurd (omega arith)
    go ih (later k e) = rw e (omega (arith, ih (omega arith) (omega arith)))

pub level_lowered_above : (g : List ℕ) (s a : ℕ) → 1 ≤ s → s ≤ level g a → level (lowered g s) a ≡ level g a - 1
unfolding level lowered
level_lowered_above g s zero p h = absurd (omega arith)
level_lowered_above [] s (suc a) p h = absurd (omega arith)
level_lowered_above (x ∷ g) s (suc a) p h = go (level_lowered_above g (s - x) a) (lowers x g s)
  where
    go : (1 ≤ s - x → s - x ≤ level g a → level (lowered g (s - x)) a ≡ level g a - 1) → Lowered x g s →
        level (lowered (x ∷ g) s) (suc a) ≡ x + level g a - 1
    go ih (here k e) = rw e (omega arith)
    go ih (later k e) = rw e (omega (arith, ih (omega arith) (omega arith)))

-- so a prefix value is below the same entries as before, if the entries step over s
pub level_bump : (g : List ℕ) (s a t : ℕ) → 1 ≤ s → ltb (level (lowered g s) a) t ≡ ltb (level g a) (bump s t)
level_bump g s a t p = go (below_or_not (level g a) s) (bumped s t)
  where
    go : (level g a < s) ⊎ (s ≤ level g a) → Bumped s t → ltb (level (lowered g s) a) t ≡ ltb (level g a) (bump s t)
    go (inl h) (stays k e) = rw (level_lowered_below g s a p h, e)
    go (inl h) (moves k e) = rw (level_lowered_below g s a p h, e)
        (lt-ltb (level g a) t (omega arith) ∙ sym (lt-ltb (level g a) (suc t) (omega arith)))
    go (inr h) (stays k e) = rw (level_lowered_above g s a p h, e)
        (le-ltb (level g a - 1) t (omega arith) ∙ sym (le-ltb (level g a) t (omega arith)))
    go (inr h) (moves k e) = rw (level_lowered_above g s a p h, e) (moved (below_or_not (level g a) (suc t)))
      where
        moved : (level g a < suc t) ⊎ (suc t ≤ level g a) → ltb (level g a - 1) t ≡ ltb (level g a) (suc t)
        moved (inl j) = lt-ltb (level g a - 1) t (omega arith) ∙ sym (lt-ltb (level g a) (suc t) j)
        moved (inr j) = le-ltb (level g a - 1) t (omega arith) ∙ sym (le-ltb (level g a) (suc t) j)

pub at_least_lowered : (g : List ℕ) (s : ℕ) → at_least g (lowered g s) ≡ true
unfolding at_least lowered
at_least_lowered [] s = refl
at_least_lowered (x ∷ g) s = go (at_least_lowered g (s - x)) (lowers x g s)
  where
    go : at_least g (lowered g (s - x)) ≡ true → Lowered x g s → at_least (x ∷ g) (lowered (x ∷ g) s) ≡ true
    go ih (here h e) = rw e (and_in (leb (x - 1) x) (at_least g g) (le-leb (x - 1) x (omega arith)) (at_least_refl g))
    go ih (later h e) = rw e (and_in (leb x x) (at_least g (lowered g (s - x))) (le-leb x x (omega arith)) ih)

-- Taking an entry out of a permutation

-- distinct entries stay distinct if one of them goes to the front
distinct_front : (u : List ℕ) (s : ℕ) (v : List ℕ) → distinct (u ++ (s ∷ v)) ≡ true → distinct (s ∷ (u ++ v)) ≡ true
distinct_front [] s v h = h
distinct_front (x ∷ u) s v h =
    let (new, rest) = distinct_out x (u ++ (s ∷ v)) h in
    let (fresh, tail) = distinct_out s (u ++ v) (distinct_front u s v rest) in
    distinct_in s (x ∷ (u ++ v)) (λ (m : Memᴰ s (x ∷ (u ++ v))). other new fresh (Memᴰ.cases_cons m))
    (distinct_in x (u ++ v) (λ (m : Memᴰ x (u ++ v)). new (sublist_mem (sublist_without u s v) m)) tail)
  where
    other : (Memᴰ x (u ++ (s ∷ v)) → ⊥) → (Memᴰ s (u ++ v) → ⊥) → (s ≡ x) ⊎ Memᴰ s (u ++ v) → ⊥
    other new fresh (inl e) = new (Memᴰ.append_right u (Memᴰ.head (sym e)))
    other new fresh (inr m) = fresh m

-- what is left of a permutation without its entry s, at any place, is a permutation τ that steps
-- over s
pub take_out : (σ u : List ℕ) (s : ℕ) (v : List ℕ) → σ ≡ u ++ (s ∷ v) → is_perm σ ≡ true →
    (τ : List ℕ) × (is_perm τ ≡ true) × (map (bump s) τ ≡ u ++ v) × (suc (length τ) ≡ length σ) × (1 ≤ s) × (s ≤ length σ)
take_out σ u s v split h =
    let (τ, e, l, q, low, high) = perm_uncons s (u ++ v) front in
    (τ, e, sym q, omega (arith, size), low, omega (arith, size))
  where
    size : length σ ≡ suc (length (u ++ v))
    size = ap length split ∙ simp length-append (omega arith)

    inside : {x : ℕ} → (x ≡ s) ⊎ Memᴰ x (u ++ v) → Memᴰ x (u ++ (s ∷ v))
    inside (inl e) = Memᴰ.append_right u (Memᴰ.head e)
    inside (inr m) = sublist_mem (sublist_without u s v) m

    bounds : (x : ℕ) → Memᴰ x (s ∷ (u ++ v)) → (1 ≤ x) × (x ≤ suc (length (u ++ v)))
    bounds x m = let b = perm_bounds σ {x = x} h (rw split (inside (Memᴰ.cases_cons m))) in omega (arith, size)

    front : is_perm (s ∷ (u ++ v)) ≡ true
    front = perm_in (s ∷ (u ++ v)) bounds (distinct_front u s v (rw split at (perm_distinct σ h)))

-- The built word without an entry of its rest

-- the values of q are below the number of components of g
abbrev pub Within : List ℕ → List ℕ → Type 0
Within q g = (x : ℕ) → Memᴰ x q → x < length g

-- The word over the lowered spacing is isomorphic to the word whose rest r steps over s: for σ ≡ u
-- ++ (s ∷ v) and r ≡ u ++ v, to the built word without the entry s of its rest.
pub iso_lowered : (q g r : List ℕ) (s : ℕ) (τ : List ℕ) → 1 ≤ s → Within q g → map (bump s) τ ≡ r →
    iso (built q (lowered g s) τ) (built q g r) ≡ true
iso_lowered q g r s τ p w e =
    rw (← e) (iso_built q (lowered g s) τ q g (map (bump s) τ) (iso_refl q) (iso_map (bump s) (bump_keeps s) τ τ ∙ iso_refl τ)
    (λ (i : ℕ) (h : i < length q). rw (length_lowered g s) (below i h)) below crosses)
  where
    below : (i : ℕ) → i < length q → get_or q i 0 < length g
    below i h = w (get_or q i 0) (get_or_mem q i 0 h)

    crosses : (i j : ℕ) → i < length q → j < length τ →
        ltb (level (lowered g s) (get_or q i 0)) (get_or τ j 0) ≡ ltb (level g (get_or q i 0)) (get_or (map (bump s) τ) j 0)
    crosses i j h k =
        let zero_stays : bump s 0 ≡ 0 = bump_below s 0 p in
        let e : get_or (map (bump s) τ) j 0 ≡ bump s (get_or τ j 0) = rw zero_stays at (get_or-map (bump s) τ j 0) in
        rw e (level_bump g s (get_or q i 0) (get_or τ j 0) p)

-- so the two contain the same patterns, avoid the same patterns, and are copies of the same
-- patterns
pub contains_lowered : (β q g r : List ℕ) (s : ℕ) (τ : List ℕ) → 1 ≤ s → Within q g → map (bump s) τ ≡ r →
    contains β (built q (lowered g s) τ) ≡ contains β (built q g r)
contains_lowered β q g r s τ p w e = contains_word_iso β (built q (lowered g s) τ) (built q g r) (iso_lowered q g r s τ p w e)

pub avoids_same_lowered : (P : List (List ℕ)) (q g r : List ℕ) (s : ℕ) (τ : List ℕ) → 1 ≤ s → Within q g → map (bump s) τ ≡ r →
    avoids P (built q (lowered g s) τ) ≡ avoids P (built q g r)
avoids_same_lowered P q g r s τ p w e = avoids_word_iso P (built q (lowered g s) τ) (built q g r) (iso_lowered q g r s τ p w e)

pub copy_lowered : (β q g r : List ℕ) (s : ℕ) (τ : List ℕ) → 1 ≤ s → Within q g → map (bump s) τ ≡ r →
    iso β (built q g r) ≡ true → iso β (built q (lowered g s) τ) ≡ true
copy_lowered β q g r s τ p w e h =
    iso_trans β (built q g r) (built q (lowered g s) τ) h (iso_sym (built q g r) (built q (lowered g s) τ) ∙ iso_lowered q g r s τ p w e)

-- a built word with a sublist of the prefix and a sublist of the rest is a sublist
pub built_sublist : {a p : List ℕ} (g : List ℕ) {r σ : List ℕ} → Sublistᴰ a p → Sublistᴰ r σ → Sublistᴰ (built a g r) (built p g σ)
unfolding built
built_sublist g d e = Sublistᴰ.append (sublist_map (val g) d) (sublist_map (lift g) e)

-- if the built word avoids P, so does the word over the lowered spacing
pub avoids_lowered : (P : List (List ℕ)) (q g σ u : List ℕ) (s : ℕ) (v τ : List ℕ) → σ ≡ u ++ (s ∷ v) → 1 ≤ s → Within q g →
    map (bump s) τ ≡ u ++ v → avoids P (built q g σ) ≡ true → avoids P (built q (lowered g s) τ) ≡ true
avoids_lowered P q g σ u s v τ split p w e h =
    avoids_same_lowered P q g (u ++ v) s τ p w e ∙
    avoids_sublist P (built_sublist g (Sublistᴰ.refl q) (sublist_without u s v)) (rw split at h)

-- prefix values stay below the number of components
pub within_lowered : (q g : List ℕ) (s : ℕ) → Within q g → Within q (lowered g s)
within_lowered q g s w x m = rw (length_lowered g s) (w x m)
