-- The children of a cell: the next entry of a member, the child's prefix and spacing, and the cell
-- as the cells of its children.
use Rattle.std.specs.Prelude.{ℕ, zero, suc, ◌+◌, ◌-◌, ◌≤◌, ◌<◌, ◌≡◌, refl, ◌⊎◌, Bool, true, false, not, ◌&&◌, ◌||◌, cond, length, get_or}
use Rattle.std.specs.Prelude.{take, eqb}
use Rattle.std.proofs.Common.{arith, sym, ap, ap₂, ◌∙◌, inl, inr, length-append, take_all, take_at, take-suc, length-take-le, le-leb}
use Rattle.std.proofs.Common.{eqb-true, eq-eqb}
use Rattle.std.proofs.Math.Path.{fun_ext}
use mathlib.Core.List.Memᴰ
use mathlib.Core.List.{List, [], ◌∷◌, ◌++◌, map, map-append, map-map, map-id, append_assoc, append-nil, Memᴰ}
use Rattle.std.proofs.lemmas.List.{length-map, get_or_at}
use Rattle.std.proofs.lemmas.Bool.{lt-leb}
use Rattle.word.specs.Lists.{all, keep, each, one_to}
use Rattle.word.specs.Word.{avoids, under, reduce, has, distinct, within, is_perm, bump, perms}
use Rattle.word.specs.ListLaws.{same_test, below_or_not, keep_out, keep_in, map_same, row_out}
use Rattle.word.specs.BumpLaws.{Bumped, stays, moves, bumped, bump_below, bump_above}
use Rattle.word.specs.PermLaws.{perm_cons, perm_uncons, perms_are, perms_all, under_bump_below, under_bump_above, reduce_perm}
use Rattle.cell.specs.Basis.{same}
use Rattle.cell.specs.Cell.{total, cell, children}
use Rattle.cell.specs.Child.{slot, child_at, split}
use Rattle.cell.proofs.BuiltLaws.{lift_rises}
use Rattle.cell.specs.Built.{val, lift, built}
use Rattle.cell.proofs.EachLaws.{keep_map, keep_each, each_same, map_each, length_each_total}
use Rattle.cell.proofs.BuiltWords.{lift_low, lift_high}
use Rattle.cell.proofs.BuiltCells.{same_out, same_in, cell_built}

-- s lies in the first component or in a later one
data Held (x : ℕ) (g : List ℕ) (s : ℕ) : Type 0 where
  here : s ≤ x → slot (x ∷ g) s ≡ 1 → split (x ∷ g) s ≡ (s - 1) ∷ ((x - s) ∷ g) → Held x g s
  later : x < s → slot (x ∷ g) s ≡ suc (slot g (s - x)) → split (x ∷ g) s ≡ x ∷ split g (s - x) → Held x g s

held : (x : ℕ) (g : List ℕ) (s : ℕ) → Held x g s
unfolding slot split
held x g s = go (below_or_not x s)
  where
    go : (x < s) ⊎ (s ≤ x) → Held x g s
    go (inl h) = later h (rw (lt-leb s x h) refl) (rw (lt-leb s x h) refl)
    go (inr h) = here h (rw (le-leb s x h) refl) (rw (le-leb s x h) refl)

pub slot_bounds : (g : List ℕ) (s : ℕ) → 1 ≤ s → s ≤ total g → (1 ≤ slot g s) × (slot g s ≤ length g)
unfolding total
slot_bounds [] s h k = absurd (omega arith)
slot_bounds (x ∷ g) s h k = go (slot_bounds g (s - x)) (held x g s)
  where
    go : (1 ≤ s - x → s - x ≤ total g → (1 ≤ slot g (s - x)) × (slot g (s - x) ≤ length g)) → Held x g s →
        (1 ≤ slot (x ∷ g) s) × (slot (x ∷ g) s ≤ suc (length g))
    go ih (here b q r) = omega arith
    go ih (later b q r) = let i = ih (omega arith) (omega arith) in omega arith

pub split_length : (g : List ℕ) (s : ℕ) → 1 ≤ s → s ≤ total g → length (split g s) ≡ suc (length g)
unfolding total
split_length [] s h k = absurd (omega arith)
split_length (x ∷ g) s h k = go (split_length g (s - x)) (held x g s)
  where
    go : (1 ≤ s - x → s - x ≤ total g → length (split g (s - x)) ≡ suc (length g)) → Held x g s →
        length (split (x ∷ g) s) ≡ suc (suc (length g))
    go ih (here b q r) = ap length r
    go ih (later b q r) = ap length r ∙ ap suc (ih (omega arith) (omega arith))

pub split_total : (g : List ℕ) (s : ℕ) → 1 ≤ s → s ≤ total g → total (split g s) + 1 ≡ total g
unfolding total
split_total [] s h k = absurd (omega arith)
split_total (x ∷ g) s h k = go (split_total g (s - x)) (held x g s)
  where
    go : (1 ≤ s - x → s - x ≤ total g → total (split g (s - x)) + 1 ≡ total g) → Held x g s → total (split (x ∷ g) s) + 1 ≡ x + total g
    go ih (here b q r) = rw r (omega arith)
    go ih (later b q r) = rw r (omega (arith, ih (omega arith) (omega arith)))

-- The values of the child's word are the values of the member, entry by entry.

bump_suc : (a y : ℕ) → bump (suc a) (suc y) ≡ suc (bump a y)
bump_suc a y = go (bumped a y)
  where
    go : Bumped a y → bump (suc a) (suc y) ≡ suc (bump a y)
    go (stays h q) = bump_below (suc a) (suc y) (omega arith) ∙ ap suc (sym q)
    go (moves h q) = bump_above (suc a) (suc y) (omega arith) ∙ ap suc (sym q)

-- an entry of p
pub val_split : (g : List ℕ) (s a : ℕ) → 1 ≤ s → s ≤ total g → val (split g s) (bump (slot g s) a) ≡ val g a
unfolding total val
val_split [] s a h k = absurd (omega arith)
val_split (x ∷ g) s zero h k = go (held x g s)
  where
    go : Held x g s → val (split (x ∷ g) s) (bump (slot (x ∷ g) s) 0) ≡ val (x ∷ g) 0
    go (here b q r) = rw (q, bump_below 1 0 (omega arith)) refl
    go (later b q r) = rw (q, bump_below (suc (slot g (s - x))) 0 (omega arith)) refl
val_split (x ∷ g) s (suc a) h k = go (val_split g (s - x) a) (held x g s)
  where
    go : (1 ≤ s - x → s - x ≤ total g → val (split g (s - x)) (bump (slot g (s - x)) a) ≡ val g a) → Held x g s →
        val (split (x ∷ g) s) (bump (slot (x ∷ g) s) (suc a)) ≡ val (x ∷ g) (suc a)
    go ih (here b q r) = rw (q, r, bump_above 1 (suc a) (omega arith)) (omega arith)
    go ih (later b q r) = rw (q, r, bump_suc (slot g (s - x)) a) (omega (arith, ih (omega arith) (omega arith)))

-- the next entry
pub val_slot : (g : List ℕ) (s : ℕ) → 1 ≤ s → s ≤ total g → val (split g s) (slot g s) ≡ lift g s
unfolding total val
val_slot [] s h k = absurd (omega arith)
val_slot (x ∷ g) s h k = go (val_slot g (s - x)) (held x g s)
  where
    go : (1 ≤ s - x → s - x ≤ total g → val (split g (s - x)) (slot g (s - x)) ≡ lift g (s - x)) → Held x g s →
        val (split (x ∷ g) s) (slot (x ∷ g) s) ≡ lift (x ∷ g) s
    go ih (here b q r) = rw (q, r, lift_low x g s b) (omega arith)
    go ih (later b q r) = rw (q, r, lift_high x g s b) (omega (arith, ih (omega arith) (omega arith)))

-- an entry behind it
pub lift_split : (g : List ℕ) (s t : ℕ) → 1 ≤ s → s ≤ total g → lift (split g s) t ≡ lift g (bump s t)
unfolding total
lift_split [] s t h k = absurd (omega arith)
lift_split (x ∷ g) s t h k = go (lift_split g (s - x) (t - x)) (held x g s) (bumped s t) (below_or_not x t)
  where
    apart : s ≤ x → s ≤ t → (x < suc t) ⊎ (suc t ≤ x) → lift ((s - 1) ∷ ((x - s) ∷ g)) t ≡ lift (x ∷ g) (suc t)
    apart b m (inl c) =
        let e : (t - (s - 1)) - (x - s) ≡ suc t - x = omega arith in
        let l : lift ((x - s) ∷ g) (t - (s - 1)) ≡ suc ((x - s) + lift g (suc t - x)) =
        lift_high (x - s) g (t - (s - 1)) (omega arith) ∙ rw e refl in
        rw (lift_high (s - 1) ((x - s) ∷ g) t (omega arith), l, lift_high x g (suc t) c) (omega arith)
    apart b m (inr c) =
        let l : lift ((x - s) ∷ g) (t - (s - 1)) ≡ t - (s - 1) = lift_low (x - s) g (t - (s - 1)) (omega arith) in
        rw (lift_high (s - 1) ((x - s) ∷ g) t (omega arith), l, lift_low x g (suc t) c) (omega arith)

    shifted : x < s → x < t → bump s t - x ≡ bump (s - x) (t - x)
    shifted b c = step (bumped s t) (bumped (s - x) (t - x))
      where
        step : Bumped s t → Bumped (s - x) (t - x) → bump s t - x ≡ bump (s - x) (t - x)
        step (stays i j) (stays k l) = omega arith
        step (stays i j) (moves k l) = absurd (omega arith)
        step (moves i j) (stays k l) = absurd (omega arith)
        step (moves i j) (moves k l) = omega arith

    above : x < t → Bumped s t → x < bump s t
    above c (stays i j) = omega arith
    above c (moves i j) = omega arith

    go : (1 ≤ s - x → s - x ≤ total g → lift (split g (s - x)) (t - x) ≡ lift g (bump (s - x) (t - x))) →
        Held x g s → Bumped s t → (x < t) ⊎ (t ≤ x) →
        lift (split (x ∷ g) s) t ≡ lift (x ∷ g) (bump s t)
    go ih (here b q r) (stays m n) c = rw (r, n, lift_low (s - 1) ((x - s) ∷ g) t (omega arith), lift_low x g t (omega arith)) refl
    go ih (here b q r) (moves m n) c = rw (r, n) (apart b m (below_or_not x (suc t)))
    go ih (later b q r) (stays m n) (inr c) = rw (r, n, lift_low x (split g (s - x)) t c, lift_low x g t c) refl
    go ih (later b q r) (moves m n) (inr c) = absurd (omega arith)
    go ih (later b q r) w (inl c) =
        let l : lift (x ∷ split g (s - x)) t ≡ suc (x + lift (split g (s - x)) (t - x)) = lift_high x (split g (s - x)) t c in
        let u : lift (x ∷ g) (bump s t) ≡ suc (x + lift g (bump s t - x)) = lift_high x g (bump s t) (above c w) in
        let i : lift (split g (s - x)) (t - x) ≡ lift g (bump (s - x) (t - x)) = ih (omega arith) (omega arith) in
        rw (r, l, u, shifted b c, i) refl

-- The key equation: the member with rest s ∷ map (bump s) τ is the member of the child's cell with
-- rest τ.
pub built_child : (p g : List ℕ) (s : ℕ) (τ : List ℕ) → 1 ≤ s → s ≤ total g →
    built p g (s ∷ map (bump s) τ) ≡ built (child_at p (slot g s)) (split g s) τ
unfolding built child_at
built_child p g s τ h k = sym (ap (λ u. u ++ map (lift (split g s)) τ) front ∙ append_assoc (map (val g) p)
    (lift g s ∷ []) (map (lift (split g s)) τ) ∙
    ap (λ v. map (val g) p ++ (lift g s ∷ v)) rest)
  where
    front : map (val (split g s)) (map (bump (slot g s)) p ++ (slot g s ∷ [])) ≡ map (val g) p ++ (lift g s ∷ [])
    front = map-append (val (split g s)) (map (bump (slot g s)) p) (slot g s ∷ []) ∙
        ap₂ ◌++◌ (map-map (val (split g s)) (bump (slot g s)) p ∙
        map_same (λ a. val (split g s) (bump (slot g s) a)) (val g) p (λ a m. val_split g s a h k))
        (ap (λ v. v ∷ []) (val_slot g s h k))

    rest : map (lift (split g s)) τ ≡ map (lift g) (map (bump s) τ)
    rest = map_same (lift (split g s)) (λ t. lift g (bump s t)) τ (λ t m. lift_split g s t h k) ∙ sym (map-map (lift g) (bump s) τ)

-- Rotation: a word with its last entry put first is a permutation exactly if the word is.

all_rotate : (f : ℕ → Bool) (u : List ℕ) (c : ℕ) → all f (u ++ (c ∷ [])) ≡ all f (c ∷ u)
all_rotate f [] c = refl
all_rotate f (x ∷ u) c = ap (λ t. f x && t) (all_rotate f u c) ∙ swap (f x) (f c)
  where
    swap : (a b : Bool) → a && (b && all f u) ≡ b && (a && all f u)
    swap true true = refl
    swap true false = refl
    swap false true = refl
    swap false false = refl

has_last : (x : ℕ) (u : List ℕ) (c : ℕ) → has x (u ++ (c ∷ [])) ≡ eqb x c || has x u
unfolding has
has_last x [] c = refl
has_last x (y ∷ u) c = ap (λ t. eqb x y || t) (has_last x u c) ∙ swap (eqb x y) (eqb x c)
  where
    swap : (a b : Bool) → a || (b || has x u) ≡ b || (a || has x u)
    swap true true = refl
    swap true false = refl
    swap false true = refl
    swap false false = refl

eqb_sym : (x y : ℕ) → eqb x y ≡ eqb y x
eqb_sym x y = same_test (eqb x y) (eqb y x) (λ e. eq-eqb y x (sym (eqb-true x y e))) (λ e. eq-eqb x y (sym (eqb-true y x e)))

distinct_rotate : (u : List ℕ) (c : ℕ) → distinct (u ++ (c ∷ [])) ≡ distinct (c ∷ u)
unfolding distinct
distinct_rotate [] c = refl
distinct_rotate (x ∷ u) c = ap₂ (λ a b. not a && b) (has_last x u c ∙ ap (λ t. t || has x u) (eqb_sym x c)) (distinct_rotate u c) ∙
    swap (eqb c x) (has x u) (has c u)
  where
    swap : (e a b : Bool) → not (e || a) && (not b && distinct u) ≡ not (e || b) && (not a && distinct u)
    swap true a b = refl
    swap false true true = refl
    swap false true false = refl
    swap false false true = refl
    swap false false false = refl

perm_rotate : (u : List ℕ) (c : ℕ) → is_perm (u ++ (c ∷ [])) ≡ is_perm (c ∷ u)
unfolding is_perm
perm_rotate u c =
    let l : length (u ++ (c ∷ [])) ≡ suc (length u) = omega (arith, length-append u (c ∷ [])) in
    ap₂ ◌&&◌ (ap (λ n. all (within n) (u ++ (c ∷ []))) l ∙ all_rotate (within (suc (length u))) u c) (distinct_rotate u c)

-- The children of a permutation p are the words child_at p a, for a from 1 to one more than the
-- length of p, each for one a.

pub child_length : (p : List ℕ) (a : ℕ) → length (child_at p a) ≡ suc (length p)
unfolding child_at
child_length p a = omega (arith, length-append (map (bump a) p) (a ∷ []), length-map p (bump a))

pub child_perm : (p : List ℕ) (a : ℕ) → is_perm p ≡ true → 1 ≤ a → a ≤ suc (length p) → is_perm (child_at p a) ≡ true
unfolding child_at
child_perm p a e h k = perm_rotate (map (bump a) p) a ∙ perm_cons a p e h k

pub child_last : (p : List ℕ) (a : ℕ) → get_or (child_at p a) (length p) 0 ≡ a
unfolding child_at
child_last p a = get_or_at (map (bump a) p) a [] 0 (length p) (length-map p (bump a))

pub child_injective : (p : List ℕ) (a b : ℕ) → child_at p a ≡ child_at p b → a ≡ b
child_injective p a b e = sym (child_last p a) ∙ ap (λ w. get_or w (length p) 0) e ∙ child_last p b

reduce_bump : (a : ℕ) (w : List ℕ) → reduce (map (bump a) w) ≡ reduce w
unfolding reduce
reduce_bump a w = map-map (under (map (bump a) w)) (bump a) w ∙
    map_same (λ x. under (map (bump a) w) (bump a x)) (under w) w (λ x m. go x (bumped a x))
  where
    go : (x : ℕ) → Bumped a x → under (map (bump a) w) (bump a x) ≡ under w x
    go x (stays h q) = rw q (under_bump_below a x w h)
    go x (moves h q) = rw q (under_bump_above a x w (omega arith))

pub children_all : (p : List ℕ) (a : ℕ) → is_perm p ≡ true → 1 ≤ a → a ≤ suc (length p) → Memᴰ (child_at p a) (children p)
unfolding children child_at
children_all p a e h k =
    keep_in (λ q. same (reduce (take (length p) q)) p)
    (perms_all (suc (length p)) (child_at p a) (child_perm p a e h k) (child_length p a)) test
  where
    front : take (length p) (map (bump a) p ++ (a ∷ [])) ≡ map (bump a) p
    front = take_at (map (bump a) p) (a ∷ []) (length p) (length-map p (bump a))

    test : same (reduce (take (length p) (map (bump a) p ++ (a ∷ [])))) p ≡ true
    test = rw (front, reduce_bump a p, reduce_perm p e) (same_in p p refl)

pub children_are : (p : List ℕ) {q : List ℕ} → is_perm p ≡ true → Memᴰ q (children p) →
    (a : ℕ) × (1 ≤ a) × (a ≤ suc (length p)) × (q ≡ child_at p a)
unfolding children child_at
children_are p {q} e m =
    let (n, t) = keep_out (λ q. same (reduce (take (length p) q)) p) (perms (suc (length p))) m in
    let (r, l) = perms_are (suc (length p)) n in
    let c = get_or q (length p) 0 in
    let u = take (length p) q in
    let cut : q ≡ u ++ (c ∷ []) = sym (take_all (suc (length p)) q (omega arith)) ∙ take-suc q (length p) 0 (omega arith) in
    let (s, i, j, o, low, high) = perm_uncons c u (sym (perm_rotate u c) ∙ sym (ap is_perm cut) ∙ r) in
    let same : p ≡ s = sym (same_out (reduce u) p t) ∙ ap reduce o ∙ reduce_bump c s ∙ reduce_perm s i in
    (c, low, omega (arith, length-take-le (length p) q (omega arith)), cut ∙ ap (λ v. v ++ (c ∷ [])) (o ∙ ap (map (bump c)) (sym same)))

-- A cell as the cells of its children

-- the members of a cell whose rests are listed
abbrev members : List (List ℕ) → List ℕ → List ℕ → List (List ℕ) → List (List ℕ)
members P p g l = map (built p g) (keep (λ σ. avoids P (built p g σ)) l)

-- the members whose next entry is s
members_child : (P : List (List ℕ)) (p g : List ℕ) (s : ℕ) (l : List (List ℕ)) → 1 ≤ s → s ≤ total g →
    members P p g (map (λ τ. s ∷ map (bump s) τ) l) ≡ members P (child_at p (slot g s)) (split g s) l
members_child P p g s l h k = ap (map (built p g)) (keep_map (λ σ. avoids P (built p g σ)) (λ τ. s ∷ map (bump s) τ) l) ∙
    map-map (built p g) (λ τ. s ∷ map (bump s) τ) (keep (λ τ. avoids P (built p g (s ∷ map (bump s) τ))) l) ∙
    ap (λ f. map f (keep (λ τ. avoids P (f τ)) l)) (fun_ext (λ τ. built_child p g s τ h k))

-- the entry of a built word behind its prefix
next_entry : (p g : List ℕ) (s : ℕ) (σ : List ℕ) → get_or (built p g (s ∷ σ)) (length p) 0 ≡ lift g s
unfolding built
next_entry p g s σ = get_or_at (map (val g) p) (lift g s) (map (lift g) σ) 0 (length p) (length-map p (val g))

members_next : (P : List (List ℕ)) (p g : List ℕ) (s : ℕ) (l : List (List ℕ)) {w : List ℕ} →
    Memᴰ w (members P p g (map (λ τ. s ∷ map (bump s) τ) l)) → get_or w (length p) 0 ≡ lift g s
members_next P p g s l {w} m = go (Memᴰ.of_map (built p g) (keep f (map h l)) m)
  where
    f : List ℕ → Bool
    f σ = avoids P (built p g σ)

    h : List ℕ → List ℕ
    h τ = s ∷ map (bump s) τ

    first : {σ : List ℕ} → (τ : List ℕ) × Memᴰ τ l × (h τ ≡ σ) → get_or (built p g σ) (length p) 0 ≡ lift g s
    first (τ, i, q) = rw (← q) (next_entry p g s (map (bump s) τ))

    go : (σ : List ℕ) × Memᴰ σ (keep f (map h l)) × (built p g σ ≡ w) → get_or w (length p) 0 ≡ lift g s
    go (σ, i, q) = rw (← q) (first (Memᴰ.of_map h l (keep_out f (map h l) i).0))

lift_injective : (g : List ℕ) (s t : ℕ) → lift g s ≡ lift g t → s ≡ t
lift_injective g s t e = go (below_or_not s t) (below_or_not t s)
  where
    go : (s < t) ⊎ (t ≤ s) → (t < s) ⊎ (s ≤ t) → s ≡ t
    go (inl h) k = absurd (omega (arith, lift_rises g s t h))
    go (inr h) (inl k) = absurd (omega (arith, lift_rises g t s k))
    go (inr h) (inr k) = omega arith

-- at total 0 each value stays
val_zero : (g : List ℕ) (a : ℕ) → total g ≡ 0 → val g a ≡ a
unfolding val total
val_zero g zero e = refl
val_zero [] (suc a) e = omega arith
val_zero (x ∷ g) (suc a) e = omega (arith, val_zero g a (omega arith))

built_zero : (p g : List ℕ) → total g ≡ 0 → built p g [] ≡ p
unfolding built
built_zero p g e = append-nil (map (val g) p) ∙ map_same (val g) (λ a. a) p (λ a m. val_zero g a e) ∙ map-id p

-- The parameter says that a cell lists the built words of its prefix and spacing that avoid P.
-- the cell of a child lists the members whose next entry is s
child_built : (P : List (List ℕ)) (p g : List ℕ) (n s : ℕ) → is_perm p ≡ true → length g ≡ suc (length p) → total g ≡
    suc n → 1 ≤ s → s ≤ suc n →
    cell P (child_at p (slot g s)) (split g s) ≡ members P p g (map (λ τ. s ∷ map (bump s) τ) (perms n))
child_built P p g n s e l t h k =
    let (low, high) = slot_bounds g s h (omega arith) in
    let q : is_perm (child_at p (slot g s)) ≡ true = child_perm p (slot g s) e low (omega arith) in
    let w : length (split g s) ≡ suc (length (child_at p (slot g s))) =
    omega (arith, split_length g s h (omega arith), child_length p (slot g s)) in
    let c : total (split g s) ≡ n = omega (arith, split_total g s h (omega arith)) in
    cell_built P (child_at p (slot g s)) (split g s) q w ∙ ap (λ m. members P (child_at p (slot g s)) (split g s) (perms m)) c ∙
    sym (members_child P p g s (perms n) h (omega arith))

-- a cell is the cells of its children, one after the other
pub cell_children : (P : List (List ℕ)) (p g : List ℕ) (n : ℕ) → is_perm p ≡ true → length g ≡ suc (length p) → total g ≡ suc n →
    cell P p g ≡ each (λ s. cell P (child_at p (slot g s)) (split g s)) (one_to (total g))
unfolding perms
cell_children P p g n e l t = cell_built P p g e l ∙ ap (λ m. members P p g (perms m)) t ∙
    ap (map (built p g)) (keep_each (λ σ. avoids P (built p g σ)) block (one_to (suc n))) ∙
    map_each (built p g) (λ s. keep (λ σ. avoids P (built p g σ)) (block s)) (one_to (suc n)) ∙
    each_same (λ s. members P p g (block s)) (λ s. cell P (child_at p (slot g s)) (split g s)) (one_to (suc n)) child ∙
    ap (λ m. each (λ s. cell P (child_at p (slot g s)) (split g s)) (one_to m)) (sym t)
  where
    block : ℕ → List (List ℕ)
    block s = map (λ τ. s ∷ map (bump s) τ) (perms n)

    child : (s : ℕ) → Memᴰ s (one_to (suc n)) → members P p g (block s) ≡ cell P (child_at p (slot g s)) (split g s)
    child s m = let (low, high) = row_out 1 (suc n) m in sym (child_built P p g n s e l t low (omega arith))

-- its size is the sum of their sizes
pub size_children : (P : List (List ℕ)) (p g : List ℕ) (n : ℕ) → is_perm p ≡ true → length g ≡ suc (length p) → total g ≡ suc n →
    length (cell P p g) ≡ total (map (λ s. length (cell P (child_at p (slot g s)) (split g s))) (one_to (total g)))
size_children P p g n e l t = ap length (cell_children P p g n e l t) ∙
    length_each_total (λ s. cell P (child_at p (slot g s)) (split g s)) (one_to (total g))

child_next : (P : List (List ℕ)) (p g : List ℕ) (n s : ℕ) {w : List ℕ} → is_perm p ≡ true → length g ≡ suc (length p) → total g ≡ suc n →
    1 ≤ s → s ≤ suc n → Memᴰ w (cell P (child_at p (slot g s)) (split g s)) → get_or w (length p) 0 ≡ lift g s
child_next P p g n s e l t h k m = members_next P p g s (perms n) (rw (child_built P p g n s e l t h k) at m)

-- the cells of two children have no common member
pub children_disjoint : (P : List (List ℕ)) (p g : List ℕ) (n s t : ℕ) {w : List ℕ} → is_perm p ≡ true → length g ≡
    suc (length p) → total g ≡ suc n →
    1 ≤ s → s ≤ suc n → 1 ≤ t → t ≤ suc n →
    Memᴰ w (cell P (child_at p (slot g s)) (split g s)) → Memᴰ w (cell P (child_at p (slot g t)) (split g t)) → s ≡ t
children_disjoint P p g n s t e l o h k i j a b =
    lift_injective g s t (sym (child_next P p g n s e l o h k a) ∙ child_next P p g n t e l o i j b)

-- at total 0 the one member is p itself, if it avoids P
pub cell_zero : (P : List (List ℕ)) (p g : List ℕ) → is_perm p ≡ true → length g ≡ suc (length p) → total g ≡ 0 →
    cell P p g ≡ cond (avoids P p) (p ∷ []) []
unfolding perms
cell_zero P p g e l t = cell_built P p g e l ∙ ap (λ m. members P p g (perms m)) t ∙ one (avoids P (built p g [])) ∙
    ap (λ v. cond (avoids P v) (v ∷ []) []) (built_zero p g t)
  where
    one : (b : Bool) → map (built p g) (cond b ([] ∷ []) []) ≡ cond b (built p g [] ∷ []) []
    one true = refl
    one false = refl
