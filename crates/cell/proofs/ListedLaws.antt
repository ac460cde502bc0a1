-- What document 01 says of spacings, children and compared spacings beside their definitions: the
-- total of a spacing, the number of children, and that each compared spacing is listed once.
use Prim.Native.Nat.{ℕ, zero, suc, ◌+◌, ◌-◌, ◌≤◌, ◌<◌}
use Rattle.std.proofs.Common.{zero-add, suc-add, add-zero, sym, ap, ◌∙◌, inl, inr, take-append-drop}
use native.Mathlib.Omega.{arith}
use Rattle.std.specs.Prelude.{◌≡◌, ◌⊎◌, true, length, get_or, drop}
use Rattle.std.proofs.Math.Path.{refl, ap₂, fun_ext}
use mathlib.Core.List.Memᴰ
use mathlib.Core.List.{List, [], ◌∷◌, ◌++◌, map, Memᴰ}
use Rattle.std.proofs.Math.ListN.{take}
use Rattle.std.proofs.lemmas.List.{length-map}
use Rattle.std.proofs.Math.Seq.{length-take-le}
use Rattle.word.specs.Lists.{keep, each, row}
use Rattle.word.specs.Word.{reduce, is_perm, bump, perms, before}
use Rattle.word.specs.ListLaws.{below_or_not, map_same, each_out, each_append, row_out}
use Rattle.word.specs.CopyLaws.{before_cons}
use Rattle.word.specs.BumpLaws.{Bumped, stays, moves, bumped}
use Rattle.word.specs.PermLaws.{has_out, perm_bounds, perm_has}
use Rattle.word.specs.AscendLaws.{ascends, before_first, ascends_map, ascends_append, ascends_keep, ascends_once, perms_ascend}
use Rattle.cell.specs.Basis.{same}
use Rattle.cell.specs.Cell.{total, sort, between, spacing, children, free, vectors, compared_to}
use Rattle.cell.specs.Child.{child_at}
use Rattle.cell.proofs.SpacingWalk.{vectors_are}
use Rattle.cell.proofs.SpacingLaws.{Up, length_sort, sort_out, sort_up, length_spacing}
use Rattle.cell.proofs.BuiltWords.{perm_parts}
use Rattle.cell.proofs.BuiltCells.{ascends_same}
use Rattle.cell.proofs.EachLaws.{keep_map, keep_append, map_each}
use Rattle.cell.proofs.ChildLaws.{children_are, children_all}

-- "A spacing vector for a prefix p of length k has k + 1 numbers" and "Its total is n − k" (01)

total_between : (a : ℕ) (u : List ℕ) (b : ℕ) → Up a u → ((x : ℕ) → Memᴰ x u → x < b) → a < b →
    suc (a + (length u + total (between a u b))) ≡ b
unfolding between total
total_between a [] b up low h = omega arith
total_between a (c ∷ u) b up low h =
    let below = up.0 in
    let rest = total_between c u b up.1 (λ (x : ℕ) (m : Memᴰ x u). low x (Memᴰ.tail m)) (low c (Memᴰ.head refl)) in
    omega arith

module _ (k : ℕ) (w : List ℕ) (perm : is_perm w ≡ true) (h : k ≤ length w) where
  first_in : {x : ℕ} → Memᴰ x (take k w) → Memᴰ x w
  first_in {x} m = rw (take-append-drop k w) at (Memᴰ.append_left (drop k w) m)

  pub spacing_length : length (spacing (length w) (take k w)) ≡ k + 1
  spacing_length = omega (arith, length_spacing (length w) (take k w), length-take-le k w h)

  pub spacing_total : total (spacing (length w) (take k w)) ≡ length w - k
  unfolding spacing
  spacing_total =
      let u = take k w in
      let up = sort_up 0 u (perm_parts k w perm).0 (λ (x : ℕ) (m : Memᴰ x u). (perm_bounds w perm (first_in m)).0) in
      let inside : (x : ℕ) → Memᴰ x (sort u) → x < suc (length w) = λ (x : ℕ) (m : Memᴰ x (sort u)).
      let b = perm_bounds w perm (first_in (sort_out u m)) in omega arith in
      omega (arith, total_between 0 (sort u) (suc (length w)) up inside (omega arith), length_sort u, length-take-le k w h)

-- "p has k + 1 children" (01), each listed once

-- n, n - 1, .., 1
abbrev pub down : ℕ → List ℕ
down zero = []
down (suc n) = suc n ∷ down n

length_down : (n : ℕ) → length (down n) ≡ n
length_down zero = refl
length_down (suc n) = ap suc (length_down n)

down_out : (n : ℕ) {a : ℕ} → Memᴰ a (down n) → (1 ≤ a) × (a ≤ n)
down_out zero m = absurd (Memᴰ.not-nil m)
down_out (suc n) {a} m = go (Memᴰ.cases_cons m) (λ (i : Memᴰ a (down n)). down_out n i)
  where
    go : (a ≡ suc n) ⊎ Memᴰ a (down n) → (Memᴰ a (down n) → (1 ≤ a) × (a ≤ n)) → (1 ≤ a) × (a ≤ suc n)
    go (inl e) ih = (omega arith, omega arith)
    go (inr i) ih = let (low, high) = ih i in (low, omega arith)

down_in : (n a : ℕ) → 1 ≤ a → a ≤ n → Memᴰ a (down n)
down_in zero a h k = absurd (omega arith)
down_in (suc n) a h k = go (below_or_not a (suc n)) (λ (l : a ≤ n). down_in n a h l)
  where
    go : (a < suc n) ⊎ (suc n ≤ a) → (a ≤ n → Memᴰ a (down n)) → Memᴰ a (down (suc n))
    go (inl l) ih = Memᴰ.tail (ih (omega arith))
    go (inr l) ih = let e : a ≡ suc n = omega arith in Memᴰ.head e

-- of two children the one with the larger last entry comes first: where p has b, it has b too, and
-- the other has b + 1
bumps_before : (a b : ℕ) (u s t : List ℕ) → b < a → Memᴰ b u → before (map (bump a) u ++ s) (map (bump b) u ++ t) ≡ true
bumps_before a b [] s t h m = absurd (Memᴰ.not-nil m)
bumps_before a b (x ∷ u) s t h m =
    go (bumped a x) (bumped b x) (Memᴰ.cases_cons m) (λ (i : Memᴰ b u). bumps_before a b u s t h i)
  where
    front : List ℕ
    front = map (bump a) u ++ s

    back : List ℕ
    back = map (bump b) u ++ t

    level : (y z : ℕ) → y ≡ z → before front back ≡ true → before (y ∷ front) (z ∷ back) ≡ true
    level y z e k = rw e (before_cons z front back ∙ k)

    go : Bumped a x → Bumped b x → (b ≡ x) ⊎ Memᴰ b u → (Memᴰ b u → before front back ≡ true) →
        before (bump a x ∷ front) (bump b x ∷ back) ≡ true
    go (stays l p) (moves n q) i ih = before_first (bump a x) (bump b x) front back (omega arith)
    go (stays l p) (stays n q) (inl e) ih = absurd (omega arith)
    go (stays l p) (stays n q) (inr i) ih = level (bump a x) (bump b x) (p ∙ sym q) (ih i)
    go (moves l p) (moves n q) (inl e) ih = absurd (omega arith)
    go (moves l p) (moves n q) (inr i) ih = level (bump a x) (bump b x) (p ∙ sym q) (ih i)
    go (moves l p) (stays n q) i ih = absurd (omega arith)

module _ (p : List ℕ) (perm : is_perm p ≡ true) where
  down_ascend : (n : ℕ) → n ≤ suc (length p) → ascends (map (child_at p) (down n)) ≡ true
  unfolding ascends child_at
  down_ascend zero h = refl
  down_ascend (suc n) h =
      ascends_append (child_at p (suc n) ∷ []) (map (child_at p) (down n)) refl (down_ascend n (omega arith))
      (λ (u v : List ℕ) (i : Memᴰ u (child_at p (suc n) ∷ [])) (j : Memᴰ v (map (child_at p) (down n))).
      let (b, m, q) = Memᴰ.of_map (child_at p) (down n) j in
      let (low, high) = down_out n m in
      ap₂ before (Memᴰ.eq_of_singleton i) (sym q) ∙
      bumps_before (suc n) b p (suc n ∷ []) (b ∷ []) (omega arith) (has_out b p (perm_has p b perm low (omega arith))))

  pub children_ascend : ascends (children p) ≡ true
  unfolding children
  children_ascend = ascends_keep (λ q. same (reduce (take (length p) q)) p) (perms (suc (length p))) (perms_ascend (suc (length p)))

  -- the children by falling last entry
  pub children_down : children p ≡ map (child_at p) (down (suc (length p)))
  children_down =
      ascends_same (children p) (map (child_at p) (down (suc (length p)))) children_ascend (down_ascend (suc (length p)) (omega arith))
      (λ (q : List ℕ) (m : Memᴰ q (children p)).
      let (a, low, high, e) = children_are p perm m in
      rw e (Memᴰ.map (child_at p) (down_in (suc (length p)) a low high)))
      (λ (q : List ℕ) (m : Memᴰ q (map (child_at p) (down (suc (length p))))).
      let (a, i, e) = Memᴰ.of_map (child_at p) (down (suc (length p))) m in
      let (low, high) = down_out (suc (length p)) i in
      rw (← e) (children_all p a perm low high))

  pub children_number : length (children p) ≡ length p + 1
  children_number =
      omega (arith, ap length children_down, length-map (down (suc (length p))) (child_at p), length_down (suc (length p)))

  pub children_once : (i j : ℕ) → i < j → j < length (children p) → get_or (children p) i [] ≡ get_or (children p) j [] → ⊥
  children_once i j h k q = ascends_once (children p) i j children_ascend h k q

-- "An acceptance reports the number of compared cells: pairs of a deleting entry and such a
-- spacing" (01): each spacing is listed once, by rising total, lexicographic within a total.

each_ascend : (f : ℕ → List (List ℕ)) (a n : ℕ) → ((x : ℕ) → ascends (f x) ≡ true) →
    ((x y : ℕ) (u v : List ℕ) → x < y → Memᴰ u (f x) → Memᴰ v (f y) → before u v ≡ true) → ascends (each f (row a n)) ≡ true
unfolding ascends
each_ascend f a zero one across = refl
each_ascend f a (suc n) one across =
    ascends_append (f a) (each f (row (suc a) n)) (one a) (each_ascend f (suc a) n one across)
    (λ (u v : List ℕ) (i : Memᴰ u (f a)) (j : Memᴰ v (each f (row (suc a) n))).
    let (y, k, m) = each_out f (row (suc a) n) j in
    across a y u v (row_out (suc a) n k).0 i m)

-- lists of words behind their first entries
heads_ascend : (f : ℕ → List (List ℕ)) (a n : ℕ) → ((x : ℕ) → ascends (f x) ≡ true) →
    ascends (each (λ x. map (λ g. x ∷ g) (f x)) (row a n)) ≡ true
heads_ascend f a n one =
    each_ascend (λ x. map (λ g. x ∷ g) (f x)) a n (λ x. ascends_map (λ g. x ∷ g) (f x) (λ u v. before_cons x u v) ∙ one x)
    (λ (x y : ℕ) (u v : List ℕ) (h : x < y) (i : Memᴰ u (map (λ g. x ∷ g) (f x))) (j : Memᴰ v (map (λ g. y ∷ g) (f y))).
    let (s, m, p) = Memᴰ.of_map (λ (g : List ℕ). x ∷ g) (f x) i in
    let (t, n, q) = Memᴰ.of_map (λ (g : List ℕ). y ∷ g) (f y) j in
    ap₂ before (sym p) (sym q) ∙ before_first x y s t h)

pub vectors_ascend : (k t : ℕ) → ascends (vectors k t) ≡ true
unfolding vectors ascends
vectors_ascend zero zero = refl
vectors_ascend zero (suc t) = refl
vectors_ascend (suc k) t = heads_ascend (λ x. vectors k (t - x)) 0 (suc t) (λ x. vectors_ascend k (t - x))

-- a spacing behind its total
abbrev pub totalled : List ℕ → List ℕ
totalled g = total g ∷ g

pub compared_ascend : (m k : ℕ) (B : List (List ℕ)) → ascends (map totalled (compared_to m k B)) ≡ true
unfolding compared_to
compared_ascend m k B =
    let all = each (vectors (suc k)) (row 0 m) in
    ap ascends (sym (keep_map (λ g. free B (drop 1 g)) totalled all)) ∙
    ascends_keep (λ g. free B (drop 1 g)) (map totalled all)
    (ap ascends (map_each totalled (vectors (suc k)) (row 0 m) ∙
    ap (λ (f : ℕ → List (List ℕ)). each f (row 0 m)) (fun_ext (λ (t : ℕ). by_total t))) ∙
    heads_ascend (vectors (suc k)) 0 m (vectors_ascend (suc k)))
  where
    by_total : (t : ℕ) → map totalled (vectors (suc k) t) ≡ map (λ g. t ∷ g) (vectors (suc k) t)
    by_total t = map_same totalled (λ g. t ∷ g) (vectors (suc k) t) (λ g m. ap (λ n. n ∷ g) (vectors_are (suc k) t m).1)

get_d_map : (f : List ℕ → List ℕ) (l : List (List ℕ)) (i : ℕ) → i < length l → get_or (map f l) i [] ≡ f (get_or l i [])
get_d_map f [] i h = absurd (omega arith)
get_d_map f (u ∷ l) zero h = refl
get_d_map f (u ∷ l) (suc i) h = get_d_map f l i (omega arith)

pub compared_once : (m k : ℕ) (B : List (List ℕ)) (i j : ℕ) → i < j → j < length (compared_to m k B) →
    get_or (compared_to m k B) i [] ≡ get_or (compared_to m k B) j [] → ⊥
compared_once m k B i j h l q =
    let c = compared_to m k B in
    let many = length-map c totalled in
    ascends_once (map totalled c) i j (compared_ascend m k B) h (omega arith)
    (get_d_map totalled c i (omega arith) ∙ ap totalled q ∙ sym (get_d_map totalled c j l))

-- The spacings compared under a smaller m are the first of those under a larger.
row_append : (a m n : ℕ) → row a (m + n) ≡ row a m ++ row (a + m) n
row_append a zero n = rw (add-zero a, zero-add n) refl
row_append a (suc m) n = rw (suc-add m n) (ap (λ (l : List ℕ). a ∷ l)
    (row_append (suc a) m n ∙ ap (λ (b : ℕ). row (suc a) m ++ row b n) (omega arith)))

pub compared_more : (m n k : ℕ) (B : List (List ℕ)) → m ≤ n → (l : List (List ℕ)) × (compared_to n k B ≡ compared_to m k B ++ l)
unfolding compared_to
compared_more m n k B h =
    let e : n ≡ m + (n - m) = omega arith in (
      keep (free B) (each (vectors (suc k)) (row (0 + m) (n - m))),
      ap (λ (t : ℕ). keep (free B) (each (vectors (suc k)) (row 0 t))) e ∙
          ap (λ (r : List ℕ). keep (free B) (each (vectors (suc k)) r)) (row_append 0 m (n - m)) ∙
          ap (keep (free B)) (each_append (vectors (suc k)) (row 0 m) (row (0 + m) (n - m))) ∙
          keep_append (free B) (each (vectors (suc k)) (row 0 m)) (each (vectors (suc k)) (row (0 + m) (n - m))),
    )
