-- The lexicographic order: the lists perms n and avoiders P n ascend, so they list each word once.
use Rattle.std.specs.Prelude.{ℕ, zero, suc, ◌<◌, ◌≡◌, refl, Bool, true, false, ◌&&◌, cond, length, get_or}
use Rattle.std.proofs.Common.{arith, sym, ap, ap₂, ◌∙◌, lt-ltb}
use Rattle.std.proofs.lemmas.Bool.{false≢true}
use mathlib.Core.List.Memᴰ
use mathlib.Core.List.{List, [], ◌∷◌, ◌++◌, map, Memᴰ}
use Rattle.word.specs.Lists.{all, keep, each, row}
use Rattle.word.specs.Word.{is_perm, bump, perms, avoids, avoiders, before}
use Rattle.word.specs.ListLaws.{and_left, and_right, and_in, all_out, all_in, all_same, all_append, all_map}
use Rattle.word.specs.ListLaws.{keep_out, keep_in, each_out, get_or_mem, row_out}
use Rattle.word.specs.CopyLaws.{before_irrefl, before_cons}
use Rattle.word.specs.BumpLaws.{bump_keeps, bump_eqb}
use Rattle.word.specs.PermLaws.{perms_are, perms_all}

-- each word of the list comes before every later one
unfoldable pub ascends : List (List ℕ) → Bool
ascends [] = true
ascends (u ∷ l) = all (before u) l && ascends l

pub before_bump : (a : ℕ) (s t : List ℕ) → before (map (bump a) s) (map (bump a) t) ≡ before s t
unfolding before
before_bump a s [] = refl
before_bump a [] (y ∷ t) = refl
before_bump a (x ∷ s) (y ∷ t) = rw (bump_keeps a x y, bump_eqb a x y, before_bump a s t)

-- a word with a smaller first entry comes first
pub before_first : (x y : ℕ) (u v : List ℕ) → x < y → before (x ∷ u) (y ∷ v) ≡ true
unfolding before
before_first x y u v h = rw (lt-ltb x y h)

-- lists that ascend
pub ascends_map : (f : List ℕ → List ℕ) (l : List (List ℕ)) → ((u v : List ℕ) → before (f u) (f v) ≡ before u v) →
    ascends (map f l) ≡ ascends l
unfolding ascends
ascends_map f [] h = refl
ascends_map f (u ∷ l) h =
    ap₂ ◌&&◌ (all_map (before (f u)) f l ∙ all_same (λ v. before (f u) (f v)) (before u) l (λ v m. h u v)) (ascends_map f l h)

pub ascends_append : (l m : List (List ℕ)) → ascends l ≡ true → ascends m ≡ true →
    ((u v : List ℕ) → Memᴰ u l → Memᴰ v m → before u v ≡ true) → ascends (l ++ m) ≡ true
unfolding ascends
ascends_append [] m p q h = q
ascends_append (u ∷ l) m p q h =
    let across : all (before u) m ≡ true = all_in (before u) m (λ (v : List ℕ) (n : Memᴰ v m). h u v (Memᴰ.head refl) n) in
    and_in (all (before u) (l ++ m)) (ascends (l ++ m)) (all_append (before u) l m (and_left (all (before u) l) (ascends l) p) across)
    (ascends_append l m (and_right (all (before u) l) (ascends l) p) q
    (λ (t v : List ℕ) (k : Memᴰ t l) (n : Memᴰ v m). h t v (Memᴰ.tail k) n))

pub ascends_keep : (f : List ℕ → Bool) (l : List (List ℕ)) → ascends l ≡ true → ascends (keep f l) ≡ true
unfolding ascends
ascends_keep f [] e = refl
ascends_keep f (u ∷ l) e = step (f u) (and_left (all (before u) l) (ascends l) e)
    (ascends_keep f l (and_right (all (before u) l) (ascends l) e))
  where
    step : (b : Bool) → all (before u) l ≡ true → ascends (keep f l) ≡ true → ascends (cond b (u ∷ keep f l) (keep f l)) ≡ true
    step true p q = and_in (all (before u) (keep f l)) (ascends (keep f l))
        (all_in (before u) (keep f l) (λ (v : List ℕ) (m : Memᴰ v (keep f l)). all_out (before u) (keep_out f l m).0 p)) q
    step false p q = q

pub ascends_at : (l : List (List ℕ)) (i j : ℕ) → ascends l ≡ true → i < j → j < length l → before (get_or l i []) (get_or l j []) ≡ true
unfolding ascends
ascends_at [] i j e h k = absurd (omega arith)
ascends_at (u ∷ l) i zero e h k = absurd (omega arith)
ascends_at (u ∷ l) zero (suc j) e h k = all_out (before u) (get_or_mem l j [] (omega arith)) (and_left (all (before u) l) (ascends l) e)
ascends_at (u ∷ l) (suc i) (suc j) e h k = ascends_at l i j (and_right (all (before u) l) (ascends l) e) (omega arith) (omega arith)

-- an ascending list lists no word twice
pub ascends_once : (l : List (List ℕ)) (i j : ℕ) → ascends l ≡ true → i < j → j < length l → get_or l i [] ≡ get_or l j [] → ⊥
ascends_once l i j e h k q =
    let p = ascends_at l i j e h k in
    false≢true (sym (before_irrefl (get_or l i [])) ∙ ap (before (get_or l i [])) q ∙ p)

-- the permutations by their first entries, which go up in a row
blocks_ascend : (l : List (List ℕ)) (a k : ℕ) → ascends l ≡ true → ascends (each (λ a. map (λ s. a ∷ map (bump a) s) l) (row a k)) ≡ true
unfolding ascends
blocks_ascend l a zero e = refl
blocks_ascend l a (suc k) e = ascends_append (block a) (each block (row (suc a) k)) one (blocks_ascend l (suc a) k e) across
  where
    block : ℕ → List (List ℕ)
    block a = map (λ s. a ∷ map (bump a) s) l

    one : ascends (block a) ≡ true
    one = ascends_map (λ s. a ∷ map (bump a) s) l (λ u v. before_cons a (map (bump a) u) (map (bump a) v) ∙ before_bump a u v) ∙ e

    across : (u v : List ℕ) → Memᴰ u (block a) → Memᴰ v (each block (row (suc a) k)) → before u v ≡ true
    across u v m n =
        let (s, i, p) = Memᴰ.of_map (λ s. a ∷ map (bump a) s) l m in
        let (b, j, t) = each_out block (row (suc a) k) n in
        let (r, c, q) = Memᴰ.of_map (λ s. b ∷ map (bump b) s) l t in
        ap₂ before (sym p) (sym q) ∙ before_first a b (map (bump a) s) (map (bump b) r) (row_out (suc a) k j).0

-- the permutations of length n stand in lexicographic order, and each stands there once
pub perms_ascend : (n : ℕ) → ascends (perms n) ≡ true
unfolding perms ascends
perms_ascend zero = refl
perms_ascend (suc n) = blocks_ascend (perms n) 1 (suc n) (perms_ascend n)

pub perms_once : (n i j : ℕ) → i < j → j < length (perms n) → get_or (perms n) i [] ≡ get_or (perms n) j [] → ⊥
perms_once n i j h k q = ascends_once (perms n) i j (perms_ascend n) h k q

-- the words of the list avoiders P n are the permutations of length n that avoid P, in
-- lexicographic order
pub avoiders_are : (P : List (List ℕ)) (n : ℕ) {w : List ℕ} → Memᴰ w (avoiders P n) → (is_perm w ≡ true) ×
    (length w ≡ n) × (avoids P w ≡ true)
unfolding avoiders
avoiders_are P n m =
    let (k, e) = keep_out (avoids P) (perms n) m in
    let (p, l) = perms_are n k in (p, l, e)

pub avoiders_all : (P : List (List ℕ)) (n : ℕ) (w : List ℕ) → is_perm w ≡ true → length w ≡ n → avoids P w ≡ true →
    Memᴰ w (avoiders P n)
unfolding avoiders
avoiders_all P n w p l e = keep_in (avoids P) (perms_all n w p l) e

pub avoiders_ascend : (P : List (List ℕ)) (n : ℕ) → ascends (avoiders P n) ≡ true
unfolding avoiders
avoiders_ascend P n = ascends_keep (avoids P) (perms n) (perms_ascend n)
