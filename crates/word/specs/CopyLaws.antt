-- Laws of the first copy of a pattern: it is there exactly if the pattern is contained; it is a
-- copy, and no copy comes before it.
use Rattle.std.specs.Prelude.{ℕ, zero, suc, ◌≤◌, ◌<◌, ◌≡◌, refl, ◌⊎◌, Bool, true, false, ◌||◌, cond, length, get_or}
use Rattle.std.proofs.Common.{sym, ap, ◌∙◌, subst, inl, inr, arith, le-ltb, eq-eqb, ne_eqb}
use mathlib.Core.List.{List, [], ◌∷◌, ◌++◌, map, Memᴰ}
use mathlib.Core.List.Sublistᴰ
use mathlib.Core.List.{Sublistᴰ}
use Rattle.std.proofs.Math.Option.{Option, none, some}
use Rattle.std.proofs.lemmas.List.{length-map}
use Rattle.word.specs.Lists.{any, first, sublists, row, one_to}
use Rattle.word.specs.Word.{iso, contains, entry, first_copy, before}
use Rattle.word.specs.ListLaws.{true_not_false, any_map, first_some, sublists_map, mem_sublists_in, mem_sublists_out}
use Rattle.word.specs.IsoLaws.{iso_length}

module _ {A : Type 0} where
  -- whether a search has a result
  abbrev pub found : Option A → Bool
  found none = false
  found (some a) = true

  pub first_found : (f : A → Bool) (l : List A) → found (first f l) ≡ any f l
  first_found f [] = refl
  first_found f (x ∷ l) = go (f x) (first_found f l)
    where
      go : (t : Bool) → found (first f l) ≡ any f l → found (cond t (some x) (first f l)) ≡ t || any f l
      go true e = refl
      go false e = e

-- the entries at later positions are the entries of the rest
entry_row : (x : ℕ) (w : List ℕ) (a n : ℕ) → map (entry (x ∷ w)) (row (suc (suc a)) n) ≡ map (entry w) (row (suc a) n)
unfolding entry
entry_row x w a zero = refl
entry_row x w a (suc n) = ap {B = List ℕ} (λ r. get_or w a 0 ∷ r) (entry_row x w (suc a) n)

-- the entries at all positions are the word
pub entries : (w : List ℕ) → map (entry w) (one_to (length w)) ≡ w
unfolding entry
entries [] = refl
entries (x ∷ w) = ap {B = List ℕ} (λ r. x ∷ r) (entry_row x w 0 (length w) ∙ entries w)

-- there is a first copy exactly if there is a copy
pub copy_exactly : (β w : List ℕ) → found (first_copy β w) ≡ contains β w
unfolding first_copy contains
copy_exactly β w =
    first_found (λ at. iso β (map (entry w) at)) (sublists (length β) (one_to (length w)))
    ∙ sym (any_map (iso β) (map (entry w)) (sublists (length β) (one_to (length w))))
    ∙ ap (any (iso β)) (sym (sublists_map (entry w) (length β) (one_to (length w))))
    ∙ ap (λ (u : List ℕ). any (iso β) (sublists (length β) u)) (entries w)

pub copy_is : (β w at : List ℕ) → first_copy β w ≡ some at → Sublistᴰ at (one_to (length w)) × (iso β (map (entry w) at) ≡ true)
unfolding first_copy
copy_is β w at h =
    let r = first_some (λ p. iso β (map (entry w) p)) (sublists (length β) (one_to (length w))) at h in
    ((mem_sublists_out (length β) (one_to (length w)) r.0).0, r.1)

-- Lexicographic order

pub before_irrefl : (u : List ℕ) → before u u ≡ false
unfolding before
before_irrefl [] = refl
before_irrefl (x ∷ u) = rw (le-ltb x x (omega arith), eq-eqb x x refl) (before_irrefl u)

-- a common first entry does not count
pub before_cons : (x : ℕ) (u v : List ℕ) → before (x ∷ u) (x ∷ v) ≡ before u v
unfolding before
before_cons x u v = rw (le-ltb x x (omega arith), eq-eqb x x refl)

-- a larger first entry does not come before
pub before_larger : (x y : ℕ) (u v : List ℕ) → x < y → before (y ∷ u) (x ∷ v) ≡ false
unfolding before
before_larger x y u v h = rw (le-ltb y x (omega arith), ne_eqb y x (λ (e : y ≡ x). omega arith))

-- no word of the list comes before one that stands earlier
abbrev pub InOrder : List (List ℕ) → Type 0
InOrder [] = Unit {0}
InOrder (u ∷ L) = ((v : List ℕ) → Memᴰ v L → before v u ≡ false) × InOrder L

pub in_order_map : (x : ℕ) (L : List (List ℕ)) → InOrder L → InOrder (map (λ s. x ∷ s) L)
in_order_map x [] h = tt
in_order_map x (u ∷ L) h = (go, in_order_map x L h.1)
  where
    go : (v : List ℕ) → Memᴰ v (map (λ s. x ∷ s) L) → before v (x ∷ u) ≡ false
    go v m =
        let r = mathlib.Core.List.Memᴰ.of_map (λ (s : List ℕ). x ∷ s) L m in
        subst (λ (t : List ℕ). before t (x ∷ u) ≡ false) r.2 (before_cons x r.0 u ∙ h.0 r.0 r.1)

pub in_order_append : (K L : List (List ℕ)) → InOrder K → InOrder L
    → ((u v : List ℕ) → Memᴰ u K → Memᴰ v L → before v u ≡ false) → InOrder (K ++ L)
in_order_append [] L p q h = q
in_order_append (u ∷ K) L p q h =
    (λ v m. go v (mathlib.Core.List.Memᴰ.append_cases K m), in_order_append K L p.1 q (λ s v m n. h s v (mathlib.Core.List.Memᴰ.tail m) n))
  where
    go : (v : List ℕ) → Memᴰ v K ⊎ Memᴰ v L → before v u ≡ false
    go v (inl m) = p.0 v m
    go v (inr m) = h u v (mathlib.Core.List.Memᴰ.head refl) m

-- the first number of a sublist of a row
row_least : (a n y : ℕ) (t : List ℕ) → Sublistᴰ (y ∷ t) (row a n) → a ≤ y
row_least a zero y t d =
    let z : ◌≡◌ {A = List ℕ} (y ∷ t) [] = Sublistᴰ.eq-nil d in
    let c : ◌≡◌ {A = ℕ} 0 1 = cc in
    absurd (omega arith)
row_least a (suc n) y t d = go (row_least (suc a) n y t) (Sublistᴰ.cases_cons-cons d)
  where
    go : (Sublistᴰ (y ∷ t) (row (suc a) n) → suc a ≤ y) → Sublistᴰ (y ∷ t) (row (suc a) n) ⊎ ((y ≡ a) × Sublistᴰ t (row (suc a) n)) → a ≤ y
    go f (inl e) = omega (arith, f e)
    go f (inr e) = omega arith

-- the sublists of a row stand in lexicographic order
pub sublists_in_order : (k a n : ℕ) → InOrder (sublists k (row a n))
sublists_in_order zero a n = (λ v m. absurd (mathlib.Core.List.Memᴰ.not-nil m), tt)
sublists_in_order (suc k) a zero = tt
sublists_in_order (suc k) a (suc n) =
    in_order_append (map (λ s. a ∷ s) (sublists k (row (suc a) n))) (sublists (suc k) (row (suc a) n))
    (in_order_map a (sublists k (row (suc a) n)) (sublists_in_order k (suc a) n)) (sublists_in_order (suc k) (suc a) n) cross
  where
    larger : (s v : List ℕ) → Sublistᴰ v (row (suc a) n) → length v ≡ suc k → before v (a ∷ s) ≡ false
    larger s [] d e = absurd (omega arith)
    larger s (y ∷ v) d e = before_larger a y v s (row_least (suc a) n y v d)

    cross : (u v : List ℕ) → Memᴰ u (map (λ s. a ∷ s) (sublists k (row (suc a) n)))
        → Memᴰ v (sublists (suc k) (row (suc a) n)) → before v u ≡ false
    cross u v m n' =
        let r = mathlib.Core.List.Memᴰ.of_map (λ (s : List ℕ). a ∷ s) (sublists k (row (suc a) n)) m in
        let o = mem_sublists_out (suc k) (row (suc a) n) n' in
        subst (λ (t : List ℕ). before v t ≡ false) r.2 (larger r.0 v o.0 o.1)

-- in such a list no word that passes the test comes before the first that does
pub first_least : (f : List ℕ → Bool) (L : List (List ℕ)) (u v : List ℕ) → InOrder L → first f L ≡ some u → Memᴰ v L
    → f v ≡ true → before v u ≡ false
first_least f [] u v p h m t = absurd (mathlib.Core.List.Memᴰ.not-nil m)
first_least f (s ∷ L) u v p h m t = go (f s) refl h (mathlib.Core.List.Memᴰ.cases_cons m) (λ k n. first_least f L u v p.1 k n t)
  where
    go : (b : Bool) → f s ≡ b → cond b (some s) (first f L) ≡ some u → (v ≡ s) ⊎ Memᴰ v L
        → (first f L ≡ some u → Memᴰ v L → before v u ≡ false) → before v u ≡ false
    go true e k (inl q) below = let r : v ≡ u = cc in rw r (before_irrefl u)
    go true e k (inr n) below = let r : u ≡ s = cc in rw r (p.0 v n)
    go false e k (inl q) below = absurd (true_not_false (sym t ∙ ap f q ∙ e))
    go false e k (inr n) below = below k n

-- no copy comes before the first
pub copy_first : (β w at other : List ℕ) → first_copy β w ≡ some at → Sublistᴰ other (one_to (length w))
    → iso β (map (entry w) other) ≡ true → before other at ≡ false
unfolding first_copy
copy_first β w at other h d e =
    let l : length other ≡ length β = sym (length-map other (entry w)) ∙ sym (iso_length β (map (entry w) other) e) in
    let m : Memᴰ other (sublists (length β) (one_to (length w))) =
    subst (λ (k : ℕ). Memᴰ other (sublists k (one_to (length w)))) l (mem_sublists_in d) in
    first_least (λ p. iso β (map (entry w) p)) (sublists (length β) (one_to (length w))) at other
    (sublists_in_order (length β) 1 (length w)) h m e
