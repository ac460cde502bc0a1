-- Laws of spacings: the order in each component, the lists of vectors and of compared spacings, and
-- tests that keep equally many elements.
use Rattle.std.specs.Prelude.{ℕ, zero, suc, ◌+◌, ◌-◌, ◌≤◌, ◌<◌, ◌≡◌, refl, ◌⊎◌, Bool, true, false, not, cond, length, leb}
use Rattle.std.proofs.Common.{sym, ap, ◌∙◌, subst, inl, inr, arith, leb-true, le-leb}
use mathlib.Core.List.Memᴰ
use mathlib.Core.List.{List, [], ◌∷◌, map, Memᴰ}
use Rattle.word.specs.Lists.{keep, each, row}
use Rattle.word.specs.ListLaws.{true_not_false, and_left, and_right, and_in, not_in, not_out, all_out, all_in}
use Rattle.word.specs.ListLaws.{keep_out, keep_in, each_out, each_in, row_out, row_in}
use Rattle.cell.specs.Cell.{total, at_least, free, vectors, compared_to}

-- The order in each component

pub at_least_refl : (g : List ℕ) → at_least g g ≡ true
unfolding at_least
at_least_refl [] = refl
at_least_refl (x ∷ g) = and_in (leb x x) (at_least g g) (le-leb x x (omega arith)) (at_least_refl g)

pub at_least_length : (g b : List ℕ) → at_least g b ≡ true → length g ≡ length b
unfolding at_least
at_least_length [] [] h = refl
at_least_length [] (y ∷ b) h = absurd (true_not_false (sym h))
at_least_length (x ∷ g) [] h = absurd (true_not_false (sym h))
at_least_length (x ∷ g) (y ∷ b) h = ap suc (at_least_length g b (and_right (leb y x) (at_least g b) h))

pub at_least_total : (g b : List ℕ) → at_least g b ≡ true → total b ≤ total g
unfolding at_least total
at_least_total [] [] h = omega arith
at_least_total [] (y ∷ b) h = absurd (true_not_false (sym h))
at_least_total (x ∷ g) [] h = absurd (true_not_false (sym h))
at_least_total (x ∷ g) (y ∷ b) h =
    omega (arith, leb-true y x (and_left (leb y x) (at_least g b) h), at_least_total g b (and_right (leb y x) (at_least g b) h))

pub at_least_trans : (g b c : List ℕ) → at_least g b ≡ true → at_least b c ≡ true → at_least g c ≡ true
unfolding at_least
at_least_trans [] [] c h k = k
at_least_trans [] (y ∷ b) c h k = absurd (true_not_false (sym h))
at_least_trans (x ∷ g) [] c h k = absurd (true_not_false (sym h))
at_least_trans (x ∷ g) (y ∷ b) [] h k = absurd (true_not_false (sym k))
at_least_trans (x ∷ g) (y ∷ b) (z ∷ c) h k =
    let p : y ≤ x = leb-true y x (and_left (leb y x) (at_least g b) h) in
    let q : z ≤ y = leb-true z y (and_left (leb z y) (at_least b c) k) in
    and_in (leb z x) (at_least g c) (le-leb z x (omega arith))
    (at_least_trans g b c (and_right (leb y x) (at_least g b) h) (and_right (leb z y) (at_least b c) k))

-- what lies below a free spacing is free
pub free_down : (B : List (List ℕ)) (g b : List ℕ) → free B g ≡ true → at_least g b ≡ true → free B b ≡ true
unfolding free
free_down B g b h k = all_in (λ c. not (at_least b c)) B (λ c m. not_in (at_least b c)
    (λ e. not_out (at_least g c) (all_out (λ c. not (at_least g c)) m h) (at_least_trans g b c k e)))

-- The members of the lists

pub vectors_are : (k t : ℕ) {g : List ℕ} → Memᴰ g (vectors k t) → (length g ≡ k) × (total g ≡ t)
unfolding vectors total
vectors_are zero zero m = let q = Memᴰ.eq_of_singleton m in (ap length q, ap total q)
vectors_are zero (suc t) m = absurd (Memᴰ.not-nil m)
vectors_are (suc k) t m =
    let (x, i, n) = each_out (λ x. map (λ g. x ∷ g) (vectors k (t - x))) (row 0 (suc t)) m in
    let (g, j, q) = Memᴰ.of_map (λ g. x ∷ g) (vectors k (t - x)) n in
    let (low, high) = row_out 0 (suc t) i in
    let (l, s) = vectors_are k (t - x) j in
    (sym (ap length q) ∙ ap suc l, sym (ap total q) ∙ omega arith)

pub vectors_all : (g : List ℕ) → Memᴰ g (vectors (length g) (total g))
unfolding vectors total
vectors_all [] = Memᴰ.head refl
vectors_all (x ∷ g) =
    let e : total g ≡ (x + total g) - x = omega arith in
    each_in (λ y. map (λ g. y ∷ g) (vectors (length g) ((x + total g) - y))) (row_in 0 (suc (x + total g)) x (omega arith) (omega arith))
    (Memᴰ.map (λ g. x ∷ g) (subst (λ (t : ℕ). Memᴰ g (vectors (length g) t)) e (vectors_all g)))

pub compared_are : (m k : ℕ) (B : List (List ℕ)) {g : List ℕ} → Memᴰ g (compared_to m k B) →
    (length g ≡ suc k) × (total g < m) × (free B g ≡ true)
unfolding compared_to
compared_are m k B d =
    let (n, f) = keep_out (free B) (each (vectors (suc k)) (row 0 m)) d in
    let (t, i, j) = each_out (vectors (suc k)) (row 0 m) n in
    let (low, high) = row_out 0 m i in
    let (l, s) = vectors_are (suc k) t j in
    (l, omega arith, f)

pub compared_all : (m k : ℕ) (B : List (List ℕ)) (g : List ℕ) → length g ≡ suc k → total g < m → free B g ≡ true →
    Memᴰ g (compared_to m k B)
unfolding compared_to
compared_all m k B g l h f =
    keep_in (free B) (each_in (vectors (suc k)) (row_in 0 m (total g) (omega arith) (omega arith))
    (subst (λ (n : ℕ). Memᴰ g (vectors n (total g))) l (vectors_all g))) f

-- Tests, the first implying the second, keep equally many elements exactly if they agree on every
-- element.

module _ {A : Type 0} where
  pub keep_fewer : (f h : A → Bool) (l : List A) → ((x : A) → Memᴰ x l → f x ≡ true → h x ≡ true) →
      length (keep f l) ≤ length (keep h l)
  keep_fewer f h [] i = omega arith
  keep_fewer f h (x ∷ l) i = go (f x) (h x) (i x (Memᴰ.head refl)) (keep_fewer f h l (λ y m. i y (Memᴰ.tail m)))
    where
      go : (a b : Bool) → (a ≡ true → b ≡ true) → length (keep f l) ≤ length (keep h l) →
          length (cond a (x ∷ keep f l) (keep f l)) ≤ length (cond b (x ∷ keep h l) (keep h l))
      go true true e k = omega arith
      go true false e k = absurd (true_not_false (sym (e refl)))
      go false true e k = omega arith
      go false false e k = k

  pub keep_sizes : (f h : A → Bool) (l : List A) → ((x : A) → Memᴰ x l → f x ≡ true → h x ≡ true) →
      length (keep f l) ≡ length (keep h l) →
      (x : A) → Memᴰ x l → f x ≡ h x
  keep_sizes f h [] i e x m = absurd (Memᴰ.not-nil m)
  keep_sizes f h (y ∷ l) i e x m =
      go (f y) (h y) refl refl (i y (Memᴰ.head refl)) e (keep_fewer f h l (λ z n. i z (Memᴰ.tail n)))
      (keep_sizes f h l (λ z n. i z (Memᴰ.tail n))) (Memᴰ.cases_cons m)
    where
      rest : (length (keep f l) ≡ length (keep h l) → (z : A) → Memᴰ z l → f z ≡ h z) → length (keep f l) ≡ length (keep h l) →
          f y ≡ h y → (x ≡ y) ⊎ Memᴰ x l → f x ≡ h x
      rest below k s (inl q) = ap f q ∙ s ∙ sym (ap h q)
      rest below k s (inr n) = below k x n

      go : (a b : Bool) → f y ≡ a → h y ≡ b → (a ≡ true → b ≡ true) →
          length (cond a (y ∷ keep f l) (keep f l)) ≡ length (cond b (y ∷ keep h l) (keep h l)) → length (keep f l) ≤ length (keep h l) →
          (length (keep f l) ≡ length (keep h l) → (z : A) → Memᴰ z l → f z ≡ h z) → (x ≡ y) ⊎ Memᴰ x l → f x ≡ h x
      go true true p q j k c below = rest below (omega arith) (p ∙ sym q)
      go true false p q j k c below = absurd (true_not_false (sym (j refl)))
      go false true p q j k c below = absurd (omega arith)
      go false false p q j k c below = rest below k (p ∙ sym q)

  pub keep_same : (f h : A → Bool) (l : List A) → ((x : A) → Memᴰ x l → f x ≡ h x) → keep f l ≡ keep h l
  keep_same f h [] i = refl
  keep_same f h (x ∷ l) i = rw (i x (Memᴰ.head refl), keep_same f h l (λ y m. i y (Memᴰ.tail m)))
