-- Laws on tests, membership, maps, sublists and rows that the other files of laws use.
use Rattle.std.specs.Prelude.{ℕ, zero, suc, ◌+◌, ◌*◌, ◌≤◌, ◌<◌, ◌≡◌, refl, ◌⊎◌, Bool, true, false, not, ◌&&◌, ◌||◌, cond, length, get_or}
use Rattle.std.specs.Prelude.{replicate, ltb, eqb}
use Rattle.std.proofs.Common.{zero-mul, suc-mul, arith, sym, ap, ◌∙◌, ap₂, subst, inl, inr, true≢false, length-append, ltb-true}
use Rattle.std.proofs.Common.{ltb-false, eqb-true}
use Rattle.std.specs.Bool.{beq}
use Rattle.std.proofs.Math.Bool.{or-true}
use Rattle.std.proofs.lemmas.Bool.{false≢true, eqb-false}
use mathlib.Core.List.Memᴰ
use mathlib.Core.List.{List, [], ◌∷◌, ◌++◌, map, append_assoc, map-append, map-map, Memᴰ}
use mathlib.Core.List.Sublistᴰ
use mathlib.Core.List.{Sublistᴰ}
use Rattle.std.proofs.Math.Option.{some}
use Rattle.word.specs.Lists.{all, any, keep, first, each, sublists, row}

-- Booleans and tests

pub true_not_false : true ≡ false → ⊥
true_not_false e = true≢false e

-- a conjunction that is true, and its parts
pub and_left : (a b : Bool) → a && b ≡ true → a ≡ true
and_left true b h = refl
and_left false b h = h

pub and_right : (a b : Bool) → a && b ≡ true → b ≡ true
and_right true b h = h
and_right false b h = absurd (false≢true h)

pub and_in : (a b : Bool) → a ≡ true → b ≡ true → a && b ≡ true
and_in true b p q = q
and_in false b p q = p

-- the two in the middle change places
pub and_middle : (a b c d : Bool) → (a && b) && (c && d) ≡ (a && c) && (b && d)
and_middle true true c d = refl
and_middle true false true d = refl
and_middle true false false d = refl
and_middle false b c d = refl

-- a test that cannot pass, and one that fails
pub not_in : (b : Bool) → (b ≡ true → ⊥) → not b ≡ true
not_in true h = absurd (h refl)
not_in false h = refl

pub not_out : (b : Bool) → not b ≡ true → b ≡ true → ⊥
not_out true e p = false≢true e
not_out false e p = false≢true p

pub beq_refl : (a : Bool) → beq a a ≡ true
beq_refl true = refl
beq_refl false = refl

pub beq_comm : (a b : Bool) → beq a b ≡ beq b a
beq_comm true true = refl
beq_comm true false = refl
beq_comm false true = refl
beq_comm false false = refl

pub beq_true : (a b : Bool) → beq a b ≡ true → a ≡ b
beq_true true true h = refl
beq_true true false h = sym h
beq_true false true h = h
beq_true false false h = refl

-- two tests that pass together are equal
pub same_test : (a b : Bool) → (a ≡ true → b ≡ true) → (b ≡ true → a ≡ true) → a ≡ b
same_test true b f g = sym (f refl)
same_test false true f g = g refl
same_test false false f g = refl

-- what passes only where a failing test passes, fails
pub fails_with : (a b : Bool) → (a ≡ true → b ≡ true) → b ≡ false → a ≡ false
fails_with true b f e = sym (f refl) ∙ e
fails_with false b f e = refl

-- one number is below another or at least as large
pub below_or_not : (x y : ℕ) → (x < y) ⊎ (y ≤ x)
below_or_not x y = go (ltb x y) refl
  where
    go : (b : Bool) → ltb x y ≡ b → (x < y) ⊎ (y ≤ x)
    go true e = inl (ltb-true x y e)
    go false e = inr (ltb-false x y e)

-- two numbers are equal or not
pub same_or_not : (x y : ℕ) → (x ≡ y) ⊎ (x ≡ y → ⊥)
same_or_not x y = go (eqb x y) refl
  where
    go : (b : Bool) → eqb x y ≡ b → (x ≡ y) ⊎ (x ≡ y → ⊥)
    go true e = inl (eqb-true x y e)
    go false e = inr (eqb-false x y e)

-- all and any

module _ {A : Type 0} where
  pub any_out : (f : A → Bool) (l : List A) → any f l ≡ true → (x : A) × Memᴰ x l × (f x ≡ true)
  any_out f [] h = absurd (false≢true h)
  any_out f (x ∷ l) h = go (f x) refl h (any_out f l)
    where
      go : (t : Bool) → f x ≡ t → t || any f l ≡ true
          → (any f l ≡ true → (y : A) × Memᴰ y l × (f y ≡ true)) → (y : A) × Memᴰ y (x ∷ l) × (f y ≡ true)
      go true e k below = (x, Memᴰ.head refl, e)
      go false e k below = let r = below k in (r.0, Memᴰ.tail r.1, r.2)

  pub any_in : (f : A → Bool) {x : A} {l : List A} → Memᴰ x l → f x ≡ true → any f l ≡ true
  any_in f (Memᴰ.head {x = y} {xs = l} e) h = ap (λ (t : Bool). t || any f l) (sym (ap f e) ∙ h)
  any_in f (Memᴰ.tail {x = y} m) h = ap (λ (t : Bool). f y || t) (any_in f m h) ∙ or-true (f y)

  pub all_out : (f : A → Bool) {x : A} {l : List A} → Memᴰ x l → all f l ≡ true → f x ≡ true
  all_out f (Memᴰ.head {x = y} {xs = l} e) h = ap f e ∙ and_left (f y) (all f l) h
  all_out f (Memᴰ.tail {x = y} {xs = l} m) h = all_out f m (and_right (f y) (all f l) h)

  pub all_in : (f : A → Bool) (l : List A) → ((x : A) → Memᴰ x l → f x ≡ true) → all f l ≡ true
  all_in f [] h = refl
  all_in f (x ∷ l) h = and_in (f x) (all f l) (h x (Memᴰ.head refl)) (all_in f l (λ y m. h y (Memᴰ.tail m)))

  -- where not all pass, one fails
  pub all_fails : (f : A → Bool) (l : List A) → all f l ≡ false → (x : A) × Memᴰ x l × (f x ≡ false)
  all_fails f [] h = absurd (true_not_false h)
  all_fails f (x ∷ l) h = go (f x) refl h (all_fails f l)
    where
      go : (t : Bool) → f x ≡ t → t && all f l ≡ false
          → (all f l ≡ false → (y : A) × Memᴰ y l × (f y ≡ false)) → (y : A) × Memᴰ y (x ∷ l) × (f y ≡ false)
      go true e k below = let r = below k in (r.0, Memᴰ.tail r.1, r.2)
      go false e k below = (x, Memᴰ.head refl, e)

  -- where one fails, not all pass
  pub fails_all : (f : A → Bool) {x : A} {l : List A} → Memᴰ x l → f x ≡ false → all f l ≡ false
  fails_all f {x} {l} m h = fails_with (all f l) (f x) (all_out f m) h

  -- tests that agree on the elements
  pub all_same : (f g : A → Bool) (l : List A) → ((x : A) → Memᴰ x l → f x ≡ g x) → all f l ≡ all g l
  all_same f g [] h = refl
  all_same f g (x ∷ l) h = ap₂ ◌&&◌ (h x (Memᴰ.head refl)) (all_same f g l (λ y m. h y (Memᴰ.tail m)))

  pub all_append : (f : A → Bool) (l m : List A) → all f l ≡ true → all f m ≡ true → all f (l ++ m) ≡ true
  all_append f [] m p q = q
  all_append f (x ∷ l) m p q = and_in (f x) (all f (l ++ m)) (and_left (f x) (all f l) p) (all_append f l m (and_right (f x) (all f l) p) q)

module _ {A B : Type 0} where
  -- a test of a mapped list as a test of the list
  pub any_map : (f : B → Bool) (g : A → B) (l : List A) → any f (map g l) ≡ any (λ x. f (g x)) l
  any_map f g [] = refl
  any_map f g (x ∷ l) = ap (λ (t : Bool). f (g x) || t) (any_map f g l)

  pub all_map : (f : B → Bool) (g : A → B) (l : List A) → all f (map g l) ≡ all (λ x. f (g x)) l
  all_map f g [] = refl
  all_map f g (x ∷ l) = ap (λ (t : Bool). f (g x) && t) (all_map f g l)

-- keep, each, first

module _ {A : Type 0} where
  -- the members of a kept list are the members that pass
  pub keep_out : (f : A → Bool) {x : A} (l : List A) → Memᴰ x (keep f l) → Memᴰ x l × (f x ≡ true)
  keep_out f [] m = absurd (Memᴰ.not-nil m)
  keep_out f {x} (y ∷ l) m = step (f y) refl (λ (n : Memᴰ x (keep f l)). keep_out f l n) m
    where
      here : f y ≡ true → (Memᴰ x (keep f l) → Memᴰ x l × (f x ≡ true)) →
          (x ≡ y) ⊎ Memᴰ x (keep f l) → Memᴰ x (y ∷ l) × (f x ≡ true)
      here e below (inl q) = (Memᴰ.head q, ap f q ∙ e)
      here e below (inr n) = let r = below n in (Memᴰ.tail r.0, r.1)

      step : (b : Bool) → f y ≡ b → (Memᴰ x (keep f l) → Memᴰ x l × (f x ≡ true)) →
          Memᴰ x (cond b (y ∷ keep f l) (keep f l)) → Memᴰ x (y ∷ l) × (f x ≡ true)
      step true e below n = here e below (Memᴰ.cases_cons n)
      step false e below n = let r = below n in (Memᴰ.tail r.0, r.1)

  pub keep_in : (f : A → Bool) {x : A} {l : List A} → Memᴰ x l → f x ≡ true → Memᴰ x (keep f l)
  keep_in f {x} (Memᴰ.head {x = y} {xs = l} q) e = rw (← q, e) (Memᴰ.head refl)
  keep_in f {x} (Memᴰ.tail {x = y} {xs = l} m) e = step (f y) (keep_in f m e)
    where
      step : (b : Bool) → Memᴰ x (keep f l) → Memᴰ x (cond b (y ∷ keep f l) (keep f l))
      step true n = Memᴰ.tail n
      step false n = n

module _ {A B : Type 0} where
  -- the members of the lists f x, one after the other
  pub each_out : (f : A → List B) {y : B} (l : List A) → Memᴰ y (each f l) → (x : A) × Memᴰ x l × Memᴰ y (f x)
  each_out f [] m = absurd (Memᴰ.not-nil m)
  each_out f {y} (x ∷ l) m = step (λ (n : Memᴰ y (each f l)). each_out f l n) (Memᴰ.append_cases (f x) m)
    where
      step : (Memᴰ y (each f l) → (z : A) × Memᴰ z l × Memᴰ y (f z)) →
          Memᴰ y (f x) ⊎ Memᴰ y (each f l) → (z : A) × Memᴰ z (x ∷ l) × Memᴰ y (f z)
      step below (inl n) = (x, Memᴰ.head refl, n)
      step below (inr n) = let r = below n in (r.0, Memᴰ.tail r.1, r.2)

  pub each_in : (f : A → List B) {x : A} {y : B} {l : List A} → Memᴰ x l → Memᴰ y (f x) → Memᴰ y (each f l)
  each_in f {x} {y} (Memᴰ.head {x = z} {xs = l} q) n = Memᴰ.append_left (each f l) (rw q at n)
  each_in f (Memᴰ.tail {x = z} {xs = l} m) n = Memᴰ.append_right (f z) (each_in f m n)

  pub each_append : (f : A → List B) (l m : List A) → each f (l ++ m) ≡ each f l ++ each f m
  each_append f [] m = refl
  each_append f (x ∷ l) m = rw (each_append f l m) (sym (append_assoc (f x) (each f l) (each f m)))

  -- each of the lists f x has length k
  pub length_each : (f : A → List B) (k : ℕ) (l : List A) → ((x : A) → length (f x) ≡ k) → length (each f l) ≡ length l * k
  length_each f k [] h = sym (zero-mul k)
  length_each f k (x ∷ l) h = rw (length-append, h x, length_each f k l h, suc-mul) (omega arith)

module _ {A : Type 0} where
  -- the first element at which a test passes is a member that passes
  pub first_some : (f : A → Bool) (l : List A) (x : A) → first f l ≡ some x → Memᴰ x l × (f x ≡ true)
  first_some f [] x h = let z : ◌≡◌ {A = ℕ} 0 1 = cc in absurd (omega arith)
  first_some f (y ∷ l) x h = go (f y) refl h (first_some f l x)
    where
      go : (t : Bool) → f y ≡ t → cond t (some y) (first f l) ≡ some x
          → (first f l ≡ some x → Memᴰ x l × (f x ≡ true)) → Memᴰ x (y ∷ l) × (f x ≡ true)
      go true e k below = let q : x ≡ y = cc in (Memᴰ.head q, ap f q ∙ e)
      go false e k below = let r = below k in (Memᴰ.tail r.0, r.1)

-- membership and maps

module _ {A : Type 0} where
  -- what stands at a place of a list is a member
  pub get_or_mem : (l : List A) (i : ℕ) (d : A) → i < length l → Memᴰ (get_or l i d) l
  get_or_mem [] i d h = absurd (omega arith)
  get_or_mem (x ∷ l) zero d h = Memᴰ.head refl
  get_or_mem (x ∷ l) (suc i) d h = Memᴰ.tail (get_or_mem l i d (omega arith))

module _ {A B : Type 0} where
  -- two functions that agree on the members
  pub map_same : (f g : A → B) (l : List A) → ((x : A) → Memᴰ x l → f x ≡ g x) → map f l ≡ map g l
  map_same f g [] h = refl
  map_same f g (x ∷ l) h = ap₂ ◌∷◌ (h x (Memᴰ.head refl)) (map_same f g l (λ (z : A) (m : Memᴰ z l). h z (Memᴰ.tail m)))

-- sublists

module _ {A : Type 0} where
  -- a sublist of l is one of a longer list
  sublists_more : (s : List A) (a : A) (l : List A) → Memᴰ s (sublists (length s) l) → Memᴰ s (sublists (length s) (a ∷ l))
  sublists_more [] a l m = Memᴰ.head refl
  sublists_more (c ∷ s) a l m = Memᴰ.append_right (map (λ t. a ∷ t) (sublists (length s) l)) m

  -- the members of sublists k l are the sublists of l with k elements
  pub mem_sublists_in : {s l : List A} → Sublistᴰ s l → Memᴰ s (sublists (length s) l)
  mem_sublists_in Sublistᴰ.slnil = Memᴰ.head refl
  mem_sublists_in (Sublistᴰ.cons {a = a} {l₁ = s} {l₂ = l} d) = sublists_more s a l (mem_sublists_in d)
  mem_sublists_in (Sublistᴰ.cons-cons {a = a} {b = b} {l₁ = s} {l₂ = l} e d) =
      Memᴰ.append_left (sublists (suc (length s)) l) (Memᴰ.cast (ap (λ (c : A). c ∷ s) e)
      (Memᴰ.map (λ (t : List A). b ∷ t) (mem_sublists_in d)))

  pub mem_sublists_out : (k : ℕ) (l : List A) {s : List A} → Memᴰ s (sublists k l) → Sublistᴰ s l × (length s ≡ k)
  mem_sublists_out zero l {s} m =
      let e : s ≡ [] = Memᴰ.eq_of_singleton m in
      (subst (λ (t : List A). Sublistᴰ t l) (sym e) (Sublistᴰ.nil-sublist l), ap length e)
  mem_sublists_out (suc k) [] m = absurd (Memᴰ.not-nil m)
  mem_sublists_out (suc k) (a ∷ l) {s} m =
      go (λ t n. mem_sublists_out k l {s = t} n) (λ n. mem_sublists_out (suc k) l {s = s} n)
      (Memᴰ.append_cases (map (λ t. a ∷ t) (sublists k l)) m)
    where
      go : ((t : List A) → Memᴰ t (sublists k l) → Sublistᴰ t l × (length t ≡ k)) →
          (Memᴰ s (sublists (suc k) l) → Sublistᴰ s l × (length s ≡ suc k))
          → Memᴰ s (map (λ t. a ∷ t) (sublists k l)) ⊎ Memᴰ s (sublists (suc k) l) → Sublistᴰ s (a ∷ l) × (length s ≡ suc k)
      go f g (inl n) =
          let o = Memᴰ.of_map (λ (t : List A). a ∷ t) (sublists k l) n in
          let r = f o.0 o.1 in
          (subst (λ (t : List A). Sublistᴰ t (a ∷ l)) o.2 (Sublistᴰ.cons-cons refl r.0), sym (ap length o.2) ∙ ap suc r.1)
      go f g (inr n) = let r = g n in (Sublistᴰ.cons r.0, r.1)

module _ {A B : Type 0} where
  pub sublists_map : (f : A → B) (k : ℕ) (l : List A) → sublists k (map f l) ≡ map (map f) (sublists k l)
  sublists_map f zero l = refl
  sublists_map f (suc k) [] = refl
  sublists_map f (suc k) (x ∷ l) = rw (sublists_map f k l, sublists_map f (suc k) l) (simp (map-append, map-map))

-- rows

-- the entries of a sublist are entries of the list
pub sublist_mem : {A : Type 0} {x : A} {s l : List A} → Sublistᴰ s l → Memᴰ x s → Memᴰ x l
sublist_mem Sublistᴰ.slnil m = m
sublist_mem (Sublistᴰ.cons d) m = Memᴰ.tail (sublist_mem d m)
sublist_mem (Sublistᴰ.cons-cons e d) (Memᴰ.head f) = Memᴰ.head (f ∙ e)
sublist_mem (Sublistᴰ.cons-cons e d) (Memᴰ.tail m) = Memᴰ.tail (sublist_mem d m)

pub length_row : (a n : ℕ) → length (row a n) ≡ n
length_row a zero = refl
length_row a (suc n) = ap suc (length_row (suc a) n)

-- the members of a row are the numbers from a to below a + n
pub row_out : (a n : ℕ) {x : ℕ} → Memᴰ x (row a n) → (a ≤ x) × (x < a + n)
row_out a zero m = absurd (Memᴰ.not-nil m)
row_out a (suc n) {x} m = step (λ (k : Memᴰ x (row (suc a) n)). row_out (suc a) n k) (Memᴰ.cases_cons m)
  where
    step : (Memᴰ x (row (suc a) n) → (suc a ≤ x) × (x < suc a + n)) → (x ≡ a) ⊎ Memᴰ x (row (suc a) n) → (a ≤ x) × (x < a + suc n)
    step below (inl q) = omega arith
    step below (inr k) = let r = below k in omega arith

pub row_in : (a n x : ℕ) → a ≤ x → x < a + n → Memᴰ x (row a n)
row_in a zero x h k = absurd (omega arith)
row_in a (suc n) x h k = step (below_or_not a x) (λ (p : suc a ≤ x) (q : x < suc a + n). row_in (suc a) n x p q)
  where
    step : (a < x) ⊎ (x ≤ a) → (suc a ≤ x → x < suc a + n → Memᴰ x (row (suc a) n)) → Memᴰ x (a ∷ row (suc a) n)
    step (inl p) below = Memᴰ.tail (below p (omega arith))
    step (inr p) below = let q : x ≡ a = omega arith in Memᴰ.head q

-- a list of zeros, read at any place
pub get_or_zeros : (n i : ℕ) → ◌≡◌ {A = ℕ} (get_or (replicate n 0) i 0) 0
get_or_zeros zero i = refl
get_or_zeros (suc n) zero = refl
get_or_zeros (suc n) (suc i) = get_or_zeros n i
