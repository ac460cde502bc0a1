-- Laws of the first element that passes a test, and of the least word of a list.
use Rattle.std.specs.Prelude.{ℕ, ◌<◌, ◌≤◌, ◌≡◌, refl, ◌⊎◌, Bool, true, false, cond, ◌&&◌, ◌||◌, ltb, eqb}
use Rattle.std.proofs.Common.{sym, ap, ◌∙◌, inl, inr, arith, ltb-true, ltb-false, lt-ltb, le-ltb, eqb-true, eq-eqb}
use Rattle.std.proofs.lemmas.Bool.{false≢true}
use mathlib.Core.List.Memᴰ
use mathlib.Core.List.{List, [], ◌∷◌, ◌++◌, map, Memᴰ}
use Rattle.std.proofs.Math.Option.{none, some}
use Rattle.word.specs.Lists.{any, all, first}
use Rattle.word.specs.Word.{before}
use Rattle.word.specs.ListLaws.{true_not_false, and_left, and_right, all_out, below_or_not}
use Rattle.word.specs.CopyLaws.{before_irrefl, before_cons, before_larger, InOrder}
use Rattle.word.specs.AscendLaws.{ascends}

module _ {A : Type 0} where
  -- two tests that agree at each element behind elements that fail have the same first element
  pub first_agree : (f h : A → Bool) (l : List A) →
      ((u : List A) (x : A) (v : List A) → l ≡ u ++ (x ∷ v) → ((y : A) → Memᴰ y u → h y ≡ false) → f x ≡ h x) →
      first f l ≡ first h l
  first_agree f h [] k = refl
  first_agree f h (x ∷ l) k =
      go (h x) refl (λ (e : h x ≡ false). first_agree f h l (λ u y v q c. k (x ∷ u) y v (ap (λ (t : List A). x ∷ t) q)
      (λ z m. earlier u e c z (Memᴰ.cases_cons m))))
    where
      earlier : (u : List A) → h x ≡ false → ((y : A) → Memᴰ y u → h y ≡ false) → (z : A) → (z ≡ x) ⊎ Memᴰ z u → h z ≡ false
      earlier u e c z (inl q) = ap h q ∙ e
      earlier u e c z (inr m) = c z m

      here : f x ≡ h x
      here = k [] x l refl (λ y m. absurd (Memᴰ.not-nil m))

      go : (b : Bool) → h x ≡ b → (h x ≡ false → first f l ≡ first h l) → cond (f x) (some x) (first f l) ≡ cond (h x) (some x) (first h l)
      go true e below =
          ap (λ (t : Bool). cond t (some x) (first f l)) (here ∙ e) ∙ sym (ap (λ (t : Bool). cond t (some x) (first h l)) e)
      go false e below =
          ap (λ (t : Bool). cond t (some x) (first f l)) (here ∙ e) ∙ below e ∙ sym (ap (λ (t : Bool). cond t (some x) (first h l)) e)

  -- the first element of a list is that of the list with more behind it
  pub first_append : (f : A → Bool) (k l : List A) (x : A) → first f k ≡ some x → first f (k ++ l) ≡ some x
  first_append f [] l x e = let z : ◌≡◌ {A = ℕ} 0 1 = cc in absurd (omega arith)
  first_append f (y ∷ k) l x e = go (f y) e (first_append f k l x)
    where
      go : (b : Bool) → cond b (some y) (first f k) ≡ some x → (first f k ≡ some x → first f (k ++ l) ≡ some x) →
          cond b (some y) (first f (k ++ l)) ≡ some x
      go true q below = q
      go false q below = below q

  -- where no element passes there is no first
  pub first_none : (f : A → Bool) (l : List A) → any f l ≡ false → first f l ≡ none
  first_none f [] e = refl
  first_none f (x ∷ l) e = go (f x) e (first_none f l)
    where
      go : (b : Bool) → b || any f l ≡ false → (any f l ≡ false → first f l ≡ none) → cond b (some x) (first f l) ≡ none
      go true q below = absurd (true_not_false q)
      go false q below = below q

  pub none_first : (f : A → Bool) (l : List A) → first f l ≡ none → (x : A) → Memᴰ x l → f x ≡ false
  none_first f [] e x m = absurd (Memᴰ.not-nil m)
  none_first f (y ∷ l) e x m = go (f y) refl e (Memᴰ.cases_cons m) (λ q. none_first f l q x)
    where
      go : (b : Bool) → f y ≡ b → cond b (some y) (first f l) ≡ none → (x ≡ y) ⊎ Memᴰ x l →
          (first f l ≡ none → Memᴰ x l → f x ≡ false) → f x ≡ false
      go true p q c below = let z : ◌≡◌ {A = ℕ} 0 1 = cc in absurd (omega arith)
      go false p q (inl s) below = ap f s ∙ p
      go false p q (inr n) below = below q n

-- A word that passes the test and that no other such word comes before is the first of an ascending
-- list.
pub first_is : (f : List ℕ → Bool) (l : List (List ℕ)) (w : List ℕ) → ascends l ≡ true → Memᴰ w l → f w ≡ true →
    ((v : List ℕ) → Memᴰ v l → f v ≡ true → before v w ≡ false) → first f l ≡ some w
unfolding ascends
first_is f [] w a m t least = absurd (Memᴰ.not-nil m)
first_is f (x ∷ l) w a m t least = go (f x) refl (Memᴰ.cases_cons m)
    (λ n. first_is f l w (and_right (all (before x) l) (ascends l) a) n t (λ v k. least v (Memᴰ.tail k)))
  where
    go : (b : Bool) → f x ≡ b → (w ≡ x) ⊎ Memᴰ w l → (Memᴰ w l → first f l ≡ some w) → cond b (some x) (first f l) ≡ some w
    go true e (inl q) below = ap some (sym q)
    go true e (inr n) below =
        absurd (true_not_false (sym (all_out (before x) n (and_left (all (before x) l) (ascends l) a)) ∙ least x (Memᴰ.head refl) e))
    go false e (inl q) below = absurd (true_not_false (sym t ∙ ap f q ∙ e))
    go false e (inr n) below = below n

-- what comes before a word comes before each that does not come before it
pub before_chain : (x w v : List ℕ) → before x w ≡ true → before v w ≡ false → before x v ≡ true
unfolding before
before_chain x [] v h k = absurd (true_not_false (sym h))
before_chain x (b ∷ w) [] h k = absurd (true_not_false k)
before_chain [] (b ∷ w) (c ∷ v) h k = refl
before_chain (a ∷ x) (b ∷ w) (c ∷ v) h k =
    go (ltb a b) refl h (ltb c b) refl k (λ (p : before x w ≡ true) (q : before v w ≡ false). before_chain x w v p q)
  where
    tie : (a ≡ c) → before x v ≡ true → cond (ltb a c) true (eqb a c && before x v) ≡ true
    tie e q = rw (le-ltb a c (omega arith), eq-eqb a c e) q

    equal : (s : Bool) → eqb c b ≡ s → a ≡ b → before x w ≡ true → b ≤ c → s && before v w ≡ false →
        (before x w ≡ true → before v w ≡ false → before x v ≡ true) → cond (ltb a c) true (eqb a c && before x v) ≡ true
    equal true e q p l n below = tie (q ∙ sym (eqb-true c b e)) (below p n)
    equal false e q p l n below =
        let other : c ≡ b → ⊥ = λ (z : c ≡ b). true_not_false (sym (eq-eqb c b z) ∙ e) in
        rw (lt-ltb a c (omega (arith, other))) refl

    go : (s : Bool) → ltb a b ≡ s → cond s true (eqb a b && before x w) ≡ true → (t : Bool) → ltb c b ≡ t →
        cond t true (eqb c b && before v w) ≡ false →
        (before x w ≡ true → before v w ≡ false → before x v ≡ true) →
        cond (ltb a c) true (eqb a c && before x v) ≡ true
    go s e p true f q below = absurd (true_not_false q)
    go true e p false f q below = rw (lt-ltb a c (omega (arith, ltb-true a b e, ltb-false c b f))) refl
    go false e p false f q below =
        equal (eqb c b) refl (eqb-true a b (and_left (eqb a b) (before x w) p)) (and_right (eqb a b) (before x w) p)
        (ltb-false c b f) q below

-- of two words at most one comes before the other
pub before_asym : (u v : List ℕ) → before u v ≡ true → before v u ≡ true → ⊥
unfolding before
before_asym u [] h k = false≢true h
before_asym [] (y ∷ v) h k = false≢true k
before_asym (x ∷ u) (y ∷ v) h k = go (before_asym u v) (below_or_not x y) (below_or_not y x)
  where
    go : (before u v ≡ true → before v u ≡ true → ⊥) → (x < y) ⊎ (y ≤ x) → (y < x) ⊎ (x ≤ y) → ⊥
    go ih (inl a) b = false≢true (sym (before_larger x y v u a) ∙ k)
    go ih (inr a) (inl b) = false≢true (sym (before_larger y x u v b) ∙ h)
    go ih (inr a) (inr b) =
        let e : x ≡ y = omega arith in
        ih (sym (before_cons y u v) ∙ ap (λ (z : ℕ). before (z ∷ u) (y ∷ v)) (sym e) ∙ h)
        (sym (before_cons y v u) ∙ ap (λ (z : ℕ). before (y ∷ v) (z ∷ u)) (sym e) ∙ k)

-- an ascending list is in order
pub ascends_in_order : (l : List (List ℕ)) → ascends l ≡ true → InOrder l
unfolding ascends
ascends_in_order [] a = tt
ascends_in_order (u ∷ l) a = (
  λ v m. go v (before v u) refl (all_out (before u) m (and_left (all (before u) l) (ascends l) a)),
  ascends_in_order l (and_right (all (before u) l) (ascends l) a),
)
  where
    go : (v : List ℕ) (b : Bool) → before v u ≡ b → before u v ≡ true → b ≡ false
    go v true e h = absurd (before_asym u v h e)
    go v false e h = refl

-- a word behind another in an ascending list comes after it, where the list ascends by a key
pub ascends_behind : (key : List ℕ → List ℕ) (u : List (List ℕ)) (x : List ℕ) (v : List (List ℕ)) {y : List ℕ} →
    ascends (map key (u ++ (x ∷ v))) ≡ true → Memᴰ y v → before (key x) (key y) ≡ true
unfolding ascends
ascends_behind key [] x v a m =
    all_out (before (key x)) (Memᴰ.map key m) (and_left (all (before (key x)) (map key v)) (ascends (map key v)) a)
ascends_behind key (z ∷ u) x v a m =
    let l = map key (u ++ (x ∷ v)) in ascends_behind key u x v (and_right (all (before (key z)) l) (ascends l) a) m

-- in such a list no element that passes the test comes before the first that does
pub first_ordered : (key : List ℕ → List ℕ) (f : List ℕ → Bool) (l : List (List ℕ)) (u v : List ℕ) → ascends (map key l) ≡ true →
    first f l ≡ some u → Memᴰ v l → f v ≡ true → before (key v) (key u) ≡ false
unfolding ascends
first_ordered key f [] u v a h m t = absurd (Memᴰ.not-nil m)
first_ordered key f (s ∷ l) u v a h m t = go (f s) refl h (Memᴰ.cases_cons m) (λ k n. first_ordered key f l u v
    (and_right (all (before (key s)) (map key l)) (ascends (map key l)) a) k n t)
  where
    after : Memᴰ v l → before (key s) (key v) ≡ true
    after n = all_out (before (key s)) (Memᴰ.map key n) (and_left (all (before (key s)) (map key l)) (ascends (map key l)) a)

    not_first : (b : Bool) → before (key v) (key s) ≡ b → Memᴰ v l → b ≡ false
    not_first true e n = absurd (before_asym (key s) (key v) (after n) e)
    not_first false e n = refl

    go : (b : Bool) → f s ≡ b → cond b (some s) (first f l) ≡ some u → (v ≡ s) ⊎ Memᴰ v l →
        (first f l ≡ some u → Memᴰ v l → before (key v) (key u) ≡ false) → before (key v) (key u) ≡ false
    go true e k (inl q) below = let r : v ≡ u = cc in rw r (before_irrefl (key u))
    go true e k (inr n) below = let r : u ≡ s = cc in rw r (not_first (before (key v) (key s)) refl n)
    go false e k (inl q) below = absurd (true_not_false (sym t ∙ ap f q ∙ e))
    go false e k (inr n) below = below k n
