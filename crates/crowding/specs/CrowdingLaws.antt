-- Laws of crowding: the ends are ends of monotone subsequences, and a crowded word cannot be
-- completed.
use Rattle.std.specs.Prelude.{ℕ, zero, suc, ◌-◌, ◌*◌, ◌≤◌, ◌<◌, min, ◌≡◌, refl, ◌⊎◌, Bool, not, ◌&&◌, cond, ltb}
use Rattle.std.proofs.Common.{sym, ◌∙◌, subst, inl, inr, arith, length-append, ltb-true}
use Rattle.std.proofs.Math.Bool.{true, false}
use mathlib.Core.List.Memᴰ
use mathlib.Core.List.{List, [], ◌∷◌, ◌++◌, append-nil, Memᴰ}
use mathlib.Core.List.Sublistᴰ
use mathlib.Core.List.{Sublistᴰ}
use Rattle.std.proofs.Math.ListN.{length}
use Rattle.std.proofs.Math.Seq.{append_snoc}
use Rattle.word.specs.Lists.{any, keep, row}
use Rattle.word.specs.Word.{avoids, is_perm}
use Rattle.word.specs.ListLaws.{and_left, and_right, below_or_not, any_out, keep_out, row_out, sublist_mem}
use Rattle.word.specs.PermLaws.{perm_bounds, perm_distinct}
use Rattle.cell.proofs.WithoutLaws.{distinct_sublist}
use Rattle.completion.specs.Completion.{completable}
use Rattle.completion.specs.CompletionLaws.{completable_out}
use Rattle.crowding.specs.Crowding.{precedes, monotone, monotone_length, shorter, shortest, shortest_rising, shortest_falling}
use Rattle.crowding.specs.Crowding.{bound, start_ends, next_ends, ends_after, ends, between, crowded_at, crowded}
use Rattle.crowding.specs.MonotoneLaws.{precedes_trans, monotone_append, avoids_monotone}
use Rattle.crowding.specs.ErdosSzekeres.{Bounded, erdos_szekeres}
use Rattle.crowding.specs.CountLaws.{between_rest}

-- The shortest monotone pattern

shorter_is : (a b : ℕ) → (shorter a b ≡ a) ⊎ (shorter a b ≡ b)
unfolding shorter
shorter_is zero b = inr refl
shorter_is (suc a) zero = inl refl
shorter_is (suc a) (suc b) = min_is (suc a) (suc b)
  where
    min_is : (x y : ℕ) → (min x y ≡ x) ⊎ (min x y ≡ y)
    min_is x y = go (below_or_not x y)
      where
        go : (x < y) ⊎ (y ≤ x) → (min x y ≡ x) ⊎ (min x y ≡ y)
        go (inl h) = inl (omega arith)
        go (inr h) = inr (omega arith)

monotone_length_lem : (up : Bool) (β : List ℕ) → 0 < monotone_length up β → (monotone up β ≡ true) × (length β ≡ monotone_length up β)
unfolding monotone_length
monotone_length_lem up β h = go (monotone up β) h
  where
    go : (b : Bool) → 0 < cond b (length β) 0 → (b ≡ true) × (length β ≡ cond b (length β) 0)
    go true k = (refl, refl)
    go false k = absurd (omega arith)

pub shortest_is : (up : Bool) (P : List (List ℕ)) → 0 < shortest up P →
    (β : List ℕ) × Memᴰ β P × (monotone up β ≡ true) × (length β ≡ shortest up P)
unfolding shortest
shortest_is up [] h = absurd (omega arith)
shortest_is up (β ∷ P) h = go (shorter_is (monotone_length up β) (shortest up P)) (shortest_is up P)
  where
    go : (shorter (monotone_length up β) (shortest up P) ≡ monotone_length up β) ⊎
        (shorter (monotone_length up β) (shortest up P) ≡ shortest up P) →
        (0 < shortest up P → (α : List ℕ) × Memᴰ α P × (monotone up α ≡ true) × (length α ≡ shortest up P)) →
        (α : List ℕ) × Memᴰ α (β ∷ P) × (monotone up α ≡ true) × (length α ≡ shorter (monotone_length up β) (shortest up P))
    go (inl e) below =
        let (m, l) = monotone_length_lem up β (omega arith) in (β, Memᴰ.head refl, m, l ∙ sym e)
    go (inr e) below =
        let (α, i, m, l) = below (omega arith) in (α, Memᴰ.tail i, m, l ∙ sym e)

-- The ends

-- a monotone sublist of u with l entries, which precede all that e precedes
record Reached (up : Bool) (u : List ℕ) (l e : ℕ) : Type 0 where
  entries : List ℕ
  inside : Sublistᴰ entries u
  runs : monotone up entries ≡ true
  size : length entries ≡ l
  before : (z : ℕ) → precedes up e z ≡ true → (y : ℕ) → Memᴰ y entries → precedes up y z ≡ true

reached_longer : (up : Bool) {u : List ℕ} {l e : ℕ} (x : ℕ) → Reached up u l e → Reached up (u ++ (x ∷ [])) l e
reached_longer up {u} x r = record {
  entries = r.entries;
  inside = rw (append-nil r.entries) at (Sublistᴰ.append r.inside (Sublistᴰ.nil-sublist (x ∷ [])));
  runs = r.runs;
  size = r.size;
  before = r.before;
}

-- an entry that follows the end
reached_next : (up : Bool) {u : List ℕ} {l e : ℕ} (x : ℕ) → Reached up u l e → precedes up e x ≡ true →
    Reached up (u ++ (x ∷ [])) (suc l) x
unfolding monotone
reached_next up {u} {l} {e} x r p = record {
  entries = r.entries ++ (x ∷ []);
  inside = Sublistᴰ.append r.inside (Sublistᴰ.refl (x ∷ []));
  runs = monotone_append up r.entries (x ∷ []) r.runs refl
      (λ (y z : ℕ) (i : Memᴰ y r.entries) (j : Memᴰ z (x ∷ [])). rw (Memᴰ.eq_of_singleton j) (r.before x p y i));
  size = omega (arith, length-append r.entries (x ∷ []), r.size);
  before = λ (z : ℕ) (q : precedes up x z ≡ true) (y : ℕ) (m : Memᴰ y (r.entries ++ (x ∷ []))).
      follows z q y (Memᴰ.append_cases r.entries m);
}
  where
    follows : (z : ℕ) → precedes up x z ≡ true → (y : ℕ) → Memᴰ y r.entries ⊎ Memᴰ y (x ∷ []) → precedes up y z ≡ true
    follows z q y (inl i) = r.before z (precedes_trans up e x z p q) y i
    follows z q y (inr j) = rw (Memᴰ.eq_of_singleton j) q

-- every end that some value of 1 to n can follow is reached
abbrev Reaching : Bool → ℕ → List ℕ → (ℕ → ℕ) → Type 0
Reaching up n u e = (l v : ℕ) → v ≤ n → precedes up (e l) v ≡ true → Reached up u l (e l)

reaching_start : (up : Bool) (n : ℕ) → Reaching up n [] (start_ends up n)
unfolding start_ends monotone
reaching_start up n zero v h p = record {
  entries = [];
  inside = Sublistᴰ.slnil;
  runs = refl;
  size = refl;
  before = λ (z : ℕ) q (y : ℕ) (m : Memᴰ y []). absurd (Memᴰ.not-nil m);
}
reaching_start up n (suc l) v h p = absurd (never up p)
  where
    never : (b : Bool) → precedes b (bound (not b) n) v ≡ true → ⊥
    never true q = omega (arith, ltb-true (suc n) v q)
    never false q = omega (arith, ltb-true v 0 q)

reaching_next : (up : Bool) (n : ℕ) (u : List ℕ) (x : ℕ) (e : ℕ → ℕ) → x ≤ n → Reaching up n u e →
    Reaching up n (u ++ (x ∷ [])) (next_ends up x e)
unfolding next_ends
reaching_next up n u x e k r zero v h p = reached_longer up x (r zero v h p)
reaching_next up n u x e k r (suc l) v h p = go (precedes up (e l) x && precedes up x (e (suc l))) refl p
  where
    go : (b : Bool) → precedes up (e l) x && precedes up x (e (suc l)) ≡ b → precedes up (cond b x (e (suc l))) v ≡ true →
        Reached up (u ++ (x ∷ [])) (suc l) (cond b x (e (suc l)))
    go true q i =
        let f = and_left (precedes up (e l) x) (precedes up x (e (suc l))) q in reached_next up x (r l x k f) f
    go false q i = reached_longer up x (r (suc l) v h i)

reaching_after : (up : Bool) (n : ℕ) (w u : List ℕ) (e : ℕ → ℕ) → ((x : ℕ) → Memᴰ x u → x ≤ n) → Reaching up n w e →
    Reaching up n (w ++ u) (ends_after up e u)
unfolding ends_after
reaching_after up n w [] e b r = rw (append-nil w) r
reaching_after up n w (x ∷ u) e b r =
    subst (λ (t : List ℕ). Reaching up n t (ends_after up (next_ends up x e) u)) (append_snoc w x u)
    (reaching_after up n (w ++ (x ∷ [])) u (next_ends up x e) (λ (y : ℕ) (m : Memᴰ y u). b y (Memᴰ.tail m))
    (reaching_next up n w x e (b x (Memᴰ.head refl)) r))

reaching_ends : (up : Bool) (n : ℕ) (u : List ℕ) → ((x : ℕ) → Memᴰ x u → x ≤ n) → Reaching up n u (ends up n u)
unfolding ends
reaching_ends up n u b = reaching_after up n [] u (start_ends up n) b (reaching_start up n)

-- the values of a completion that follow a reached end have no monotone sublist with which that of
-- the end would be as long as a pattern
reached_bounded : (up : Bool) (P : List (List ℕ)) {β u : List ℕ} {l e : ℕ} (r k : List ℕ) → Memᴰ β P → monotone up β ≡ true →
    avoids P (u ++ r) ≡ true → Reached up u l e → Sublistᴰ k r → ((x : ℕ) → Memᴰ x k → precedes up e x ≡ true) →
    Bounded up (length β - 1 - l) k
reached_bounded up P {β} {u} {l} {e} r k i m a d s f t q o =
    let longer = monotone_append up d.entries t d.runs o
    (λ (y z : ℕ) (v : Memᴰ y d.entries) (w : Memᴰ z t). d.before z (f z (sublist_mem q w)) y v) in
    omega (
      arith,
      avoids_monotone up P (u ++ r) i m a (Sublistᴰ.append d.inside (Sublistᴰ.trans q s)) longer,
      length-append d.entries t,
      d.size,
    )

-- Crowded words

keep_sublist : (f : ℕ → Bool) (w : List ℕ) → Sublistᴰ (keep f w) w
keep_sublist f [] = Sublistᴰ.slnil
keep_sublist f (x ∷ w) = go (f x) (keep_sublist f w)
  where
    go : (b : Bool) → Sublistᴰ (keep f w) w → Sublistᴰ (cond b (x ∷ keep f w) (keep f w)) (x ∷ w)
    go true d = Sublistᴰ.cons-cons refl d
    go false d = Sublistᴰ.cons d

some_member : (w : List ℕ) → 0 < length w → (x : ℕ) × Memᴰ x w
some_member [] h = absurd (omega arith)
some_member (x ∷ w) h = (x, Memᴰ.head refl)

-- in a completion no more values lie between the ends for l and m than can follow there
module _ (P : List (List ℕ)) (n : ℕ) (u r : List ℕ) (p : is_perm (u ++ r) ≡ true) (q : length (u ++ r) ≡ n)
    (a : avoids P (u ++ r) ≡ true) (l m : ℕ) (hl : l < shortest_rising P) (hm : m < shortest_falling P) where
  inner : ℕ → Bool
  inner v = ltb (ends true n u l) v && ltb v (ends false n u m)

  bounded : {x : ℕ} → Memᴰ x (u ++ r) → x ≤ n
  bounded i = let (h, k) = perm_bounds (u ++ r) p i in omega arith

  -- of a direction: for the end there is a value that can follow it
  inner_bounded : (up : Bool) (i x : ℕ) → i < shortest up P → Memᴰ x (keep inner r) →
      ((v : ℕ) → inner v ≡ true → precedes up (ends up n u i) v ≡ true) → Bounded up (shortest up P - 1 - i) (keep inner r)
  inner_bounded up i x h j f =
      let (β, k, e, s) = shortest_is up P (omega arith) in
      let (w, t) = keep_out inner r j in
      let reached = reaching_ends up n u (λ (y : ℕ) (o : Memᴰ y u). bounded (Memᴰ.append_left r o)) i x
      (bounded (Memᴰ.append_right u w)) (f x t) in
      rw s at (reached_bounded up P r (keep inner r) k e a reached (keep_sublist inner r)
      (λ (y : ℕ) (o : Memᴰ y (keep inner r)). f y (keep_out inner r o).1))

  pub between_bounded : between (ends true n u l) (ends false n u m) r ≤ (shortest_rising P - 1 - l) * (shortest_falling P - 1 - m)
  unfolding between precedes inner
  between_bounded = go (below_or_not 0 (length (keep inner r)))
    where
      most : (x : ℕ) → Memᴰ x (keep inner r) → length (keep inner r) ≤ (shortest_rising P - 1 - l) * (shortest_falling P - 1 - m)
      most x j =
          erdos_szekeres (shortest_rising P - 1 - l) (shortest_falling P - 1 - m) (keep inner r)
          (distinct_sublist (Sublistᴰ.append (Sublistᴰ.nil-sublist u) (keep_sublist inner r)) (perm_distinct (u ++ r) p))
          (inner_bounded true l x hl j (λ (v : ℕ) (e : inner v ≡ true). and_left (ltb (ends true n u l) v) (ltb v (ends false n u m)) e))
          (inner_bounded false m x hm j (λ (v : ℕ) (e : inner v ≡ true). and_right (ltb (ends true n u l) v) (ltb v (ends false n u m)) e))

      go : (0 < length (keep inner r)) ⊎ (length (keep inner r) ≤ 0) →
          length (keep inner r) ≤ (shortest_rising P - 1 - l) * (shortest_falling P - 1 - m)
      go (inl h) = let (x, j) = some_member (keep inner r) h in most x j
      go (inr h) = omega arith

-- so a crowded word cannot be completed
pub crowded_empty : (P : List (List ℕ)) (n : ℕ) (u rest : List ℕ) → is_perm (u ++ rest) ≡ true → length (u ++ rest) ≡ n →
    crowded (shortest_rising P) (shortest_falling P) n u rest ≡ true → completable P n u ≡ false
unfolding crowded crowded_at
crowded_empty P n u rest p q c = go (completable P n u) refl
  where
    a : ℕ
    a = shortest_rising P

    b : ℕ
    b = shortest_falling P

    go : (t : Bool) → completable P n u ≡ t → t ≡ false
    go false e = refl
    go true e =
        let (r, s, k, o) = completable_out P n u e in
        let (l, i, f) = any_out (λ l. any (crowded_at a b n u rest l) (row 0 b)) (row 0 a) c in
        let (m, j, h) = any_out (crowded_at a b n u rest l) (row 0 b) f in
        let low : l < a = omega (arith, row_out 0 a i) in
        let high : m < b = omega (arith, row_out 0 b j) in
        let few = between_bounded P n u r s k o l m low high in
        let same = between_rest u rest r p s (q ∙ sym k) (ends true n u l) (ends false n u m) in
        absurd (omega (arith, ltb-true ((a - 1 - l) * (b - 1 - m)) (between (ends true n u l) (ends false n u m) rest) h))
