-- Laws of completions: what a completion is, by which next entries there is one, and what rules it
-- out.
use Rattle.std.specs.Prelude.{ℕ, ◌≤◌, ◌<◌, ◌≡◌, refl, Bool, true, false, not, ◌||◌, ◌⊎◌, length, take, drop}
use Rattle.std.proofs.Common.{sym, ap, ◌∙◌, inl, inr, arith, length-append, take-append-drop}
use mathlib.Core.List.Memᴰ
use mathlib.Core.List.{List, [], ◌∷◌, ◌++◌, append-nil, append_assoc, Memᴰ}
use mathlib.Core.List.Sublistᴰ
use mathlib.Core.List.{Sublistᴰ}
use Rattle.std.proofs.Math.Seq.{take-append_seam}
use Rattle.word.specs.Lists.{all, any, one_to}
use Rattle.word.specs.Word.{avoids, avoiders, has, distinct, within, is_perm}
use Rattle.word.specs.ListLaws.{true_not_false, and_left, and_right, and_in, not_in, same_test, fails_with}
use Rattle.word.specs.ListLaws.{any_out, any_in, all_out, all_in, all_append, row_out, row_in}
use Rattle.word.specs.ContainsLaws.{avoids_sublist}
use Rattle.word.specs.PermLaws.{has_out, has_in, within_out, within_in, distinct_out, distinct_in, perm_bounds}
use Rattle.word.specs.PermLaws.{perm_distinct, perm_in, perm_has}
use Rattle.word.specs.AscendLaws.{avoiders_are, avoiders_all}
use Rattle.cell.proofs.BuiltCells.{same_out, same_refl}
use Rattle.completion.specs.Completion.{begins, completable, begun, allowed, all_allowed, goes_on}

-- a word that begins with u is u and a rest
pub begins_out : (u w : List ℕ) → begins u w ≡ true → (r : List ℕ) × (u ++ r ≡ w)
unfolding begins
begins_out u w e = (
  drop (length u) w,
  ap (λ (t : List ℕ). t ++ drop (length u) w) (sym (same_out (take (length u) w) u e)) ∙
      take-append-drop (length u) w,
)

pub begins_in : (u r : List ℕ) → begins u (u ++ r) ≡ true
unfolding begins
begins_in u r = rw (take-append_seam u r) (same_refl u)

-- a completion of u: a rest with which it is an avoider of length n
pub completable_out : (P : List (List ℕ)) (n : ℕ) (u : List ℕ) → completable P n u ≡ true →
    (r : List ℕ) × (is_perm (u ++ r) ≡ true) × (length (u ++ r) ≡ n) × (avoids P (u ++ r) ≡ true)
unfolding completable
completable_out P n u e =
    let (w, m, b) = any_out (begins u) (avoiders P n) e in
    let (p, l, a) = avoiders_are P n m in
    let (r, q) = begins_out u w b in
    (r, ap is_perm q ∙ p, ap length q ∙ l, ap (avoids P) q ∙ a)

pub completable_in : (P : List (List ℕ)) (n : ℕ) (u r : List ℕ) → is_perm (u ++ r) ≡ true → length (u ++ r) ≡ n → avoids P (u ++ r) ≡ true →
    completable P n u ≡ true
unfolding completable
completable_in P n u r p l a = any_in (begins u) (avoiders_all P n (u ++ r) p l a) (begins_in u r)

-- the entries in front of a longer word
front : (u r : List ℕ) → Sublistᴰ u (u ++ r)
front u r = rw (append-nil u) at (Sublistᴰ.append (Sublistᴰ.refl u) (Sublistᴰ.nil-sublist r))

-- an entry of a word is a sublist by itself
pub one_of : {v : ℕ} {r : List ℕ} → Memᴰ v r → Sublistᴰ (v ∷ []) r
one_of (Memᴰ.head {xs = r} e) = Sublistᴰ.cons-cons e (Sublistᴰ.nil-sublist r)
one_of (Memᴰ.tail m) = Sublistᴰ.cons (one_of m)

-- distinct entries in front, and one that stands behind them
distinct_front : (u r : List ℕ) → distinct (u ++ r) ≡ true → distinct u ≡ true
unfolding distinct
distinct_front [] r e = refl
distinct_front (x ∷ u) r e =
    let (f, d) = distinct_out x (u ++ r) e in
    distinct_in x u (λ (m : Memᴰ x u). f (Memᴰ.append_left r m)) (distinct_front u r d)

distinct_behind : (v : ℕ) (u r : List ℕ) → distinct (u ++ (v ∷ r)) ≡ true → Memᴰ v u → ⊥
distinct_behind v u r e (Memᴰ.head {xs = t} q) =
    let (f, d) = distinct_out _ (t ++ (v ∷ r)) e in
    f (Memᴰ.cast (sym q) (Memᴰ.append_right t (Memᴰ.head refl)))
distinct_behind v u r e (Memᴰ.tail {x = x} {xs = t} m) =
    let (f, d) = distinct_out x (t ++ (v ∷ r)) e in distinct_behind v t r d m

distinct_snoc : (u : List ℕ) (v : ℕ) → distinct u ≡ true → (Memᴰ v u → ⊥) → distinct (u ++ (v ∷ [])) ≡ true
unfolding distinct has
distinct_snoc [] v d f = refl
distinct_snoc (x ∷ u) v d f =
    let (g, e) = distinct_out x u d in
    distinct_in x (u ++ (v ∷ [])) (λ (m : Memᴰ x (u ++ (v ∷ []))). fresh g (Memᴰ.append_cases u m))
    (distinct_snoc u v e (λ (m : Memᴰ v u). f (Memᴰ.tail m)))
  where
    fresh : (Memᴰ x u → ⊥) → Memᴰ x u ⊎ Memᴰ x (v ∷ []) → ⊥
    fresh g (inl m) = g m
    fresh g (inr m) = f (Memᴰ.head (sym (Memᴰ.eq_of_singleton m)))

-- what begins an avoider of length n has distinct entries from 1 to n, at most n of them, and
-- avoids the patterns
pub completable_begun : (P : List (List ℕ)) (n : ℕ) (u : List ℕ) → completable P n u ≡ true → begun n u ≡ true
unfolding begun
completable_begun P n u e =
    let (r, p, l, a) = completable_out P n u e in
    and_in (all (within n) u) (distinct u)
    (all_in (within n) u (λ (x : ℕ) (m : Memᴰ x u). let (h, k) = perm_bounds (u ++ r) p
    (Memᴰ.append_left r m) in within_in n x h (omega arith)))
    (distinct_front u r (perm_distinct (u ++ r) p))

pub completable_length : (P : List (List ℕ)) (n : ℕ) (u : List ℕ) → completable P n u ≡ true → length u ≤ n
completable_length P n u e = let (r, p, l, a) = completable_out P n u e in omega (arith, length-append u r)

pub completable_avoids : (P : List (List ℕ)) (n : ℕ) (u : List ℕ) → completable P n u ≡ true → avoids P u ≡ true
completable_avoids P n u e = let (r, p, l, a) = completable_out P n u e in avoids_sublist P (front u r) a

-- so these words begin no avoider
pub not_begun : (P : List (List ℕ)) (n : ℕ) (u : List ℕ) → begun n u ≡ false → completable P n u ≡ false
not_begun P n u e = fails_with (completable P n u) (begun n u) (completable_begun P n u) e

pub too_long : (P : List (List ℕ)) (n : ℕ) (u : List ℕ) → n < length u → completable P n u ≡ false
too_long P n u h = go (completable P n u) refl
  where
    go : (b : Bool) → completable P n u ≡ b → b ≡ false
    go true e = absurd (omega (arith, completable_length P n u e))
    go false e = refl

-- a begun word with one entry more is begun
pub begun_snoc : (n : ℕ) (u : List ℕ) (v : ℕ) → begun n u ≡ true → 1 ≤ v → v ≤ n → has v u ≡ false → begun n (u ++ (v ∷ [])) ≡ true
unfolding begun
begun_snoc n u v e h k f =
    and_in (all (within n) (u ++ (v ∷ []))) (distinct (u ++ (v ∷ [])))
    (all_append (within n) u (v ∷ []) (and_left (all (within n) u) (distinct u) e) (and_in (within n v) true (within_in n v h k) refl))
    (distinct_snoc u v (and_right (all (within n) u) (distinct u) e) (λ (m : Memᴰ v u). true_not_false (sym (has_in m) ∙ f)))

-- an entry of a begun word is from 1 to n and does not stand before
pub begun_last : (n : ℕ) (u : List ℕ) (v : ℕ) (r : List ℕ) → begun n (u ++ (v ∷ r)) ≡ true → (1 ≤ v) × (v ≤ n) × (has v u ≡ false)
unfolding begun
begun_last n u v r e =
    let (h, k) = within_out n v (all_out (within n) (Memᴰ.append_right u (Memᴰ.head refl))
    (and_left (all (within n) (u ++ (v ∷ r))) (distinct (u ++ (v ∷ r))) e)) in
    (h, k, fresh (has v u) refl)
  where
    fresh : (b : Bool) → has v u ≡ b → has v u ≡ false
    fresh true q = absurd (distinct_behind v u r (and_right (all (within n) (u ++ (v ∷ r))) (distinct (u ++ (v ∷ r))) e) (has_out v u q))
    fresh false q = q

-- a begun word of length n is a permutation: whether it can be completed is whether it avoids the
-- patterns
pub completable_whole : (P : List (List ℕ)) (n : ℕ) (u : List ℕ) → begun n u ≡ true → length u ≡ n → completable P n u ≡ avoids P u
unfolding begun
completable_whole P n u b l =
    same_test (completable P n u) (avoids P u) (completable_avoids P n u)
    (λ (a : avoids P u ≡ true). completable_in P n u [] (rw (append-nil u) perm) (rw (append-nil u) l) (rw (append-nil u) a))
  where
    perm : is_perm u ≡ true
    perm = perm_in u
        (λ (x : ℕ) (m : Memᴰ x u). let (h, k) =
        within_out n x (all_out (within n) m (and_left (all (within n) u) (distinct u) b)) in (h, omega arith))
        (and_right (all (within n) u) (distinct u) b)

-- a shorter word can be completed if it can with some next entry
pub completable_next : (P : List (List ℕ)) (n : ℕ) (u : List ℕ) → length u < n → completable P n u ≡ any (goes_on P n u) (one_to n)
unfolding goes_on
completable_next P n u h = same_test (completable P n u) (any (goes_on P n u) (one_to n)) there back
  where
    by_rest : (r : List ℕ) → is_perm (u ++ r) ≡ true → length (u ++ r) ≡ n → avoids P (u ++ r) ≡ true →
        any (goes_on P n u) (one_to n) ≡ true
    by_rest [] p l a = absurd (omega (arith, length-append u []))
    by_rest (v ∷ r) p l a =
        let (low, high) = perm_bounds (u ++ (v ∷ r)) p (Memᴰ.append_right u (Memᴰ.head refl)) in
        let q = append_assoc u (v ∷ []) r in
        any_in (goes_on P n u) (row_in 1 n v low (omega arith))
        (and_in (not (has v u)) (completable P n (u ++ (v ∷ [])))
        (not_in (has v u) (λ (e : has v u ≡ true). distinct_behind v u r (perm_distinct (u ++ (v ∷ r)) p) (has_out v u e)))
        (completable_in P n (u ++ (v ∷ [])) r (ap is_perm q ∙ p) (ap length q ∙ l) (ap (avoids P) q ∙ a)))

    there : completable P n u ≡ true → any (goes_on P n u) (one_to n) ≡ true
    there e = let (r, p, l, a) = completable_out P n u e in by_rest r p l a

    back : any (goes_on P n u) (one_to n) ≡ true → completable P n u ≡ true
    back e =
        let (v, m, g) = any_out (goes_on P n u) (one_to n) e in
        let (r, p, l, a) = completable_out P n (u ++ (v ∷ [])) (and_right (not (has v u)) (completable P n (u ++ (v ∷ []))) g) in
        let q = sym (append_assoc u (v ∷ []) r) in
        completable_in P n u (v ∷ r) (ap is_perm q ∙ p) (ap length q ∙ l) (ap (avoids P) q ∙ a)

-- where u can be completed, u followed by a value of 1 to n that does not stand in it avoids the
-- patterns: the value stands behind u in the completion
pub completable_fits : (P : List (List ℕ)) (n : ℕ) (u : List ℕ) (v : ℕ) → completable P n u ≡ true → 1 ≤ v → v ≤ n →
    has v u ≡ false → avoids P (u ++ (v ∷ [])) ≡ true
completable_fits P n u v e h k f =
    let (r, p, l, a) = completable_out P n u e in
    avoids_sublist P (Sublistᴰ.append (Sublistᴰ.refl u)
    (one_of (behind r (Memᴰ.append_cases u (has_out v (u ++ r) (perm_has (u ++ r) v p h (omega arith)))))))
    a
  where
    behind : (r : List ℕ) → Memᴰ v u ⊎ Memᴰ v r → Memᴰ v r
    behind r (inl m) = absurd (true_not_false (sym (has_in m) ∙ f))
    behind r (inr m) = m

pub completable_allowed : (P : List (List ℕ)) (n : ℕ) (u : List ℕ) → completable P n u ≡ true → all_allowed P n u ≡ true
unfolding all_allowed
completable_allowed P n u e = all_in (allowed P u) (one_to n) each_one
  where
    decide : (v : ℕ) (b : Bool) → has v u ≡ b → (has v u ≡ false → avoids P (u ++ (v ∷ [])) ≡ true) → b || avoids P (u ++ (v ∷ [])) ≡ true
    decide v true q f = refl
    decide v false q f = f q

    each_one : (v : ℕ) → Memᴰ v (one_to n) → has v u || avoids P (u ++ (v ∷ [])) ≡ true
    each_one v m = let (h, k) = row_out 1 n m in
        decide v (has v u) refl (λ (f : has v u ≡ false). completable_fits P n u v e h (omega arith) f)

-- so a word after which some value is not allowed begins no avoider
pub not_allowed : (P : List (List ℕ)) (n : ℕ) (u : List ℕ) → all_allowed P n u ≡ false → completable P n u ≡ false
not_allowed P n u e = fails_with (completable P n u) (all_allowed P n u) (completable_allowed P n u) e
