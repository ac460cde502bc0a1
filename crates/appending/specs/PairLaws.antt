-- Laws of the unused values taken in pairs: where a word can be completed, each two are allowed;
-- and what one value more adds to the test.
use Rattle.std.specs.Prelude.{ℕ, suc, ◌+◌, ◌≤◌, ◌<◌, ◌≡◌, Bool, true, false, ◌||◌, ◌⊎◌, length, get_or, take}
use Rattle.std.proofs.Math.Path.{refl, ap}
use Rattle.std.proofs.Common.{sym, ◌∙◌, inl, inr, arith, take-suc}
use Rattle.std.proofs.Math.Bool.{or-true}
use mathlib.Core.List.{List, [], ◌∷◌, ◌++◌, append-nil, append_assoc, Memᴰ}
use mathlib.Core.List.Sublistᴰ
use mathlib.Core.List.{Sublistᴰ}
use Rattle.std.proofs.Math.Numerals.{add-one}
use Rattle.std.proofs.Math.ListN.{drop}
use Rattle.std.proofs.Math.Seq.{drop-append-le, slice_empty, slice-cons, length-take-le}
use Rattle.word.specs.Lists.{all}
use Rattle.word.specs.Word.{is_perm, avoids}
use Rattle.word.specs.ListLaws.{true_not_false, and_in, all_in, fails_with}
use Rattle.word.specs.ContainsLaws.{avoids_sublist}
use Rattle.word.specs.PermLaws.{has_out, has_in, perm_has}
use Rattle.completion.specs.Completion.{begun, completable}
use Rattle.completion.specs.CompletionLaws.{one_of, completable_out, begun_last}
use Rattle.appending.specs.Pairs.{pair_allowed, pairs_behind, all_pairs}

-- two entries of a word stand in it in one of the two orders
two_of : {a b : ℕ} {r : List ℕ} → Memᴰ a r → Memᴰ b r → (b ≡ a → ⊥) → Sublistᴰ (a ∷ b ∷ []) r ⊎ Sublistᴰ (b ∷ a ∷ []) r
two_of (mathlib.Core.List.Memᴰ.head e) (mathlib.Core.List.Memᴰ.head q) f = absurd (f (q ∙ sym e))
two_of (mathlib.Core.List.Memᴰ.head e) (mathlib.Core.List.Memᴰ.tail m) f = inl (Sublistᴰ.cons-cons e (one_of m))
two_of (mathlib.Core.List.Memᴰ.tail m) (mathlib.Core.List.Memᴰ.head q) f = inr (Sublistᴰ.cons-cons q (one_of m))
two_of (mathlib.Core.List.Memᴰ.tail m) (mathlib.Core.List.Memᴰ.tail k) f = longer (two_of m k f)
  where
    longer : {x a b : ℕ} {r : List ℕ} → Sublistᴰ (a ∷ b ∷ []) r ⊎ Sublistᴰ (b ∷ a ∷ []) r →
        Sublistᴰ (a ∷ b ∷ []) (x ∷ r) ⊎ Sublistᴰ (b ∷ a ∷ []) (x ∷ r)
    longer (inl s) = inl (Sublistᴰ.cons s)
    longer (inr s) = inr (Sublistᴰ.cons s)

-- two values that stand behind u in an avoider are allowed behind u
both_behind : (P : List (List ℕ)) (u r : List ℕ) (a b : ℕ) → avoids P (u ++ r) ≡ true → Memᴰ a r → Memᴰ b r →
    (b ≡ a → ⊥) → pair_allowed P u b a ≡ true
unfolding pair_allowed
both_behind P u r a b h m k f = go (two_of m k f)
  where
    go : Sublistᴰ (a ∷ b ∷ []) r ⊎ Sublistᴰ (b ∷ a ∷ []) r → avoids P (u ++ (a ∷ b ∷ [])) || avoids P (u ++ (b ∷ a ∷ [])) ≡ true
    go (inl s) = ap (λ (t : Bool). t || avoids P (u ++ (b ∷ a ∷ []))) (avoids_sublist P (Sublistᴰ.append (Sublistᴰ.refl u) s) h)
    go (inr s) = ap (λ (t : Bool). avoids P (u ++ (a ∷ b ∷ [])) || t) (avoids_sublist P (Sublistᴰ.append (Sublistᴰ.refl u) s) h) ∙
        or-true (avoids P (u ++ (a ∷ b ∷ [])))

module _ (P : List (List ℕ)) (n : ℕ) (u r : List ℕ) (p : is_perm (u ++ r) ≡ true) (l : length (u ++ r) ≡ n)
    (h : avoids P (u ++ r) ≡ true) where
  -- a value that does not stand in u stands behind it in the completion
  behind : (v : ℕ) → 1 ≤ v → v ≤ n → (Memᴰ v u → ⊥) → Memᴰ v r
  behind v low high f = go (mathlib.Core.List.Memᴰ.append_cases u (has_out v (u ++ r) (perm_has (u ++ r) v p low (omega arith))))
    where
      go : Memᴰ v u ⊎ Memᴰ v r → Memᴰ v r
      go (inl m) = absurd (f m)
      go (inr m) = m

  rest_allowed : (seen rest : List ℕ) → begun n ((u ++ seen) ++ rest) ≡ true → ((a : ℕ) → Memᴰ a seen → Memᴰ a r) →
      pairs_behind P u seen rest ≡ true
  unfolding pairs_behind
  rest_allowed seen [] g f = refl
  rest_allowed seen (b ∷ rest) g f =
      let (low, high, fresh) = begun_last n (u ++ seen) b rest g in
      let new : Memᴰ b (u ++ seen) → ⊥ = λ (m : Memᴰ b (u ++ seen)). true_not_false (sym (has_in m) ∙ fresh) in
      let there : Memᴰ b r = behind b low high (λ (m : Memᴰ b u). new (mathlib.Core.List.Memᴰ.append_left seen m)) in
      and_in (all (pair_allowed P u b) seen) (pairs_behind P u (seen ++ (b ∷ [])) rest)
      (all_in (pair_allowed P u b) seen (λ (a : ℕ) (m : Memᴰ a seen).
      both_behind P u r a b h (f a m) there (λ (e : b ≡ a). new (mathlib.Core.List.Memᴰ.append_right u (mathlib.Core.List.Memᴰ.cast e m)))))
      (rest_allowed (seen ++ (b ∷ [])) rest (ap (begun n) (moved b rest) ∙ g)
      (λ (a : ℕ) (m : Memᴰ a (seen ++ (b ∷ []))). one_more a b there (mathlib.Core.List.Memᴰ.append_cases seen m)))
    where
      moved : (b : ℕ) (rest : List ℕ) → (u ++ (seen ++ (b ∷ []))) ++ rest ≡ (u ++ seen) ++ (b ∷ rest)
      moved b rest = ap (λ (t : List ℕ). t ++ rest) (sym (append_assoc u seen (b ∷ []))) ∙ append_assoc (u ++ seen) (b ∷ []) rest

      one_more : (a b : ℕ) → Memᴰ b r → Memᴰ a seen ⊎ Memᴰ a (b ∷ []) → Memᴰ a r
      one_more a b m (inl k) = f a k
      one_more a b m (inr k) = mathlib.Core.List.Memᴰ.cast (mathlib.Core.List.Memᴰ.eq_of_singleton k) m

-- where u can be completed, each two of the unused values are allowed behind it
pub completable_pairs : (P : List (List ℕ)) (n : ℕ) (u rest : List ℕ) → is_perm (u ++ rest) ≡ true → length (u ++ rest) ≡ n →
    completable P n u ≡ true → all_pairs P u rest ≡ true
unfolding all_pairs is_perm begun
completable_pairs P n u rest q k e =
    let (r, p, l, h) = completable_out P n u e in
    rest_allowed P n u r p l h [] rest
    (ap (λ (t : List ℕ). begun n (t ++ rest)) (append-nil u) ∙ ap (λ (m : ℕ). begun m (u ++ rest)) (sym k) ∙ q)
    (λ (a : ℕ) (m : Memᴰ a []). absurd (mathlib.Core.List.Memᴰ.not-nil m))

-- so a word behind which two unused values are not allowed begins no avoider
pub pairs_none : (P : List (List ℕ)) (n : ℕ) (u rest : List ℕ) → is_perm (u ++ rest) ≡ true → length (u ++ rest) ≡ n →
    all_pairs P u rest ≡ false → completable P n u ≡ false
pairs_none P n u rest q k e = fails_with (completable P n u) (all_pairs P u rest) (completable_pairs P n u rest q k) e

-- the values at the places from `len` to i are seen, those from i to n are still to come
pub pairs_start : (P : List (List ℕ)) (u : List ℕ) (len n : ℕ) (w : List ℕ) →
    all_pairs P u (drop len (take n w)) ≡ pairs_behind P u (drop len (take len w)) (drop len (take n w))
unfolding all_pairs
pairs_start P u len n w = ap (λ (t : List ℕ). pairs_behind P u t (drop len (take n w))) (sym (slice_empty len w))

pub pairs_end : (P : List (List ℕ)) (u seen : List ℕ) (i n : ℕ) (w : List ℕ) → i ≡ n → pairs_behind P u seen (drop i (take n w)) ≡ true
unfolding pairs_behind
pairs_end P u seen i n w e = rw (e, slice_empty n w) refl

module _ (P : List (List ℕ)) (u : List ℕ) (len i n : ℕ) (w : List ℕ) (h : len ≤ i) (k : i < n) (l : n ≤ length w) where
  pub pairs_fail : all (pair_allowed P u (get_or w i 0)) (drop len (take i w)) ≡ false →
      pairs_behind P u (drop len (take i w)) (drop i (take n w)) ≡ false
  unfolding pairs_behind
  pairs_fail e = rw (slice-cons i n w 0 k l, e) refl

  pub pairs_more : all (pair_allowed P u (get_or w i 0)) (drop len (take i w)) ≡ true →
      pairs_behind P u (drop len (take i w)) (drop i (take n w)) ≡ pairs_behind P u (drop len (take (i + 1) w)) (drop (i + 1) (take n w))
  unfolding pairs_behind
  pairs_more e = rw (slice-cons i n w 0 k l, e, add-one i) (ap (λ (t : List ℕ). pairs_behind P u t (drop (suc i) (take n w))) (sym seen))
    where
      seen : drop len (take (suc i) w) ≡ drop len (take i w) ++ (get_or w i 0 ∷ [])
      seen = ap (drop len) (take-suc w i 0 (omega arith)) ∙
          drop-append-le len (take i w) (get_or w i 0 ∷ []) (omega (arith, length-take-le i w (omega arith)))

-- one value b with those at the places from i to n
pub with_end : (P : List (List ℕ)) (u : List ℕ) (b i n : ℕ) (w : List ℕ) → i ≡ n → all (pair_allowed P u b) (drop i (take n w)) ≡ true
with_end P u b i n w e = rw (e, slice_empty n w) refl

module _ (P : List (List ℕ)) (u : List ℕ) (b i n : ℕ) (w : List ℕ) (k : i < n) (l : n ≤ length w) where
  pub with_first : avoids P (u ++ (get_or w i 0 ∷ b ∷ [])) ≡ true →
      all (pair_allowed P u b) (drop i (take n w)) ≡ all (pair_allowed P u b) (drop (i + 1) (take n w))
  unfolding pair_allowed
  with_first e = rw (slice-cons i n w 0 k l, e, add-one i) refl

  pub with_second : avoids P (u ++ (b ∷ get_or w i 0 ∷ [])) ≡ true →
      all (pair_allowed P u b) (drop i (take n w)) ≡ all (pair_allowed P u b) (drop (i + 1) (take n w))
  unfolding pair_allowed
  with_second e = rw (slice-cons i n w 0 k l, e, or-true (avoids P (u ++ (get_or w i 0 ∷ b ∷ []))), add-one i) refl

  pub with_neither : avoids P (u ++ (get_or w i 0 ∷ b ∷ [])) ≡ false → avoids P (u ++ (b ∷ get_or w i 0 ∷ [])) ≡ false →
      all (pair_allowed P u b) (drop i (take n w)) ≡ false
  unfolding pair_allowed
  with_neither e q = rw (slice-cons i n w 0 k l, e, q) refl
