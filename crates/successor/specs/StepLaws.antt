-- Laws of the first avoider that begins with given entries, and of the first that comes after a
-- word: both are found place by place.
use Rattle.std.specs.Prelude.{ℕ, suc, ◌≤◌, ◌<◌, ◌≡◌, refl, ◌⊎◌, Bool, true, false, cond, ◌&&◌, length, ltb, eqb}
use Rattle.std.proofs.Common.{sym, ap, ◌∙◌, inl, inr, arith, length-append, eqb-true}
use mathlib.Core.List.Memᴰ
use mathlib.Core.List.{List, [], ◌∷◌, ◌++◌, append-nil, append_assoc, map-id, Memᴰ}
use Rattle.std.proofs.Math.Option.{Option, none, some}
use Rattle.word.specs.Lists.{any, first}
use Rattle.word.specs.Word.{is_perm, avoids, avoiders, before}
use Rattle.word.specs.Listing.{first_avoider}
use Rattle.word.specs.ListingLaws.{head_first}
use Rattle.word.specs.ListLaws.{true_not_false, fails_with, below_or_not, same_or_not, first_some, any_out}
use Rattle.word.specs.CopyLaws.{found, first_found, before_irrefl, before_cons, before_larger}
use Rattle.word.specs.PermLaws.{perm_bounds}
use Rattle.word.specs.AscendLaws.{ascends, before_first, avoiders_are, avoiders_all, avoiders_ascend}
use Rattle.word.specs.FirstLaws.{first_is, first_none, first_ordered, before_asym}
use Rattle.completion.specs.Completion.{begins, completable}
use Rattle.completion.specs.CompletionLaws.{begins_out, begins_in, completable_in}
use Rattle.successor.specs.Values.{NoneBetween, Avoider, least_from}

-- words with the same front are compared behind it
pub before_behind : (u s t : List ℕ) → before (u ++ s) (u ++ t) ≡ before s t
before_behind [] s t = refl
before_behind (x ∷ u) s t = before_cons x (u ++ s) (u ++ t) ∙ before_behind u s t

-- a word without the front is compared with all words that have it alike
pub before_apart : (u s t v : List ℕ) → begins u v ≡ false → before (u ++ s) v ≡ before (u ++ t) v
unfolding before
before_apart [] s t v e = absurd (true_not_false (sym (begins_in [] v) ∙ e))
before_apart (x ∷ u) s t [] e = refl
before_apart (x ∷ u) s t (y ∷ v) e = go (eqb x y) refl (before_apart u s t v)
  where
    longer : x ≡ y → begins u v ≡ true → begins (x ∷ u) (y ∷ v) ≡ true
    longer q h =
        let (r, k) = begins_out u v h in
        ap (λ (w : List ℕ). begins (x ∷ u) (y ∷ w)) (sym k) ∙
        ap (λ (z : ℕ). begins (x ∷ u) (z ∷ (u ++ r))) (sym q) ∙ begins_in (x ∷ u) r

    go : (b : Bool) → eqb x y ≡ b → (begins u v ≡ false → before (u ++ s) v ≡ before (u ++ t) v) →
        cond (ltb x y) true (b && before (u ++ s) v) ≡ cond (ltb x y) true (b && before (u ++ t) v)
    go true q below = ap (cond (ltb x y) true)
        (below (fails_with (begins u v) (begins (x ∷ u) (y ∷ v)) (longer (eqb-true x y q)) e))
    go false q below = refl

-- what an avoider is behind a front that is shorter than it
pub behind_front : (P : List (List ℕ)) (n : ℕ) (u v : List ℕ) → Memᴰ v (avoiders P n) → begins u v ≡ true → length u < n →
    (y : ℕ) × (r : List ℕ) × (u ++ (y ∷ r) ≡ v)
behind_front P n u v m b h = let (r, q) = begins_out u v b in go r q
  where
    go : (r : List ℕ) → u ++ r ≡ v → (y : ℕ) × (s : List ℕ) × (u ++ (y ∷ s) ≡ v)
    go [] q =
        let (p, l, a) = avoiders_are P n m in
        let e : length u ≡ length v = ap length (sym (append-nil u) ∙ q) in
        absurd (omega (arith, e, l))
    go (y ∷ r) q = (y, r, q)

-- the next entry of an avoider completes its front
pub completes_next : (P : List (List ℕ)) (n : ℕ) (u : List ℕ) (y : ℕ) (r v : List ℕ) → Memᴰ v (avoiders P n) → u ++ (y ∷ r) ≡ v →
    completable P n (u ++ (y ∷ [])) ≡ true
completes_next P n u y r v m q =
    let (p, l, a) = avoiders_are P n m in
    let e : (u ++ (y ∷ [])) ++ r ≡ v = append_assoc u (y ∷ []) r ∙ q in
    completable_in P n (u ++ (y ∷ [])) r (ap is_perm e ∙ p) (ap length e ∙ l) (ap (avoids P) e ∙ a)

begins_more : (u : List ℕ) (y : ℕ) (r v : List ℕ) → u ++ (y ∷ r) ≡ v → begins (u ++ (y ∷ [])) v ≡ true
begins_more u y r v q = ap (begins (u ++ (y ∷ []))) (sym (append_assoc u (y ∷ []) r ∙ q)) ∙ begins_in (u ++ (y ∷ [])) r

begins_less : (u : List ℕ) (y : ℕ) (r v : List ℕ) → u ++ (y ∷ r) ≡ v → begins u v ≡ true
begins_less u y r v q = ap (begins u) (sym q) ∙ begins_in u (y ∷ r)

-- the first avoider with a front that can be completed
pub least_there : (P : List (List ℕ)) (n : ℕ) (u : List ℕ) → completable P n u ≡ true → (r : List ℕ) × (least_from P n u ≡ some r)
unfolding completable
least_there P n u e = go (least_from P n u) refl (first_found (begins u) (avoiders P n) ∙ e)
  where
    go : (o : Option (List ℕ)) → least_from P n u ≡ o → found o ≡ true → (r : List ℕ) × (least_from P n u ≡ some r)
    go none q t = absurd (true_not_false (sym t))
    go (some r) q t = (r, q)

in_order : (P : List (List ℕ)) (n : ℕ) (u v r : List ℕ) → least_from P n u ≡ some r → Memᴰ v (avoiders P n) → begins u v ≡ true →
    before v r ≡ false
in_order P n u v r e m b =
    first_ordered (λ w. w) (begins u) (avoiders P n) r v (ap ascends (map-id (avoiders P n)) ∙ avoiders_ascend P n) e m b

-- the least value with which a front can be completed is the next entry of the first avoider with
-- that front
pub least_value : (P : List (List ℕ)) (n : ℕ) (u : List ℕ) (x : ℕ) → length u < n → NoneBetween P n u 0 x →
    completable P n (u ++ (x ∷ [])) ≡ true → least_from P n u ≡ least_from P n (u ++ (x ∷ []))
least_value P n u x h misses e =
    let (r, f) = least_there P n (u ++ (x ∷ [])) e in
    let (m, b) = first_some (begins (u ++ (x ∷ []))) (avoiders P n) r f in
    let (t, q) = begins_out (u ++ (x ∷ [])) r b in
    let k : u ++ (x ∷ t) ≡ r = sym (append_assoc u (x ∷ []) t) ∙ q in
    first_is (begins u) (avoiders P n) r (avoiders_ascend P n) m (begins_less u x t r k)
    (λ v i c. let (y, s, z) = behind_front P n u v i c h in at r f t k v i y s z (below_or_not y x) (same_or_not y x)) ∙
    sym f
  where
    at : (r : List ℕ) → least_from P n (u ++ (x ∷ [])) ≡ some r → (t : List ℕ) → u ++ (x ∷ t) ≡ r →
        (v : List ℕ) → Memᴰ v (avoiders P n) → (y : ℕ) (s : List ℕ) → u ++ (y ∷ s) ≡ v →
        (y < x) ⊎ (x ≤ y) → (y ≡ x) ⊎ (y ≡ x → ⊥) → before v r ≡ false
    at r f t k v i y s z (inl l) d = absurd (true_not_false (sym (completes_next P n u y s v i z) ∙ misses y (omega arith) l))
    at r f t k v i y s z (inr l) (inl g) =
        in_order P n (u ++ (x ∷ [])) v r f i (ap (λ (j : ℕ). begins (u ++ (j ∷ [])) v) (sym g) ∙ begins_more u y s v z)
    at r f t k v i y s z (inr l) (inr g) =
        ap (λ (w : List ℕ). before w r) (sym z) ∙ ap (before (u ++ (y ∷ s))) (sym k) ∙ before_behind u (y ∷ s) (x ∷ t) ∙
        before_larger x y s t (omega (arith, l, g))

-- an avoider is the first that begins with it
pub least_whole : (P : List (List ℕ)) (n : ℕ) (w : List ℕ) → Avoider P n w → least_from P n w ≡ some w
least_whole P n w g =
    first_is (begins w) (avoiders P n) w (avoiders_ascend P n) (avoiders_all P n w g.perm g.size g.avoids_all)
    (ap (begins w) (sym (append-nil w)) ∙ begins_in w []) (λ v m b. same_word v m (begins_out w v b).0 (begins_out w v b).1)
  where
    same_word : (v : List ℕ) → Memᴰ v (avoiders P n) → (r : List ℕ) → w ++ r ≡ v → before v w ≡ false
    same_word v m [] q = ap (λ (t : List ℕ). before t w) (sym q ∙ append-nil w) ∙ before_irrefl w
    same_word v m (y ∷ r) q =
        let (p, l, a) = avoiders_are P n m in
        let e = ap length q in
        absurd (omega (arith, e, l, g.size, length-append w (y ∷ r)))

-- the first of all avoiders
pub first_least : (P : List (List ℕ)) (n : ℕ) → first_avoider P n ≡ least_from P n []
unfolding first_avoider
first_least P n = head_first (avoiders P n) ∙ every (avoiders P n)
  where
    every : (l : List (List ℕ)) → first (λ w. true) l ≡ first (begins []) l
    every [] = refl
    every (w ∷ l) = ap (λ (b : Bool). cond b (some w) (first (begins []) l)) (sym (begins_in [] w))

pub least_none : (P : List (List ℕ)) (n : ℕ) (u : List ℕ) → completable P n u ≡ false → least_from P n u ≡ none
unfolding completable
least_none P n u e = first_none (begins u) (avoiders P n) e

-- no avoider with the front u comes after w
abbrev pub NoneAfter : List (List ℕ) → ℕ → List ℕ → List ℕ → Type 0
NoneAfter P n w u = (v : List ℕ) → Memᴰ v (avoiders P n) → begins u v ≡ true → before w v ≡ false

-- the only avoider with the front w is w
pub after_whole : (P : List (List ℕ)) (n : ℕ) (w : List ℕ) → length w ≡ n → NoneAfter P n w w
after_whole P n w l v m b = let (r, q) = begins_out w v b in go r q
  where
    go : (r : List ℕ) → w ++ r ≡ v → before w v ≡ false
    go [] q = ap (before w) (sym q ∙ append-nil w) ∙ before_irrefl w
    go (y ∷ r) q =
        let (p, k, a) = avoiders_are P n m in
        let e = ap length q in
        absurd (omega (arith, e, l, k, length-append w (y ∷ r)))

-- where no avoider comes after w, there is no next
pub after_none : (P : List (List ℕ)) (n : ℕ) (w : List ℕ) → NoneAfter P n w [] → first (before w) (avoiders P n) ≡ none
after_none P n w h = first_none (before w) (avoiders P n) (go (any (before w) (avoiders P n)) refl)
  where
    go : (b : Bool) → any (before w) (avoiders P n) ≡ b → b ≡ false
    go true e =
        let (v, m, t) = any_out (before w) (avoiders P n) e in absurd (true_not_false (sym t ∙ h v m (begins_in [] v)))
    go false e = refl

-- w with the front u, and the entry a behind it
module _ (P : List (List ℕ)) (n : ℕ) (w u : List ℕ) (a : ℕ) (t : List ℕ) (cut : u ++ (a ∷ t) ≡ w) (short : length u < n)
    (none-longer : NoneAfter P n w (u ++ (a ∷ []))) where
  -- an avoider with the front u and a next entry up to a does not come after w
  up_to : (v : List ℕ) → Memᴰ v (avoiders P n) → (y : ℕ) (s : List ℕ) → u ++ (y ∷ s) ≡ v → y ≤ a → before w v ≡ false
  up_to v m y s z h = go (same_or_not y a)
    where
      go : (y ≡ a) ⊎ (y ≡ a → ⊥) → before w v ≡ false
      go (inl e) = none-longer v m (ap (λ (j : ℕ). begins (u ++ (j ∷ [])) v) (sym e) ∙ begins_more u y s v z)
      go (inr e) =
          ap (λ (x : List ℕ). before x v) (sym cut) ∙ ap (before (u ++ (a ∷ t))) (sym z) ∙ before_behind u (a ∷ t) (y ∷ s) ∙
          before_larger y a t s (omega (arith, h, e))

  -- where no larger value completes u, no avoider with the front u comes after w
  pub after_less : NoneBetween P n u (suc a) (suc n) → NoneAfter P n w u
  after_less misses v m b = let (y, s, z) = behind_front P n u v m b short in go y s z (below_or_not a y)
    where
      go : (y : ℕ) (s : List ℕ) → u ++ (y ∷ s) ≡ v → (a < y) ⊎ (y ≤ a) → before w v ≡ false
      go y s z (inl h) =
          let (p, l, f) = avoiders_are P n m in
          let (low, high) = perm_bounds v {x = y} p (rw (← z) (Memᴰ.append_right u (Memᴰ.head refl))) in
          absurd (true_not_false (sym (completes_next P n u y s v m z) ∙ misses y (omega (arith, h)) (omega (arith, high, l))))
      go y s z (inr h) = up_to v m y s z h

  -- where x is the least larger value that completes u, the next is the first avoider with that
  -- front
  pub after_found : (x : ℕ) → a < x → NoneBetween P n u (suc a) x → completable P n (u ++ (x ∷ [])) ≡ true →
      first (before w) (avoiders P n) ≡ least_from P n (u ++ (x ∷ []))
  after_found x more misses e =
      let (r, f) = least_there P n (u ++ (x ∷ [])) e in
      let (m, b) = first_some (begins (u ++ (x ∷ []))) (avoiders P n) r f in
      let (s, q) = begins_out (u ++ (x ∷ [])) r b in
      let k : u ++ (x ∷ s) ≡ r = sym (append_assoc u (x ∷ []) s) ∙ q in
      first_is (before w) (avoiders P n) r (avoiders_ascend P n) m (comes_after r s k)
      (λ v i c. with_front r f s k v i c (begins u v) refl) ∙
      sym f
    where
      comes_after : (r s : List ℕ) → u ++ (x ∷ s) ≡ r → before w r ≡ true
      comes_after r s k =
          ap (λ (y : List ℕ). before y r) (sym cut) ∙ ap (before (u ++ (a ∷ t))) (sym k) ∙ before_behind u (a ∷ t) (x ∷ s) ∙
          before_first a x t s more

      at : (r : List ℕ) → least_from P n (u ++ (x ∷ [])) ≡ some r → (s : List ℕ) → u ++ (x ∷ s) ≡ r →
          (v : List ℕ) → Memᴰ v (avoiders P n) → before w v ≡ true → (y : ℕ) (z : List ℕ) → u ++ (y ∷ z) ≡ v →
          (a < y) ⊎ (y ≤ a) → (y < x) ⊎ (x ≤ y) → (y ≡ x) ⊎ (y ≡ x → ⊥) → before v r ≡ false
      at r f s k v i c y z g (inr h) d j = absurd (true_not_false (sym c ∙ up_to v i y z g h))
      at r f s k v i c y z g (inl h) (inl d) j =
          absurd (true_not_false (sym (completes_next P n u y z v i g) ∙ misses y (omega (arith, h)) d))
      at r f s k v i c y z g (inl h) (inr d) (inl j) =
          in_order P n (u ++ (x ∷ [])) v r f i (ap (λ (l : ℕ). begins (u ++ (l ∷ [])) v) (sym j) ∙ begins_more u y z v g)
      at r f s k v i c y z g (inl h) (inr d) (inr j) =
          ap (λ (l : List ℕ). before l r) (sym g) ∙ ap (before (u ++ (y ∷ z))) (sym k) ∙ before_behind u (y ∷ z) (x ∷ s) ∙
          before_larger x y z s (omega (arith, d, j))

      not_before : (v r : List ℕ) (b : Bool) → before v r ≡ b → before r v ≡ true → b ≡ false
      not_before v r true g h = absurd (before_asym v r g h)
      not_before v r false g h = refl

      with_front : (r : List ℕ) → least_from P n (u ++ (x ∷ [])) ≡ some r → (s : List ℕ) → u ++ (x ∷ s) ≡ r →
          (v : List ℕ) → Memᴰ v (avoiders P n) → before w v ≡ true → (b : Bool) → begins u v ≡ b → before v r ≡ false
      with_front r f s k v i c true b =
          let (y, z, g) = behind_front P n u v i b short in
          at r f s k v i c y z g (below_or_not a y) (below_or_not y x) (same_or_not y x)
      with_front r f s k v i c false b =
          not_before v r (before v r) refl
          (ap (λ (l : List ℕ). before l v) (sym k) ∙ before_apart u (x ∷ s) (a ∷ t) v b ∙ ap (λ (l : List ℕ). before l v) cut ∙ c)
