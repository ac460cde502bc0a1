-- At the least total that has a lost word every lost word is a candidate: its rest is made of the
-- last entries of a pattern that violates. So the first violated spacing is the first at which a
-- rest is lost, and the least lost word there is the least of the candidates.
use Prim.Native.Nat.{ℕ, suc, ◌-◌, ◌≤◌, ◌<◌}
use Rattle.std.proofs.Common.{arith, sym, ap, ap₂, ◌∙◌, inl, inr, leb-true}
use Rattle.std.specs.Prelude.{◌≡◌, refl, ◌⊎◌, Bool, true, false, cond, length, leb}
use mathlib.Core.List.Memᴰ
use mathlib.Core.List.{List, [], ◌∷◌, Memᴰ}
use mathlib.Core.List.Sublistᴰ
use mathlib.Core.List.{Sublistᴰ}
use Rattle.std.proofs.Math.Option.{Option, none, some}
use Rattle.word.specs.Lists.{any}
use Rattle.word.specs.Word.{iso, avoids, distinct, is_perm, before}
use Rattle.word.specs.ListLaws.{true_not_false, and_left, and_right, and_in, below_or_not}
use Rattle.word.specs.ContainsLaws.{contains_out, contains_in, avoids_fails, avoids_not}
use Rattle.word.specs.CopyLaws.{before_irrefl}
use Rattle.word.specs.FirstLaws.{before_chain, before_asym}
use Rattle.cell.specs.Cell.{total, without, at_least, free}
use Rattle.cell.specs.Built.{built}
use Rattle.cell.specs.Candidate.{hit, violates, violated, rest_of, least_of}
use Rattle.cell.proofs.SpacingWalk.{at_least_length, at_least_total, free_down}
use Rattle.word.specs.ListLaws.{sublist_mem}
use Rattle.cell.specs.SublistLaws.{sublist_whole}
use Rattle.cell.proofs.RestLaws.{built_sublist}
use Rattle.cell.proofs.FiniteTest.{Agrees, Copied, Smaller, one_less, finite_test, sublist_of_built}
use Rattle.cell.proofs.WithoutLaws.{without_sublist}
use Rattle.cell.proofs.PlaceLaws.{Cut, copy_out}
use Rattle.cell.proofs.Theorems.{prefix_within}
use Rattle.cell.proofs.CandidateLaws.{gone, sublist_kept, hit_in, clean_of_candidates}

-- a spacing that is at least one of the same total is equal to it
pub at_least_equal : (g b : List ℕ) → at_least g b ≡ true → total g ≤ total b → g ≡ b
unfolding at_least total
at_least_equal [] [] h l = refl
at_least_equal [] (y ∷ b) h l = absurd (true_not_false (sym h))
at_least_equal (x ∷ g) [] h l = absurd (true_not_false (sym h))
at_least_equal (x ∷ g) (y ∷ b) h l =
    let low = leb-true y x (and_left (leb y x) (at_least g b) h) in
    let rest = and_right (leb y x) (at_least g b) h in
    let below = at_least_total g b rest in
    ap₂ ◌∷◌ (omega arith) (at_least_equal g b rest (omega arith))

module _ (P : List (List ℕ)) (p R : List ℕ) (perm : is_perm p ≡ true) (apart : (β : List ℕ) → Memᴰ β P → distinct β ≡ true)
    (B : List (List ℕ)) where
  -- no spacing of a smaller total that is at least no vector of B is violated
  abbrev pub CleanBelow : List ℕ → Type 0
  CleanBelow g = (b : List ℕ) → length b ≡ suc (length p) → free B b ≡ true → total b < total g → violated P p R b ≡ false

  -- Then a spacing that is not violated loses no rest.
  module _ (g : List ℕ) (size : length g ≡ suc (length p)) (open-here : free B g ≡ true) (below : CleanBelow g) where
    pub agrees_first : violated P p R g ≡ false → Agrees P p (without R p) g
    agrees_first h =
        finite_test P p (without R p) S down (λ b s. prefix_within p b perm s.0) (without_sublist R p)
        (λ b s t. clean_of_candidates P p R perm apart b s.0 (none b s)) g (size, open-here, inr refl)
      where
        S : List ℕ → Type 0
        S b = (length b ≡ suc (length p)) × (free B b ≡ true) × ((total b < total g) ⊎ (b ≡ g))

        none : (b : List ℕ) → S b → violated P p R b ≡ false
        none b (s, f, inl l) = below b s f l
        none b (s, f, inr e) = ap (violated P p R) e ∙ h

        lower : (b c : List ℕ) → (total b < total g) ⊎ (b ≡ g) → at_least b c ≡ true → (total c < total g) ⊎ (c ≡ g)
        lower b c (inl l) h = inl (omega (arith, at_least_total b c h))
        lower b c (inr e) h = go (below_or_not (total c) (total g))
          where
            go : (total c < total g) ⊎ (total g ≤ total c) → (total c < total g) ⊎ (c ≡ g)
            go (inl l) = inl l
            go (inr l) = inr (sym (at_least_equal b c h (rw e l)) ∙ e)

        down : (b c : List ℕ) → S b → at_least b c ≡ true → S c
        down b c (s, f, l) h = (sym (at_least_length b c h) ∙ s, free_down B b c f h, lower b c l h)

  -- And every rest that is lost is that of a pattern that violates.
  module _ (g : List ℕ) (size : length g ≡ suc (length p)) (open-here : free B g ≡ true) (below : CleanBelow g) where
    pub lost_candidate : (σ : List ℕ) → is_perm σ ≡ true → length σ ≡ total g → avoids P (built (without R p) g σ) ≡ true →
        avoids P (built p g σ) ≡ false → (β : List ℕ) × Memᴰ β P × (violates P p R g β ≡ true) × (σ ≡ rest_of β (total g))
    unfolding violates
    lost_candidate σ sp sl avoiding fails =
        let (β, m, c) = avoids_fails P (built p g σ) fails in
        let (s, ds, i) = contains_out β (built p g σ) c in
        let (a, r, es, da, dr) = sublist_of_built p g σ ds in
        go β m a r da dr (rw es at i)
      where
        q : List ℕ
        q = without R p

        Found : Type 0
        Found = (β : List ℕ) × Memᴰ β P × (violates P p R g β ≡ true) × (σ ≡ rest_of β (total g))

        -- a copy in the shorter word
        kept : (β : List ℕ) → Memᴰ β P → {s : List ℕ} → Sublistᴰ s (built q g σ) → iso β s ≡ true → ⊥
        kept β m d i = true_not_false (sym avoiding ∙ avoids_not P (built q g σ) m (contains_in β d i))

        -- a lost rest at a spacing of a smaller total
        no_smaller : (β : List ℕ) → Memᴰ β P → (a : List ℕ) → Sublistᴰ a p → (n k : ℕ) → n < total g → Smaller P β q a g n k → ⊥
        no_smaller β m a da n k l f =
            let b = f.b in
            let c = f.copied in
            let less : total b < total g = omega (arith, c.size, f.rest_length) in
            let wide : length b ≡ suc (length p) = sym (at_least_length g b f.at_most) ∙ size in
            let open-b = free_down B g b open-here f.at_most in
            let whole : avoids P (built p b f.τ) ≡ false =
            avoids_not P (built p b f.τ) m (contains_in β (built_sublist b da c.part) c.copy) in
            let agrees = agrees_first b wide open-b (λ d s o l. below d s o (omega arith)) (below b wide open-b less) in
            true_not_false (sym (agrees f.τ c.perm c.size c.avoiding) ∙ whole)

        -- the copy has the whole rest
        whole_rest : (β : List ℕ) → Memᴰ β P → (x : ℕ) (a : List ℕ) → Sublistᴰ (x ∷ a) p → iso β (built (x ∷ a) g σ) ≡ true → Found
        whole_rest β m x a da i =
            let cut = copy_out β (x ∷ a) g σ (apart β m) sp sl
            (λ (y : ℕ) (n : Memᴰ y (x ∷ a)). prefix_within p g perm size y (sublist_mem da n))
            (λ z. let c : ◌≡◌ {A = ℕ} 0 1 = cc in omega arith) i in
            (β, m, hits cut (hit_by cut), cut.rest)
          where
            -- the copy has a deleted position, or the shorter word would contain it
            hit_by : Cut β (x ∷ a) g σ → hit p R g β ≡ true
            hit_by cut = used (any (gone p R) (x ∷ a)) refl
              where
                used : (t : Bool) → any (gone p R) (x ∷ a) ≡ t → hit p R g β ≡ true
                used true e = hit_in p R g β (x ∷ a) σ cut da e
                used false e = absurd (kept β m (built_sublist g (sublist_kept R da e) (Sublistᴰ.refl σ)) i)

            hits : Cut β (x ∷ a) g σ → hit p R g β ≡ true → violates P p R g β ≡ true
            hits cut e = and_in (hit p R g β) (avoids P (built q g (rest_of β (total g)))) e (rw cut.rest at avoiding)

        go : (β : List ℕ) → Memᴰ β P → (a r : List ℕ) → Sublistᴰ a p → Sublistᴰ r σ → iso β (built a g r) ≡ true → Found
        go β m [] r da dr i = absurd (kept β m (built_sublist g (Sublistᴰ.nil-sublist q) dr) i)
        go β m (x ∷ a) r da dr i = step (below_or_not (length r) (length σ))
          where
            copied : Copied P β q (x ∷ a) g σ r
            copied = record {
              below_q = λ y n. prefix_within p g perm size y (sublist_mem (without_sublist R p) n);
              below_a = λ y n. prefix_within p g perm size y (sublist_mem da n);
              perm = sp;
              size = sl;
              part = dr;
              copy = i;
              avoiding = avoiding;
            }

            shorter : (n : ℕ) → length σ ≡ suc n → length r ≤ n → Found
            shorter n e l = absurd (no_smaller β m (x ∷ a) da n (length r) (omega arith) (one_less P β q (x ∷ a) g σ r n copied e l))

            step : (length r < length σ) ⊎ (length σ ≤ length r) → Found
            step (inl l) = shorter (length σ - 1) (omega arith) (omega arith)
            step (inr l) = whole_rest β m x a da (rw (sublist_whole dr l) at i)

-- The least word of a list is one of it, and no word of the list comes before it.
pub least_is : (v : List ℕ) (l : List (List ℕ)) → (w : List ℕ) × (least_of (some v) l ≡ some w) × Memᴰ w (v ∷ l) ×
    ((x : List ℕ) → Memᴰ x (v ∷ l) → before x w ≡ false)
unfolding least_of
least_is v [] = (v, refl, Memᴰ.head refl, only)
  where
    only : (x : List ℕ) → Memᴰ x (v ∷ []) → before x v ≡ false
    only x m = go (Memᴰ.cases_cons m)
      where
        go : (x ≡ v) ⊎ Memᴰ x [] → before x v ≡ false
        go (inl e) = rw e (before_irrefl v)
        go (inr n) = absurd (Memᴰ.not-nil n)
least_is v (u ∷ l) = go (before u v) refl (least_is u l) (least_is v l)
  where
    Least : List ℕ → Option (List ℕ) → List (List ℕ) → Type 0
    Least x r k = (w : List ℕ) × (r ≡ some w) × Memᴰ w k × ((y : List ℕ) → Memᴰ y k → before y w ≡ false)

    go : (b : Bool) → before u v ≡ b → Least u (least_of (some u) l) (u ∷ l) → Least v (least_of (some v) l) (v ∷ l) →
        Least v (least_of (cond b (some u) (some v)) l) (v ∷ (u ∷ l))
    go true e (w, r, m, least) other = (w, r, Memᴰ.tail m, λ x n. at x (Memᴰ.cases_cons n))
      where
        at : (x : List ℕ) → (x ≡ v) ⊎ Memᴰ x (u ∷ l) → before x w ≡ false
        at x (inl q) = rw q (last (before v w) refl)
          where
            last : (b : Bool) → before v w ≡ b → b ≡ false
            last true h = absurd (before_asym v u (before_chain v w u h (least u (Memᴰ.head refl))) e)
            last false h = refl
        at x (inr n) = least x n
    go false e other (w, r, m, least) = (w, r, front (Memᴰ.cases_cons m), λ x n. at x (Memᴰ.cases_cons n))
      where
        front : (w ≡ v) ⊎ Memᴰ w l → Memᴰ w (v ∷ (u ∷ l))
        front (inl q) = Memᴰ.head q
        front (inr n) = Memᴰ.tail (Memᴰ.tail n)

        second : (b : Bool) → before u w ≡ b → b ≡ false
        second true h = absurd (true_not_false (sym (before_chain u w v h (least v (Memᴰ.head refl))) ∙ e))
        second false h = refl

        later : (x : List ℕ) → (x ≡ u) ⊎ Memᴰ x l → before x w ≡ false
        later x (inl q) = rw q (second (before u w) refl)
        later x (inr n) = least x (Memᴰ.tail n)

        at : (x : List ℕ) → (x ≡ v) ⊎ Memᴰ x (u ∷ l) → before x w ≡ false
        at x (inl q) = rw q (least v (Memᴰ.head refl))
        at x (inr n) = later x (Memᴰ.cases_cons n)
