-- Figures added one after the other, and figures written one after the other.
-- Assumes nothing.
use Prim.Native.Nat.{ℕ, suc, ◌+◌, ◌-◌, min, ◌≤◌, ◌<◌}
use native.Mathlib.Nat.{add-zero}
use native.Mathlib.Numerals.{add-one}
use native.Mathlib.Omega.{arith}
use mathlib.Core.Path.{◌≡◌, refl, sym, ap, ap₂, ◌∙◌}
use mathlib.Core.Logic.{◌⊎◌, inl, inr}
use mathlib.Core.Bool.{Bool, true, false, cond}
use mathlib.Core.List.{List, [], ◌∷◌, ◌++◌, map, map-append}
use lib.ListN.{length, get_or, set, take, drop, length-map, length-take, length-drop, get_or-eq_default}
use lib.Seq.{get_or-set_same, get_or-set_other, get_or-take, get_or-drop, take_all, take-suc, length-take-le}
use lib.Dec.{leb}
use borrow.Author.Tests.{le-leb, lt-leb}
use Rattle.word.specs.ListLaws.{below_or_not, same_or_not}
use Rattle.text_page.specs.Page.{overlay}
use Rattle.text_page.specs.PageLaws.{overlay_none, overlay_join, overlay_one}
use Rattle.count_step.specs.Step.{capped}
use Rattle.count_figures.specs.Figures.{moved_at, spread_at}
use Rattle.count_figures.specs.Adding.{Adds}

-- numbers behind the end of a table are not there
pub take_within : (n from : ℕ) (T : List ℕ) → take (min n (length T - from)) (drop from T) ≡ take n (drop from T)
take_within n from T = go (below_or_not (length T - from) n)
  where
    go : (length T - from < n) ⊎ (n ≤ length T - from) → take (min n (length T - from)) (drop from T) ≡ take n (drop from T)
    go (inl h) =
        let m : length (drop from T) ≤ min n (length T - from) = omega (arith, length-drop from T) in
        let o : length (drop from T) ≤ n = omega (arith, length-drop from T) in
        take_all (min n (length T - from)) (drop from T) m ∙ sym (take_all n (drop from T) o)
    go (inr h) = let e : min n (length T - from) ≡ n = omega arith in rw e refl

-- no figures are moved
moved_none : (d q : ℕ) → moved_at d [] q ≡ 0
moved_none d q = go (leb d q)
  where
    go : (b : Bool) → ◌≡◌ {A = ℕ} (cond b (get_or [] (q - d) 0) 0) 0
    go true = refl
    go false = refl

pub adds_none : (before : List ℕ) (d from : ℕ) (T : List ℕ) → Adds before before (moved_at d (take 0 (drop from T)))
adds_none before d from T q z e = e ∙ ap capped (sym (add-zero z) ∙ ap (λ m. z + m) (sym (moved_none d q)))

-- one figure more
module _ (X : List ℕ) (i d : ℕ) where
  beside : (q : ℕ) → (q ≡ d + i → ⊥) → moved_at d (take (i + 1) X) q ≡ moved_at d (take i X) q
  beside q ne = go (below_or_not q d)
    where
      entry : (j : ℕ) → (j ≡ i → ⊥) → (j < i) ⊎ (i ≤ j) → get_or (take (i + 1) X) j 0 ≡ get_or (take i X) j 0
      entry j ne (inl h) = get_or-take (i + 1) X j 0 (omega arith) ∙ sym (get_or-take i X j 0 h)
      entry j ne (inr h) =
          get_or-eq_default (take (i + 1) X) 0 {n = j} (omega (arith, length-take (i + 1) X)) ∙
          sym (get_or-eq_default (take i X) 0 {n = j} (omega (arith, length-take i X)))

      go : (q < d) ⊎ (d ≤ q) → moved_at d (take (i + 1) X) q ≡ moved_at d (take i X) q
      go (inl h) = rw (lt-leb d q h) refl
      go (inr h) = rw (le-leb d q h) (entry (q - d) (λ (e : q - d ≡ i). ne (omega arith)) (below_or_not (q - d) i))

  there_before : moved_at d (take i X) (d + i) ≡ 0
  there_before =
      let e : d + i - d ≡ i = omega arith in
      rw (le-leb d (d + i) (omega arith), e) (get_or-eq_default (take i X) 0 {n = i} (omega (arith, length-take i X)))

  there_after : moved_at d (take (i + 1) X) (d + i) ≡ get_or X i 0
  there_after =
      let e : d + i - d ≡ i = omega arith in
      rw (le-leb d (d + i) (omega arith), e) (get_or-take (i + 1) X i 0 (omega arith))

pub adds_more : (before now : List ℕ) (T : List ℕ) (from d i x : ℕ) → Adds before now (moved_at d (take i (drop from T))) →
    d + i < length now → x ≡ capped (get_or now (d + i) 0 + get_or T (from + i) 0) →
    Adds before (set now (d + i) x) (moved_at d (take (i + 1) (drop from T)))
adds_more before now T from d i x a h e q z s = go (same_or_not q (d + i))
  where
    go : (q ≡ d + i) ⊎ (q ≡ d + i → ⊥) → get_or (set now (d + i) x) q 0 ≡ capped (z + moved_at d (take (i + 1) (drop from T)) q)
    go (inl p) =
        let was : get_or now (d + i) 0 ≡ capped z = ap (λ m. get_or now m 0) (sym p) ∙ a q z s ∙
        ap (λ m. capped (z + m)) (ap (moved_at d (take i (drop from T))) p ∙ there_before (drop from T) i d) ∙ ap capped (add-zero z) in
        let adds : moved_at d (take (i + 1) (drop from T)) q ≡ get_or T (from + i) 0 =
        ap (moved_at d (take (i + 1) (drop from T))) p ∙ there_after (drop from T) i d ∙ get_or-drop from T i 0 in
        ap (λ m. get_or (set now (d + i) x) m 0) p ∙ get_or-set_same now (d + i) x 0 h ∙ e ∙
        ap (λ m. capped (m + get_or T (from + i) 0)) was ∙ twice z (get_or T (from + i) 0) ∙ ap (λ m. capped (z + m)) (sym adds)
      where
        twice : (m n : ℕ) → capped (capped m + n) ≡ capped (m + n)
        twice m n = omega arith
    go (inr ne) =
        get_or-set_other now (d + i) q x 0 ne ∙ a q z s ∙ ap (λ m. capped (z + m)) (sym (beside (drop from T) i d q ne))

-- what is added in two parts
pub adds_both : (u v w : List ℕ) (f h : ℕ → ℕ) → Adds u v f → Adds v w h → Adds u w (λ q. f q + h q)
adds_both u v w f h a b q z e =
    let o : z + f q + h q ≡ z + (f q + h q) = omega arith in
    b q (z + f q) (a q z e) ∙ ap capped o

-- the same under another name
pub adds_as : (u v : List ℕ) (f h : ℕ → ℕ) → ((q : ℕ) → f q ≡ h q) → Adds u v f → Adds u v h
adds_as u v f h e a q z s = a q z s ∙ ap (λ m. capped (z + m)) (e q)

-- Cells whose figures are added one after the other; h gives the figures of the cell with an index

spread_append : (d : ℕ) (k l : List (List ℕ)) (q : ℕ) → spread_at d (k ++ l) q ≡ spread_at d k q + spread_at (d + length k) l q
unfolding spread_at
spread_append d [] l q = let e : d + 0 ≡ d = add-zero d in rw e (omega arith)
spread_append d (x ∷ k) l q =
    let e : suc d + length k ≡ d + suc (length k) = omega arith in
    omega (arith, spread_append (suc d) k l q, ap (λ m. spread_at m l q) e)

-- The figures F are those of before with the whole added, as soon as they are those of now with
-- what the cells l add from the place d on: what is left gives what the whole gives.
abbrev pub Left : (ℕ → List ℕ) → List ℕ → (ℕ → ℕ) → List ℕ → ℕ → List ℕ → Type 0
Left h before whole now d l = (F : List ℕ) → Adds now F (spread_at d (map h l)) → Adds before F whole

module _ (h : ℕ → List ℕ) (before : List ℕ) (whole : ℕ → ℕ) (now : List ℕ) (d : ℕ) where
  pub left_cell : (next : List ℕ) (i : ℕ) (l : List ℕ) → Adds now next (moved_at d (h i)) → Left h before whole now d (i ∷ l) →
      Left h before whole next (suc d) l
  unfolding spread_at
  left_cell next i l a left F b =
      left F (adds_both now next F (moved_at d (h i)) (spread_at (suc d) (map h l)) a b)

  pub left_part : (next : List ℕ) (k l : List ℕ) → Adds now next (spread_at d (map h k)) → Left h before whole now d (k ++ l) →
      Left h before whole next (d + length k) l
  left_part next k l a left F b =
      left F (adds_as now F (λ q. spread_at d (map h k) q + spread_at (d + length k) (map h l) q) (spread_at d (map h (k ++ l)))
      (λ q. sym (ap (λ (m : List (List ℕ)). spread_at d m q) (map-append h k l) ∙ spread_append d (map h k) (map h l) q ∙
      ap (λ m. spread_at d (map h k) q + spread_at (d + m) (map h l) q) (length-map k h)))
      (adds_both now next F (spread_at d (map h k)) (spread_at (d + length k) (map h l)) a b))

  pub left_end : Left h before whole now d [] → Adds before now whole
  unfolding spread_at
  left_end left = left now (λ q z e. e ∙ ap capped (sym (add-zero z)))

-- Figures written over the table: one more
pub put_none : (at : ℕ) (F T : List ℕ) → T ≡ overlay at (take 0 F) T
put_none at F T = sym (overlay_none at T)

pub put_more : (at i x : ℕ) (F T U : List ℕ) → i < length F → x ≡ get_or F i 0 → U ≡ overlay at (take i F) T →
    set U (at + i) x ≡ overlay at (take (i + 1) F) T
put_more at i x F T U h e u =
    let n : at + i ≡ at + length (take i F) = ap (λ m. at + m) (sym (length-take-le i F (omega arith))) in
    sym (overlay_one (at + i) x U) ∙
    ap₂ (λ (m : ℕ) (l : List ℕ). overlay m (x ∷ []) l) n u ∙
    overlay_join at (take i F) (x ∷ []) T ∙
    ap (λ (l : List ℕ). overlay at l T)
    (ap (λ y. take i F ++ (y ∷ [])) e ∙ sym (take-suc F i 0 h) ∙ ap (λ m. take m F) (sym (add-one i)))
