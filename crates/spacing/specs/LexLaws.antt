-- `later v` lists exactly the vectors of the same length and total that come after v, in order. So
-- the next spacing is the next in lexicographic order, and where none is found, v is the last.
use Rattle.std.specs.Prelude.{ℕ, zero, suc, ◌+◌, ◌≤◌, ◌<◌, ◌≡◌, refl, ◌↔◌, ◌⊎◌, Bool, true, false, ◌&&◌, cond, length, ltb, eqb}
use Rattle.std.proofs.Common.{arith, sym, ap, ap₂, ◌∙◌, inl, inr, ltb-true, eqb-true}
use mathlib.Core.List.{List, [], ◌∷◌, ◌++◌, map, Memᴰ}
use Rattle.word.specs.Word.{before}
use Rattle.word.specs.Lists.{all}
use Rattle.word.specs.ListLaws.{below_or_not, true_not_false, and_left, and_right, all_out}
use Rattle.word.specs.CopyLaws.{before_cons}
use Rattle.word.specs.AscendLaws.{ascends, before_first, ascends_map, ascends_append}
use Rattle.cell.specs.Cell.{total, vectors}
use Rattle.cell.proofs.SpacingWalk.{vectors_are, vectors_all}
use Rattle.cell.proofs.ListedLaws.{vectors_ascend}
use Rattle.spacing.specs.Following.{above, later, Follows}

-- the vectors with a larger first component

above_are : (k x t : ℕ) {h : List ℕ} → Memᴰ h (above k x t) →
    (y : ℕ) × (g : List ℕ) × (h ≡ y ∷ g) × (x < y) × (length g ≡ k) × (y + total g ≡ x + t)
unfolding above
above_are k x zero m = absurd (mathlib.Core.List.Memᴰ.not-nil m)
above_are k x (suc t) {h} m = go (mathlib.Core.List.Memᴰ.append_cases (map (λ g. suc x ∷ g) (vectors k t)) m)
    (λ (i : Memᴰ h (above k (suc x) t)). above_are k (suc x) t i)
  where
    go : Memᴰ h (map (λ g. suc x ∷ g) (vectors k t)) ⊎ Memᴰ h (above k (suc x) t) →
        (Memᴰ h (above k (suc x) t) → (y : ℕ) × (g : List ℕ) × (h ≡ y ∷ g) × (suc x < y) × (length g ≡ k) ×
        (y + total g ≡ suc x + t)) →
        (y : ℕ) × (g : List ℕ) × (h ≡ y ∷ g) × (x < y) × (length g ≡ k) × (y + total g ≡ x + suc t)
    go (inl i) ih =
        let (g, j, q) = mathlib.Core.List.Memᴰ.of_map (λ (g : List ℕ). suc x ∷ g) (vectors k t) i in
        let (l, s) = vectors_are k t j in
        (suc x, g, sym q, omega arith, l, omega arith)
    go (inr i) ih = let (y, g, q, a, l, s) = ih i in (y, g, q, omega arith, l, omega arith)

above_all : (k x t y : ℕ) (g : List ℕ) → x < y → length g ≡ k → y + total g ≡ x + t → Memᴰ (y ∷ g) (above k x t)
unfolding above
above_all k x zero y g a l s = absurd (omega arith)
above_all k x (suc t) y g a l s = go (below_or_not (suc x) y) (λ (b : suc x < y). above_all k (suc x) t y g b l (omega arith))
  where
    go : (suc x < y) ⊎ (y ≤ suc x) → (suc x < y → Memᴰ (y ∷ g) (above k (suc x) t)) →
        Memᴰ (y ∷ g) (map (λ g. suc x ∷ g) (vectors k t) ++ above k (suc x) t)
    go (inl b) ih = mathlib.Core.List.Memᴰ.append_right (map (λ g. suc x ∷ g) (vectors k t)) (ih b)
    go (inr b) ih =
        let e : y ≡ suc x = omega arith in
        let u : total g ≡ t = omega arith in
        let there : Memᴰ g (vectors k t) = rw (← l, ← u) (vectors_all g) in
        let block : Memᴰ (y ∷ g) (map (λ g. suc x ∷ g) (vectors k t)) =
        rw e (mathlib.Core.List.Memᴰ.map (λ (g : List ℕ). suc x ∷ g) there) in
        mathlib.Core.List.Memᴰ.append_left (above k (suc x) t) block

above_ascend : (k x t : ℕ) → ascends (above k x t) ≡ true
unfolding above ascends
above_ascend k x zero = refl
above_ascend k x (suc t) =
    ascends_append (map (λ g. suc x ∷ g) (vectors k t)) (above k (suc x) t)
    (ascends_map (λ g. suc x ∷ g) (vectors k t) (λ u v. before_cons (suc x) u v) ∙ vectors_ascend k t) (above_ascend k (suc x) t)
    (λ (u v : List ℕ) (i : Memᴰ u (map (λ g. suc x ∷ g) (vectors k t))) (j : Memᴰ v (above k (suc x) t)).
    let (g, m, p) = mathlib.Core.List.Memᴰ.of_map (λ (g : List ℕ). suc x ∷ g) (vectors k t) i in
    let (y, h, q, a, l, s) = above_are k (suc x) t j in
    ap₂ before (sym p) q ∙ before_first (suc x) y g h a)

-- the vectors that come after v

pub later_are : (v : List ℕ) {h : List ℕ} → Memᴰ h (later v) → (length h ≡ length v) × (total h ≡ total v) × (before v h ≡ true)
unfolding later total
later_are [] m = absurd (mathlib.Core.List.Memᴰ.not-nil m)
later_are (x ∷ v) {h} m = go (mathlib.Core.List.Memᴰ.append_cases (map (λ g. x ∷ g) (later v)) m)
    (λ (g : List ℕ) (i : Memᴰ g (later v)). later_are v i)
  where
    go : Memᴰ h (map (λ g. x ∷ g) (later v)) ⊎ Memᴰ h (above (length v) x (total v)) →
        ((g : List ℕ) → Memᴰ g (later v) → (length g ≡ length v) × (total g ≡ total v) × (before v g ≡ true)) →
        (length h ≡ suc (length v)) × (total h ≡ x + total v) × (before (x ∷ v) h ≡ true)
    go (inl i) ih =
        let (g, j, q) = mathlib.Core.List.Memᴰ.of_map (λ (g : List ℕ). x ∷ g) (later v) i in
        let (l, s, b) = ih g j in
        (ap length (sym q) ∙ ap suc l, ap total (sym q) ∙ ap (λ n. x + n) s, ap (before (x ∷ v)) (sym q) ∙ before_cons x v g ∙ b)
    go (inr i) ih =
        let (y, g, q, a, l, s) = above_are (length v) x (total v) i in
        (ap length q ∙ ap suc l, ap total q ∙ s, ap (before (x ∷ v)) q ∙ before_first x y v g a)

pub later_all : (v h : List ℕ) → length h ≡ length v → total h ≡ total v → before v h ≡ true → Memᴰ h (later v)
unfolding later total before
later_all [] [] l s b = absurd (true_not_false (sym b))
later_all [] (y ∷ h) l s b = absurd (omega arith)
later_all (x ∷ v) [] l s b = absurd (omega arith)
later_all (x ∷ v) (y ∷ h) l s b = go (ltb x y) refl b (later_all v h (omega arith))
  where
    go : (c : Bool) → ltb x y ≡ c → cond c true (eqb x y && before v h) ≡ true →
        (total h ≡ total v → before v h ≡ true → Memᴰ h (later v)) →
        Memᴰ (y ∷ h) (map (λ g. x ∷ g) (later v) ++ above (length v) x (total v))
    go true c b ih =
        mathlib.Core.List.Memᴰ.append_right (map (λ g. x ∷ g) (later v))
        (above_all (length v) x (total v) y h (ltb-true x y c) (omega arith) (omega arith))
    go false c b ih =
        let e : x ≡ y = eqb-true x y (and_left (eqb x y) (before v h) b) in
        let block : Memᴰ (y ∷ h) (map (λ g. x ∷ g) (later v)) =
        rw (← e) (mathlib.Core.List.Memᴰ.map (λ (g : List ℕ). x ∷ g) (ih (omega arith) (and_right (eqb x y) (before v h) b))) in
        mathlib.Core.List.Memᴰ.append_left (above (length v) x (total v)) block

pub later_ascend : (v : List ℕ) → ascends (later v) ≡ true
unfolding later ascends
later_ascend [] = refl
later_ascend (x ∷ v) =
    ascends_append (map (λ g. x ∷ g) (later v)) (above (length v) x (total v))
    (ascends_map (λ g. x ∷ g) (later v) (λ u w. before_cons x u w) ∙ later_ascend v) (above_ascend (length v) x (total v))
    (λ (u w : List ℕ) (i : Memᴰ u (map (λ g. x ∷ g) (later v))) (j : Memᴰ w (above (length v) x (total v))).
    let (g, m, p) = mathlib.Core.List.Memᴰ.of_map (λ (g : List ℕ). x ∷ g) (later v) i in
    let (y, h, q, a, l, s) = above_are (length v) x (total v) j in
    ap₂ before (sym p) q ∙ before_first x y g h a)

-- The next spacing comes after v, and before every other spacing of the same length and total that
-- comes after v.
pub next_first : (v n : List ℕ) → Follows v true n → (before v n ≡ true) ×
    ((h : List ℕ) → length h ≡ length v → total h ≡ total v → before v h ≡ true → (h ≡ n) ⊎ (before n h ≡ true))
unfolding ascends
next_first v n f = (
  (let m : Memᴰ n (later v) = rw f.rest (mathlib.Core.List.Memᴰ.head refl) in (later_are v m).2),
  λ (h : List ℕ) (l : length h ≡ length v) (s : total h ≡ total v) (b : before v h ≡ true).
      let m : Memᴰ h (n ∷ later n) = rw f.rest at (later_all v h l s b) in
      go h (mathlib.Core.List.Memᴰ.cases_cons m),
)
  where
    up : ascends (n ∷ later n) ≡ true
    up = rw f.rest at (later_ascend v)

    go : (h : List ℕ) → (h ≡ n) ⊎ Memᴰ h (later n) → (h ≡ n) ⊎ (before n h ≡ true)
    go h (inl e) = inl e
    go h (inr m) = inr (all_out (before n) m (and_left (all (before n) (later n)) (ascends (later n)) up))

-- None is found exactly if v is the last of its length and total.
pub last_exactly : (v n : List ℕ) (found : Bool) → Follows v found n →
    (found ≡ false) ↔ ((h : List ℕ) → length h ≡ length v → total h ≡ total v → before v h ≡ true → ⊥)
last_exactly v n true f = (
  λ (e : true ≡ false). absurd (true_not_false e),
  λ (none : (h : List ℕ) → length h ≡ length v → total h ≡ total v → before v h ≡ true → ⊥).
      let m : Memᴰ n (later v) = rw f.rest (mathlib.Core.List.Memᴰ.head refl) in
      let (l, s, b) = later_are v m in
      absurd (none n l s b),
)
last_exactly v n false f = (
  λ (e : false ≡ false) (h : List ℕ) (l : length h ≡ length v) (s : total h ≡ total v) (b : before v h ≡ true).
      mathlib.Core.List.Memᴰ.not-nil (rw f.rest at (later_all v h l s b)),
  λ (none : (h : List ℕ) → length h ≡ length v → total h ≡ total v → before v h ≡ true → ⊥). refl,
)
