-- A cell is the list of the built words that avoid the patterns, one for each rest, in the order of
-- the rests.
use Rattle.std.specs.Prelude.{ℕ, suc, ◌+◌, ◌≤◌, ◌≡◌, refl, ◌⊎◌, Bool, true, false, ◌&&◌, cond, length, take, drop, eqb}
use Rattle.std.proofs.Common.{arith, sym, ap, ap₂, ◌∙◌, inl, inr, length-take-le, eqb-true, eq-eqb}
use Rattle.std.proofs.lemmas.Bool.{false≢true}
use mathlib.Core.List.{List, [], ◌∷◌, map, Memᴰ}
use Rattle.std.proofs.lemmas.List.{length-map}
use Rattle.word.specs.Lists.{all, keep}
use Rattle.word.specs.Word.{avoids, reduce, is_perm, perms, before}
use Rattle.word.specs.ListLaws.{and_left, and_right, and_in, all_out, keep_out, keep_in}
use Rattle.word.specs.CopyLaws.{before_irrefl}
use Rattle.word.specs.FirstLaws.{before_asym}
use Rattle.word.specs.Vocabulary.{factorial}
use Rattle.word.specs.PermLaws.{perms_are, perms_all, perm_reduce, length_perms}
use Rattle.word.specs.AscendLaws.{ascends, ascends_map, ascends_keep, perms_ascend}
use Rattle.cell.specs.Basis.{same}
use Rattle.cell.specs.Cell.{total, spacing, in_cell, cell}
use Rattle.cell.specs.Built.{built}
use Rattle.cell.proofs.SpacingLaws.{length_spacing}
use Rattle.cell.proofs.BuiltWords.{perm_parts, built_length, built_perm, built_prefix, built_reduces, built_spacing}
use Rattle.cell.proofs.BuiltWords.{rest_perm, rest_length, built_onto, built_before}

-- two ascending lists with the same members are the same

-- every later word of an ascending list comes after the first
ascends_after : (u : List ℕ) (k : List (List ℕ)) {w : List ℕ} → ascends (u ∷ k) ≡ true → Memᴰ w k → before u w ≡ true
unfolding ascends
ascends_after u k a m = all_out (before u) m (and_left (all (before u) k) (ascends k) a)

ascends_rest : (u : List ℕ) (k : List (List ℕ)) → ascends (u ∷ k) ≡ true → ascends k ≡ true
unfolding ascends
ascends_rest u k a = and_right (all (before u) k) (ascends k) a

-- the members behind the first word
ascends_tail : (u v : List ℕ) (k l : List (List ℕ)) → ascends (u ∷ k) ≡ true → u ≡ v →
    ((w : List ℕ) → Memᴰ w (u ∷ k) → Memᴰ w (v ∷ l)) →
    (w : List ℕ) → Memᴰ w k → Memᴰ w l
ascends_tail u v k l a e f w m = go (mathlib.Core.List.Memᴰ.cases_cons (f w (mathlib.Core.List.Memᴰ.tail m)))
  where
    go : (w ≡ v) ⊎ Memᴰ w l → Memᴰ w l
    go (inl q) = absurd (false≢true (sym (before_irrefl u) ∙ ap (before u) (e ∙ sym q) ∙ ascends_after u k a m))
    go (inr n) = n

pub ascends_same : (k l : List (List ℕ)) → ascends k ≡ true → ascends l ≡ true → ((w : List ℕ) → Memᴰ w k → Memᴰ w l) →
    ((w : List ℕ) → Memᴰ w l → Memᴰ w k) → k ≡ l
ascends_same [] [] a b f g = refl
ascends_same [] (v ∷ l) a b f g = absurd (mathlib.Core.List.Memᴰ.not-nil (g v (mathlib.Core.List.Memᴰ.head refl)))
ascends_same (u ∷ k) [] a b f g = absurd (mathlib.Core.List.Memᴰ.not-nil (f u (mathlib.Core.List.Memᴰ.head refl)))
ascends_same (u ∷ k) (v ∷ l) a b f g =
    let e : u ≡ v = heads (mathlib.Core.List.Memᴰ.cases_cons (f u (mathlib.Core.List.Memᴰ.head refl)))
    (mathlib.Core.List.Memᴰ.cases_cons (g v (mathlib.Core.List.Memᴰ.head refl))) in
    ap₂ ◌∷◌ e (ascends_same k l (ascends_rest u k a) (ascends_rest v l b) (ascends_tail u v k l a e f) (ascends_tail v u l k b (sym e) g))
  where
    heads : (u ≡ v) ⊎ Memᴰ u l → (v ≡ u) ⊎ Memᴰ v k → u ≡ v
    heads (inl e) q = e
    heads (inr m) (inl e) = sym e
    heads (inr m) (inr n) = absurd (before_asym u v (ascends_after u k a n) (ascends_after v l b m))

-- the test same is equality

pub same_out : (u v : List ℕ) → same u v ≡ true → u ≡ v
unfolding same
same_out [] [] h = refl
same_out [] (y ∷ v) h = absurd (false≢true h)
same_out (x ∷ u) [] h = absurd (false≢true h)
same_out (x ∷ u) (y ∷ v) h = ap₂ ◌∷◌ (eqb-true x y (and_left (eqb x y) (same u v) h)) (same_out u v (and_right (eqb x y) (same u v) h))

pub same_refl : (u : List ℕ) → same u u ≡ true
unfolding same
same_refl [] = refl
same_refl (x ∷ u) = and_in (eqb x x) (same u u) (eq-eqb x x refl) (same_refl u)

pub same_in : (u v : List ℕ) → u ≡ v → same u v ≡ true
same_in u v e = ap (same u) (sym e) ∙ same_refl u

-- what is known of a word of a cell
pub record InCell (P : List (List ℕ)) (p g w : List ℕ) : Type 0 where
  pub perm : is_perm w ≡ true
  pub size : length w ≡ length p + total g
  pub avoiding : avoids P w ≡ true
  pub prefix : reduce (take (length p) w) ≡ p
  pub spaced : spacing (length w) (take (length p) w) ≡ g

pub cell_are : (P : List (List ℕ)) (p g : List ℕ) {w : List ℕ} → Memᴰ w (cell P p g) → InCell P p g w
unfolding cell
cell_are P p g {w} m =
    let (k, e) = keep_out (in_cell P p g) (perms (length p + total g)) m in
    let (perm, size) = perms_are (length p + total g) k in
    let a : Bool = avoids P w in
    let b : Bool = same (reduce (take (length p) w)) p in
    let c : Bool = same (spacing (length w) (take (length p) w)) g in
    record {
      perm = perm;
      size = size;
      avoiding = and_left a (b && c) e;
      prefix = same_out (reduce (take (length p) w)) p (and_left b c (and_right a (b && c) e));
      spaced = same_out (spacing (length w) (take (length p) w)) g (and_right b c (and_right a (b && c) e));
    }

pub cell_all : (P : List (List ℕ)) (p g w : List ℕ) → InCell P p g w → Memᴰ w (cell P p g)
unfolding cell
cell_all P p g w i =
    let a : Bool = avoids P w in
    let b : Bool = same (reduce (take (length p) w)) p in
    let c : Bool = same (spacing (length w) (take (length p) w)) g in
    keep_in (in_cell P p g) (perms_all (length p + total g) w i.perm i.size)
    (and_in a (b && c) i.avoiding
    (and_in b c (same_in (reduce (take (length p) w)) p i.prefix) (same_in (spacing (length w) (take (length p) w)) g i.spaced)))

pub cell_ascends : (P : List (List ℕ)) (p g : List ℕ) → ascends (cell P p g) ≡ true
unfolding cell
cell_ascends P p g = ascends_keep (in_cell P p g) (perms (length p + total g)) (perms_ascend (length p + total g))

-- only a permutation with a spacing of its width has words in its cell

pub cell_perm : (P : List (List ℕ)) (p g : List ℕ) {w : List ℕ} → Memᴰ w (cell P p g) → is_perm p ≡ true
cell_perm P p g {w} m =
    let i = cell_are P p g m in
    ap is_perm (sym i.prefix) ∙ perm_reduce (take (length p) w) (perm_parts (length p) w i.perm).0

pub cell_wide : (P : List (List ℕ)) (p g : List ℕ) {w : List ℕ} → Memᴰ w (cell P p g) → length g ≡ suc (length p)
cell_wide P p g {w} m =
    let i = cell_are P p g m in
    ap length (sym i.spaced) ∙ length_spacing (length w) (take (length p) w) ∙ ap suc (length-take-le (length p) w (omega arith))

no_member : (l : List (List ℕ)) → ((w : List ℕ) → Memᴰ w l → ⊥) → l ≡ []
no_member [] h = refl
no_member (w ∷ l) h = absurd (h w (mathlib.Core.List.Memᴰ.head refl))

pub cell_width : (P : List (List ℕ)) (p g : List ℕ) → (length g ≡ suc (length p) → ⊥) → cell P p g ≡ []
cell_width P p g h = no_member (cell P p g) (λ (w : List ℕ) (m : Memᴰ w (cell P p g)). h (cell_wide P p g m))

-- a word of a cell is built from a rest, and a built word that avoids the patterns is in the cell

pub cell_out : (P : List (List ℕ)) (p g : List ℕ) {w : List ℕ} → Memᴰ w (cell P p g) →
    (σ : List ℕ) × Memᴰ σ (perms (total g)) × (avoids P (built p g σ) ≡ true) × (w ≡ built p g σ)
cell_out P p g {w} m =
    let i = cell_are P p g m in
    let e = cell_perm P p g m in
    let l = cell_wide P p g m in
    let q = built_onto p g w e i.perm i.size l i.prefix i.spaced in (
      reduce (drop (length p) w),
      perms_all (total g) (reduce (drop (length p) w)) (rest_perm p g w e i.perm i.size l i.prefix i.spaced)
          (rest_length p g w e i.perm i.size l i.prefix i.spaced),
      ap (avoids P) (sym q) ∙ i.avoiding,
      q,
    )

pub cell_in : (P : List (List ℕ)) (p g σ : List ℕ) → is_perm p ≡ true → length g ≡ suc (length p) → Memᴰ σ (perms (total g)) →
    avoids P (built p g σ) ≡ true → Memᴰ (built p g σ) (cell P p g)
cell_in P p g σ e l m a =
    let (f, t) = perms_are (total g) m in
    let size : length (built p g σ) ≡ length p + total g = built_length p g σ ∙ ap (λ (n : ℕ). length p + n) t in
    cell_all P p g (built p g σ) (record {
      perm = built_perm p g σ e l f t;
      size = size;
      avoiding = a;
      prefix = ap reduce (built_prefix p g σ) ∙ built_reduces p g e;
      spaced = ap₂ spacing size (built_prefix p g σ) ∙ built_spacing p g e l;
    })

-- a cell, as an equation of lists

pub cell_built : (P : List (List ℕ)) (p g : List ℕ) → is_perm p ≡ true → length g ≡ suc (length p) →
    cell P p g ≡ map (built p g) (keep (λ σ. avoids P (built p g σ)) (perms (total g)))
cell_built P p g e l = ascends_same (cell P p g) (map (built p g) rests) (cell_ascends P p g) up into back
  where
    rests : List (List ℕ)
    rests = keep (λ σ. avoids P (built p g σ)) (perms (total g))

    up : ascends (map (built p g) rests) ≡ true
    up = ascends_map (built p g) rests (built_before p g) ∙
        ascends_keep (λ σ. avoids P (built p g σ)) (perms (total g)) (perms_ascend (total g))

    into : (w : List ℕ) → Memᴰ w (cell P p g) → Memᴰ w (map (built p g) rests)
    into w m =
        let (σ, i, a, q) = cell_out P p g m in
        mathlib.Core.List.Memᴰ.cast q (mathlib.Core.List.Memᴰ.map (built p g) (keep_in (λ σ. avoids P (built p g σ)) i a))

    back : (w : List ℕ) → Memᴰ w (map (built p g) rests) → Memᴰ w (cell P p g)
    back w m =
        let (σ, i, q) = mathlib.Core.List.Memᴰ.of_map (built p g) rests m in
        let (k, a) = keep_out (λ σ. avoids P (built p g σ)) (perms (total g)) i in
        mathlib.Core.List.Memᴰ.cast (sym q) (cell_in P p g σ e l k a)

-- how many words a cell has

pub cell_size : (P : List (List ℕ)) (p g : List ℕ) → is_perm p ≡ true → length g ≡ suc (length p) →
    length (cell P p g) ≡ length (keep (λ σ. avoids P (built p g σ)) (perms (total g)))
cell_size P p g e l = ap length (cell_built P p g e l) ∙ length-map (keep (λ σ. avoids P (built p g σ)) (perms (total g))) (built p g)

length_keep : (f : List ℕ → Bool) (l : List (List ℕ)) → length (keep f l) ≤ length l
length_keep f [] = omega arith
length_keep f (w ∷ l) = go (f w) (length_keep f l)
  where
    go : (b : Bool) → length (keep f l) ≤ length l → length (cond b (w ∷ keep f l) (keep f l)) ≤ suc (length l)
    go true h = omega arith
    go false h = omega arith

pub cell_at_most : (P : List (List ℕ)) (p g : List ℕ) → length (cell P p g) ≤ factorial (total g)
cell_at_most P p g = go (cell P p g) refl
  where
    go : (l : List (List ℕ)) → cell P p g ≡ l → length l ≤ factorial (total g)
    go [] q = omega arith
    go (w ∷ l) q =
        let m : Memᴰ w (cell P p g) = rw q (mathlib.Core.List.Memᴰ.head refl) in
        let s = cell_size P p g (cell_perm P p g m) (cell_wide P p g m) in
        let t = length_keep (λ σ. avoids P (built p g σ)) (perms (total g)) in
        omega (arith, ap length q, length_perms (total g))
