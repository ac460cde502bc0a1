-- Laws of the spacings of children, piece by piece.
use Prim.Native.Nat.{ℕ, suc, ◌+◌, ◌-◌, ◌≤◌, ◌<◌}
use Rattle.std.proofs.Math.Numerals.{add-one}
use native.Mathlib.Omega.{arith}
use Rattle.std.specs.Prelude.{◌≡◌, ◌⊎◌, drop, set}
use Rattle.std.proofs.Math.Path.{refl, sym, ap}
use Rattle.std.proofs.Common.{◌∙◌, inl, inr, length-append, length-drop, drop_of_length-le, drop-cons, take-suc, take-suc-set}
use Rattle.std.proofs.Common.{length-take-le, get_or-take, get_or-drop, get_or-append-add, le-leb}
use mathlib.Core.List.{List, ◌∷◌, ◌++◌}
use Rattle.std.proofs.Math.ListN.{length, get_or, take, get_or-append}
use Rattle.std.proofs.Math.Seq.{append_snoc}
use Rattle.std.proofs.lemmas.Bool.{lt-leb}
use Rattle.word.specs.ListLaws.{below_or_not, same_or_not}
use Rattle.cell.specs.Cell.{total}
use Rattle.cell.specs.Child.{slot, split}
use Rattle.count_plain.specs.Pieces.{split_at, HeldAt}

-- Which component holds the s-th value

-- the walk: the components before i end before it, and l is its number among what is left
pub record Walk (g : List ℕ) (k s i l : ℕ) : Type 0 where
  pub reach : i ≤ k
  pub low : 1 ≤ l
  pub high : l ≤ total (drop i g)
  pub slot_is : slot g s ≡ i + slot (drop i g) l
  pub split_is : split g s ≡ take i g ++ split (drop i g) l

pub walk_start : (g : List ℕ) (k s : ℕ) → 1 ≤ s → s ≤ total g → Walk g k s 0 s
walk_start g k s h m = record { reach = omega arith; low = h; high = m; slot_is = omega arith; split_is = refl }

module _ (g : List ℕ) (k s i l : ℕ) (size : length g ≡ suc k) (w : Walk g k s i l) where
  cut : drop i g ≡ get_or g i 0 ∷ drop (suc i) g
  cut = drop-cons g i 0 (omega (arith, w.reach))

  pub walk_more : (x : ℕ) → x ≡ get_or g i 0 → x < l → i < k → Walk g k s (i + 1) (l - x)
  unfolding slot split total
  walk_more x e h r =
      let b : get_or g i 0 < l = omega arith in
      let i1 : i + 1 ≡ suc i = omega arith in
      let q : l - get_or g i 0 ≡ l - x = omega arith in
      let sl : slot (drop i g) l ≡ suc (slot (drop (suc i) g) (l - x)) =
      ap (λ (u : List ℕ). slot u l) cut ∙ rw (lt-leb l (get_or g i 0) b, q) refl in
      let sp : split (drop i g) l ≡ get_or g i 0 ∷ split (drop (suc i) g) (l - x) =
      ap (λ (u : List ℕ). split u l) cut ∙ rw (lt-leb l (get_or g i 0) b, q) refl in
      record {
        reach = omega arith;
        low = omega arith;
        high = rw i1 (omega (arith, w.high, ap total cut));
        slot_is = rw i1 (omega (arith, w.slot_is, sl));
        split_is = w.split_is ∙ ap (λ (u : List ℕ). take i g ++ u) sp ∙ snoc (split (drop (suc i) g) (l - x)) ∙
            rw i1 refl;
      }
    where
      snoc : (r : List ℕ) → take i g ++ (get_or g i 0 ∷ r) ≡ take (suc i) g ++ r
      snoc r = sym (append_snoc (take i g) (get_or g i 0) r) ∙ ap (λ (u : List ℕ). u ++ r) (sym (take-suc g i 0 (omega (arith, w.reach))))

  pub walk_end : (x : ℕ) → x ≡ get_or g i 0 → l ≤ x → HeldAt g k s i l
  unfolding slot split
  walk_end x e h =
      let b : l ≤ get_or g i 0 = omega arith in
      record {
        reach = w.reach;
        low = w.low;
        high = b;
        slot_is = w.slot_is ∙ ap (λ n. i + n) (ap (λ (u : List ℕ). slot u l) cut ∙ rw (le-leb l (get_or g i 0) b) refl) ∙ add-one i;
        split_is = w.split_is ∙ ap (λ (u : List ℕ). take i g ++ u)
            (ap (λ (u : List ℕ). split u l) cut ∙ rw (le-leb l (get_or g i 0) b) refl);
      }

  -- the last component holds what is left
  pub walk_last : k ≤ i → l ≤ get_or g i 0
  unfolding total
  walk_last h =
      let ended : length g ≤ suc i = omega arith in
      let none : total (drop (suc i) g) ≡ 0 = ap total (drop_of_length-le g ended) in
      omega (arith, w.high, ap total cut, none)

-- Pieces by their index

pub split_length : (g : List ℕ) (i l : ℕ) → i < length g → length (split_at g i l) ≡ suc (length g)
split_length g i l h =
    omega (
      arith,
      length-append (take i g) ((l - 1) ∷ ((get_or g i 0 - l) ∷ drop (suc i) g)),
      length-take-le i g (omega arith),
      length-drop (suc i) g,
    )

module _ (g : List ℕ) (i : ℕ) (h : i ≤ length g) (u : List ℕ) where
  size : length (take i g) ≡ i
  size = length-take-le i g h

  front : (j : ℕ) → j < i → get_or (take i g ++ u) j 0 ≡ get_or g j 0
  front j k = get_or-append (take i g) u 0 j (omega (arith, size)) ∙ get_or-take i g j 0 k

  back : (j : ℕ) → i ≤ j → get_or (take i g ++ u) j 0 ≡ get_or u (j - i) 0
  back j k =
      let q : j ≡ length (take i g) + (j - i) = omega (arith, size) in
      ap (λ m. get_or (take i g ++ u) m 0) q ∙ get_or-append-add (take i g) u (j - i) 0

module _ (g : List ℕ) (i l : ℕ) (h : i < length g) where
  pub split_before : (j : ℕ) → j < i → get_or (split_at g i l) j 0 ≡ get_or g j 0
  split_before j k = front g i (omega arith) ((l - 1) ∷ ((get_or g i 0 - l) ∷ drop (suc i) g)) j k

  pub split_low : (j : ℕ) → j ≡ i → get_or (split_at g i l) j 0 ≡ l - 1
  split_low j q =
      let z : j - i ≡ 0 = omega arith in
      back g i (omega arith) ((l - 1) ∷ ((get_or g i 0 - l) ∷ drop (suc i) g)) j (omega arith) ∙ rw z refl

  pub split_high : (j : ℕ) → j ≡ suc i → get_or (split_at g i l) j 0 ≡ get_or g i 0 - l
  split_high j q =
      let z : j - i ≡ 1 = omega arith in
      back g i (omega arith) ((l - 1) ∷ ((get_or g i 0 - l) ∷ drop (suc i) g)) j (omega arith) ∙ rw z refl

  pub split_after : (j : ℕ) → suc i < j → get_or (split_at g i l) j 0 ≡ get_or g (j - 1) 0
  split_after j k =
      let z : j - i ≡ suc (suc (j - i - 2)) = omega arith in
      let m : suc i + (j - i - 2) ≡ j - 1 = omega arith in
      back g i (omega arith) ((l - 1) ∷ ((get_or g i 0 - l) ∷ drop (suc i) g)) j (omega arith) ∙
      rw z (get_or-drop (suc i) g (j - i - 2) 0 ∙ ap (λ n. get_or g n 0) m)

-- one piece more of a list
pub more : (r u : List ℕ) (j x : ℕ) → j < length r → j < length u → x ≡ get_or u j 0 → take j r ≡ take j u →
    take (j + 1) (set r j x) ≡ take (j + 1) u
more r u j x a b e q = rw (add-one, take-suc-set r j x a, take-suc u j 0 b, q, e) refl

-- the pieces of the first k + 1 components are those of the whole array

module _ (g : List ℕ) (k : ℕ) (fits : k + 1 ≤ length g) where
  long : length (take (k + 1) g) ≡ k + 1
  long = length-take-le (k + 1) g fits

  part : (j : ℕ) → j ≤ k → get_or (take (k + 1) g) j 0 ≡ get_or g j 0
  part j h = get_or-take (k + 1) g j 0 (omega arith)

  pub split_take : (i l j : ℕ) → i ≤ k → j ≤ k + 1 → get_or (split_at g i l) j 0 ≡ get_or (split_at (take (k + 1) g) i l) j 0
  split_take i l j h m = go (below_or_not j i) (same_or_not j i) (same_or_not j (suc i))
    where
      go : (j < i) ⊎ (i ≤ j) → (j ≡ i) ⊎ (j ≡ i → ⊥) → (j ≡ suc i) ⊎ (j ≡ suc i → ⊥) →
          get_or (split_at g i l) j 0 ≡ get_or (split_at (take (k + 1) g) i l) j 0
      go (inl a) b c = split_before g i l (omega arith) j a ∙ sym (part j (omega arith)) ∙
          sym (split_before (take (k + 1) g) i l (omega (arith, long)) j a)
      go (inr a) (inl b) c = split_low g i l (omega arith) j b ∙ sym (split_low (take (k + 1) g) i l (omega (arith, long)) j b)
      go (inr a) (inr b) (inl c) =
          split_high g i l (omega arith) j c ∙ ap (λ n. n - l) (sym (part i h)) ∙
          sym (split_high (take (k + 1) g) i l (omega (arith, long)) j c)
      go (inr a) (inr b) (inr c) =
          let d : suc i < j = omega arith in
          split_after g i l (omega arith) j d ∙ sym (part (j - 1) (omega arith)) ∙
          sym (split_after (take (k + 1) g) i l (omega (arith, long)) j d)
