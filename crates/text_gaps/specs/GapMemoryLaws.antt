-- Laws of the gap vectors of a list in memory: the places and the width of each that is kept.
-- Assumes nothing.
use Rattle.std.specs.Prelude.{ℕ, zero, suc, ◌+◌, ◌*◌, ◌≤◌, ◌<◌, ◌≡◌, Bool, cond, length, get_or, take, drop}
use Rattle.std.proofs.Common.{zero-add, suc-add, zero-mul, suc-mul, arith, ap, ◌∙◌, take_at, le-leb}
use Rattle.std.proofs.Math.Path.{refl}
use mathlib.Core.List.{List, [], ◌∷◌, ◌++◌, map}
use Rattle.std.proofs.Math.ListN.{length-map, get_or-map}
use Rattle.std.proofs.Math.Seq.{drop-append-add}
use Rattle.std.proofs.lemmas.Bool.{lt-leb}
use Rattle.word.specs.Ceilings.{COMPONENTS, GAPS, PARTS}
use Rattle.word.specs.Lists.{each}
use Rattle.forms.specs.SchemeMemory.{parts_at}
use Rattle.text_patterns.specs.PatternMemory.{filled}
use Rattle.text_patterns.specs.PatternLoading.{filled_at}
use Rattle.text_patterns.proofs.FilledLaws.{length_filled}
use Rattle.text_gaps.specs.GapMemory.{part_of, parts_of, parts_of_all, widths_of}

-- a component, or a number of components, as a byte
pub part_same : (n : ℕ) → n ≤ 255 → part_of n ≡ n
part_same n h = ap (λ (b : Bool). cond b n 255) (le-leb n 255 h)

pub part_most : (n : ℕ) → 255 < n → part_of n ≡ 255
part_most n h = ap (λ (b : Bool). cond b n 255) (lt-leb n 255 h)

module _ {A : Type 0} (z : A) where
  filled_append : (xs l : List A) (n : ℕ) → filled (length xs + n) z (xs ++ l) ≡ xs ++ filled n z l
  filled_append [] l n = rw (zero-add n) refl
  filled_append (x ∷ xs) l n = rw (suc-add (length xs) n) (ap (λ (r : List A). x ∷ r) (filled_append xs l n))

  -- lists of one length, one after the other, in an array with room for m of them
  module _ {B : Type 0} (f : B → List A) (c : ℕ) (sized : (x : B) → length (f x) ≡ c) where
    block_at : (m : ℕ) (l : List B) (j n at : ℕ) (d : B) → n ≡ m * c → at ≡ j * c → j < length l → j < m →
        take c (drop at (filled n z (each f l))) ≡ f (get_or l j d)
    block_at zero l j n at d e q h k = absurd (omega arith)
    block_at (suc m) [] j n at d e q h k = absurd (omega arith)
    block_at (suc m) (x ∷ l) zero n at d e q h k =
        let room : n ≡ length (f x) + m * c = omega (arith, suc-mul m c, sized x) in
        let start : at ≡ 0 = omega (arith, zero-mul c) in
        rw (room, start, filled_append (f x) (each f l) (m * c)) (take_at (f x) (filled (m * c) z (each f l)) c (sized x))
    block_at (suc m) (x ∷ l) (suc j) n at d e q h k =
        let room : n ≡ length (f x) + m * c = omega (arith, suc-mul m c, sized x) in
        let start : at ≡ length (f x) + j * c = omega (arith, suc-mul j c, sized x) in
        rw (room, start, filled_append (f x) (each f l) (m * c), drop-append-add (f x) (filled (m * c) z (each f l)) (j * c))
        (block_at m l j (m * c) (j * c) d refl refl (omega arith) (omega arith))

module _ (B : List (List ℕ)) (j : ℕ) (h : j < length B) (k : j < GAPS) where
  pub kept_parts : parts_at (parts_of_all B) j ≡ parts_of (get_or B j [])
  unfolding parts_of_all
  kept_parts =
      block_at 0 parts_of COMPONENTS (λ (b : List ℕ). length_filled COMPONENTS 0 (map part_of b)) GAPS B j PARTS
      (COMPONENTS * j) [] refl (omega arith) h k

  pub kept_width : get_or (widths_of B) j 0 ≡ part_of (length (get_or B j []))
  unfolding widths_of
  kept_width =
      filled_at 0 0 GAPS (map (λ (b : List ℕ). part_of (length b)) B) j (omega (arith, length-map B (λ (b : List ℕ). part_of (length b)))) k
      ∙ get_or-map (λ (b : List ℕ). part_of (length b)) B j []
