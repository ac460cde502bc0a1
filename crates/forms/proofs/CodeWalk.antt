-- The walk that makes a code: from the last digit to the first.
-- Assumes nothing.
use Prim.Native.Nat.{ℕ, suc, ◌+◌, ◌*◌, ◌-◌, ◌≤◌, ◌<◌}
use native.Mathlib.Omega.{arith}
use mathlib.Core.Path.{◌≡◌, refl, ◌∙◌}
use mathlib.Core.List.{List, [], ◌∷◌}
use lib.ListN.{length, get_or, drop, drop_of_length-le, length-drop}
use lib.Seq.{drop-cons}
use Rattle.word.specs.Ceilings.{PREFIX}
use Rattle.forms.specs.Codes.{code_of, Bytes}
use Rattle.forms.specs.CodeLaws.{code_fits}

-- the digits from place j on are coded
pub record Coding (digits : List ℕ) (j code : ℕ) : Type 0 where
  pub inside : j ≤ length digits
  pub is : code ≡ code_of (drop j digits)
  pub bytes : Bytes (drop j digits)

module _ (digits : List ℕ) where
  pub coding_start : Coding digits (length digits) 1
  unfolding code_of
  coding_start =
      let none : drop (length digits) digits ≡ [] = drop_of_length-le digits {i = length digits} (omega arith) in
      record { inside = omega arith; is = rw none refl; bytes = rw none tt }

  module _ (j code : ℕ) (w : Coding digits j code) where
    pub coding_fits : length digits ≤ PREFIX → 0 < j → code < 2199023255552
    coding_fits h k = rw w.is (code_fits (drop j digits) w.bytes (omega (arith, length-drop j digits, w.inside)))

    pub coding_more : (d : ℕ) → 0 < j → d ≡ get_or digits (j - 1) 0 → d < 256 → Coding digits (j - 1) (code * 256 + d)
    unfolding code_of
    coding_more d k e small =
        let n : suc (j - 1) ≡ j = omega arith in
        let at : drop (j - 1) digits ≡ d ∷ drop j digits =
        drop-cons digits (j - 1) 0 (omega (arith, w.inside)) ∙ rw (n, ← e) refl in
        record {
          inside = omega (arith, w.inside);
          is = rw at (omega (arith, w.is));
          bytes = rw at (small, w.bytes);
        }
