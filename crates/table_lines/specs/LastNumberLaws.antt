-- Laws of the number that a line spells.
use Rattle.std.specs.Prelude.{ℕ, ◌+◌, ◌-◌, ◌*◌, ◌≤◌, ◌<◌, ◌≡◌, refl, Bool, true, false, List, [], ◌∷◌, length, take, get_or, eqb}
use Rattle.std.proofs.Common.{arith, le-leb, ne_eqb, eqb-true}
use Rattle.std.proofs.Math.Option.{none, some}
use Rattle.std.proofs.lemmas.Bool.{lt-leb, eqb-false}
use Rattle.table_lines.specs.Lines.{is_digit, number_in}

-- the first three bytes decide
pub number_front : (l : List ℕ) → number_in (take 3 l) ≡ number_in l
number_front [] = refl
number_front (a ∷ []) = refl
number_front (a ∷ b ∷ []) = refl
number_front (a ∷ b ∷ c ∷ l) = refl

pub digit : (a : ℕ) → 0x30 ≤ a → a ≤ 0x39 → is_digit a ≡ true
digit a h k = rw (le-leb 0x30 a h, le-leb a 0x39 k) refl

pub below_digits : (a : ℕ) → a < 0x30 → is_digit a ≡ false
below_digits a h = rw (lt-leb 0x30 a h) refl

pub above_digits : (a : ℕ) → 0x39 < a → is_digit a ≡ false
above_digits a h =
    let k : 0x30 ≤ a = omega arith in
    rw (le-leb 0x30 a k, lt-leb a 0x39 h) refl

-- one byte

pub one_spelt : (a : ℕ) → 0x30 ≤ a → a ≤ 0x39 → number_in (a ∷ []) ≡ some (a - 0x30)
one_spelt a h k = rw (digit a h k) refl

pub one_misspelt : (a : ℕ) → is_digit a ≡ false → number_in (a ∷ []) ≡ none
one_misspelt a e = rw e refl

-- two bytes

pub two_spelt : (a b : ℕ) → 0x30 < a → a ≤ 0x39 → 0x30 ≤ b → b ≤ 0x39 → number_in (a ∷ b ∷ []) ≡ some ((a - 0x30) * 10 + (b - 0x30))
two_spelt a b h k p q =
    let g : 0x30 ≤ a = omega arith in
    let z : eqb a 0x30 ≡ false = ne_eqb a 0x30 (λ (e : a ≡ 0x30). omega arith) in
    rw (digit a g k, z, digit b p q) refl

-- not begun by a digit
pub first_misspelt : (a b : ℕ) → is_digit a ≡ false → number_in (a ∷ b ∷ []) ≡ none
first_misspelt a b e = rw e refl

-- "no leading zero"
pub leading_zero : (a b : ℕ) → a ≤ 0x30 → number_in (a ∷ b ∷ []) ≡ none
leading_zero a b h = split (eqb a 0x30) refl
  where
    split : (c : Bool) → eqb a 0x30 ≡ c → number_in (a ∷ b ∷ []) ≡ none
    split true e = rw (eqb-true a 0x30 e) refl
    split false e = let k = eqb-false a 0x30 e in first_misspelt a b (below_digits a (omega arith))

pub second_misspelt : (a b : ℕ) → 0x30 < a → a ≤ 0x39 → is_digit b ≡ false → number_in (a ∷ b ∷ []) ≡ none
second_misspelt a b h k e =
    let g : 0x30 ≤ a = omega arith in
    let z : eqb a 0x30 ≡ false = ne_eqb a 0x30 (λ (e : a ≡ 0x30). omega arith) in
    rw (digit a g k, z, e) refl

-- from the bytes of a slice

pub slice_one : (l : List ℕ) → length l ≡ 1 → number_in (get_or l 0 0 ∷ []) ≡ number_in l
slice_one [] h = absurd (omega arith)
slice_one (a ∷ []) h = refl
slice_one (a ∷ b ∷ l) h = absurd (omega arith)

pub slice_two : (l : List ℕ) → length l ≡ 2 → number_in (get_or l 0 0 ∷ get_or l 1 0 ∷ []) ≡ number_in l
slice_two [] h = absurd (omega arith)
slice_two (a ∷ []) h = absurd (omega arith)
slice_two (a ∷ b ∷ []) h = refl
slice_two (a ∷ b ∷ c ∷ l) h = absurd (omega arith)

pub slice_other : (l : List ℕ) → (length l ≡ 1 → ⊥) → (length l ≡ 2 → ⊥) → none ≡ number_in l
slice_other [] p q = refl
slice_other (a ∷ []) p q = absurd (p refl)
slice_other (a ∷ b ∷ []) p q = absurd (q refl)
slice_other (a ∷ b ∷ c ∷ l) p q = refl
