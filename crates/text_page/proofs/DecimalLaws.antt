-- Laws of the digits of a number.
use Rattle.std.specs.Prelude.{ℕ, zero, suc, ◌+◌, ◌*◌, ◌/◌, ◌%◌, ◌≤◌, ◌<◌, ◌≡◌, refl, List, [], ◌∷◌, ◌++◌, length}
use Rattle.std.proofs.Common.{arith, ap, ◌∙◌, length-append}
use Rattle.text_page.specs.Page.{Room}
use Rattle.text_page.specs.Decimal.{NUMERAL, digits_of, decimal}

abbrev last : ℕ → List ℕ
last n = (0x30 + n % 10) ∷ []

-- any f that is large enough gives the same digits
digits_same : (f g n : ℕ) → n ≤ f → n ≤ g → digits_of f n ≡ digits_of g n
unfolding digits_of
digits_same zero zero n h k = refl
digits_same zero (suc g) zero h k = refl
digits_same zero (suc g) (suc m) h k = absurd (omega arith)
digits_same (suc f) zero zero h k = refl
digits_same (suc f) zero (suc m) h k = absurd (omega arith)
digits_same (suc f) (suc g) zero h k = refl
digits_same (suc f) (suc g) (suc m) h k = ap (λ (l : List ℕ). l ++ last (suc m)) (digits_same f g (suc m / 10) (omega arith) (omega arith))

pub digits_none : (f : ℕ) → digits_of f 0 ≡ []
unfolding digits_of
digits_none zero = refl
digits_none (suc f) = refl

digits_decimal : (f n : ℕ) → 0 < n → n ≤ f → digits_of f n ≡ decimal n
unfolding digits_of decimal
digits_decimal zero n p h = absurd (omega arith)
digits_decimal (suc f) zero p h = absurd (omega arith)
digits_decimal (suc f) (suc m) p h = ap (λ (l : List ℕ). l ++ last (suc m)) (digits_same f (suc m) (suc m / 10) (omega arith) (omega arith))

-- one digit, and more
pub decimal_one : (n : ℕ) → n < 10 → decimal n ≡ (0x30 + n) ∷ []
unfolding decimal
decimal_one n h =
    let none : n / 10 ≡ 0 = omega arith in
    let same : n % 10 ≡ n = omega arith in
    rw (none, same, digits_none n) refl

parts : (n : ℕ) → decimal n ≡ digits_of n (n / 10) ++ last n
unfolding decimal
parts n = refl

pub decimal_more : (n : ℕ) → 10 ≤ n → decimal n ≡ decimal (n / 10) ++ ((0x30 + n % 10) ∷ [])
decimal_more n h = parts n ∙ ap (λ (l : List ℕ). l ++ last n) (digits_decimal n (n / 10) (omega arith) (omega arith))

-- there is a digit, and one more than ten times less has
pub decimal_some : (n : ℕ) → 1 ≤ length (decimal n)
decimal_some n = omega (arith, ap length (parts n), length-append (digits_of n (n / 10)) (last n))

pub decimal_longer : (n : ℕ) → 10 ≤ n → length (decimal n) ≡ length (decimal (n / 10)) + 1
decimal_longer n h = ap length (decimal_more n h) ∙ length-append (decimal (n / 10)) (last n)

abbrev pub ten_to : ℕ → ℕ
ten_to zero = 1
ten_to (suc k) = 10 * ten_to k

digits_few : (k f n : ℕ) → n < ten_to k → length (digits_of f n) ≤ k
unfolding digits_of
digits_few k zero n h = omega arith
digits_few k (suc f) zero h = omega arith
digits_few zero (suc f) (suc m) h = absurd (omega arith)
digits_few (suc k) (suc f) (suc m) h =
    let r = digits_few k f (suc m / 10) (omega arith) in
    rw (length-append (digits_of f (suc m / 10)) (last (suc m))) (omega arith)

-- a number below ten to the k has at most k digits
decimal_few : (k n : ℕ) → n < ten_to (suc k) → length (decimal n) ≤ suc k
unfolding decimal
decimal_few k n h =
    let r = digits_few k n (n / 10) (omega arith) in
    rw (length-append (digits_of n (n / 10)) (last n)) (omega arith)

pub decimal_two : (n : ℕ) → n < 100 → length (decimal n) ≤ 2
decimal_two n h = decimal_few 1 n h

-- so has a number of 64 bits
pub decimal_most : (n : ℕ) → n < 18446744073709551616 → length (decimal n) ≤ NUMERAL
decimal_most n h = decimal_few 19 n (omega arith)

-- room for a number of 64 bits
pub room_decimal : (n at : ℕ) → n < 18446744073709551616 → at ≤ 1000000 → Room (decimal n) at
room_decimal n at h k = record { fits = omega (arith, decimal_most n h) }
