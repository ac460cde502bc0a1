-- The printed number denotes the number: its digits, in base ten and without a leading zero.
use Rattle.std.specs.Prelude.{ℕ, zero, suc, ◌+◌, ◌-◌, ◌*◌, ◌/◌, ◌%◌, ◌≤◌, ◌<◌, ◌≡◌, refl, true, List, [], ◌∷◌, ◌++◌, length, get_or}
use Rattle.std.proofs.Common.{arith, ap, ◌∙◌, le-leb}
use Rattle.word.specs.Lists.{all}
use Rattle.word.specs.ListLaws.{all_append}
use Rattle.text_page.specs.Decimal.{digits_of, decimal}
use Rattle.text_page.proofs.DecimalLaws.{digits_none}
use Rattle.text_page.specs.Numeral.{is_digit, denotes_after, denotes}

abbrev last : ℕ → List ℕ
last n = (0x30 + n % 10) ∷ []

-- one digit more

after_last : (m n : ℕ) (l : List ℕ) → denotes_after m (l ++ last n) ≡ denotes_after m l * 10 + n % 10
after_last m n [] = omega arith
after_last m n (b ∷ l) = after_last (m * 10 + (b - 0x30)) n l

digits_denote : (f n : ℕ) → n ≤ f → denotes (digits_of f n) ≡ n
unfolding digits_of
digits_denote zero n h = omega arith
digits_denote (suc f) zero h = refl
digits_denote (suc f) (suc m) h =
    let k = digits_denote f (suc m / 10) (omega arith) in
    after_last 0 (suc m) (digits_of f (suc m / 10)) ∙ ap (λ (x : ℕ). x * 10 + suc m % 10) k ∙ omega arith

-- `decimal n` denotes n
pub decimal_denotes : (n : ℕ) → denotes (decimal n) ≡ n
unfolding decimal
decimal_denotes n =
    let k = digits_denote n (n / 10) (omega arith) in
    after_last 0 n (digits_of n (n / 10)) ∙ ap (λ (x : ℕ). x * 10 + n % 10) k ∙ omega arith

-- every byte is a digit

last_digit : (n : ℕ) → is_digit (0x30 + n % 10) ≡ true
last_digit n =
    let low : 0x30 ≤ 0x30 + n % 10 = omega arith in
    let high : 0x30 + n % 10 ≤ 0x39 = omega arith in
    rw (le-leb 0x30 (0x30 + n % 10) low, le-leb (0x30 + n % 10) 0x39 high) refl

digits_all : (f n : ℕ) → all is_digit (digits_of f n) ≡ true
unfolding digits_of
digits_all zero n = refl
digits_all (suc f) zero = refl
digits_all (suc f) (suc m) = all_append is_digit (digits_of f (suc m / 10)) (last (suc m)) (digits_all f (suc m / 10))
    (rw (last_digit (suc m)) refl)

pub decimal_digits : (n : ℕ) → all is_digit (decimal n) ≡ true
unfolding decimal
decimal_digits n = all_append is_digit (digits_of n (n / 10)) (last n) (digits_all n (n / 10)) (rw (last_digit n) refl)

-- the first is no zero, unless the number is 0

abbrev Begins : List ℕ → Type 0
Begins l = (0 < length l) × (0x30 < get_or l 0 0)

-- the digits before the last, and the last
begins : (q n : ℕ) → n / 10 ≡ q → 0 < n → (l : List ℕ) → (q ≡ 0 → l ≡ []) → (0 < q → Begins l) → Begins (l ++ last n)
begins zero n e p [] none more = (omega arith, omega arith)
begins zero n e p (b ∷ l) none more = let z : suc (length l) ≡ 0 = ap length (none refl) in absurd (omega arith)
begins (suc q) n e p [] none more = let k = more (omega arith) in absurd (omega arith)
begins (suc q) n e p (b ∷ l) none more = (omega arith, (more (omega arith)).1)

digits_first : (f n : ℕ) → 0 < n → n ≤ f → Begins (digits_of f n)
unfolding digits_of
digits_first zero n p h = absurd (omega arith)
digits_first (suc f) zero p h = absurd (omega arith)
digits_first (suc f) (suc m) p h =
    begins (suc m / 10) (suc m) refl (omega arith) (digits_of f (suc m / 10)) (λ e. rw e (digits_none f))
    (λ (k : 0 < suc m / 10). digits_first f (suc m / 10) k (omega arith))

pub decimal_first : (n : ℕ) → 0 < n → 0x30 < get_or (decimal n) 0 0
unfolding decimal
decimal_first n h =
    (begins (n / 10) n refl h (digits_of n (n / 10)) (λ e. rw e (digits_none n))
    (λ (k : 0 < n / 10). digits_first n (n / 10) k (omega arith))).1
