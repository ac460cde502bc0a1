-- A test of a kind of token tells the kind.
use Rattle.std.specs.Prelude.{ℕ, zero, suc, ◌<◌, ◌≡◌, refl, true, eqb}
use Rattle.std.proofs.Common.{arith, ap, ◌∙◌, eqb-true}
use Rattle.std.proofs.lemmas.Bool.{false≢true}
use Rattle.text_grammar.specs.declared.cursor.Kind.{Kind}
use Rattle.text_grammar.specs.declared.cursor.Kind.TheVariants.{End, Digits, Epsilon, Empty, Left, Right, Byte}
use Rattle.text_grammar.specs.Kinds.{is_end, code_of, is_digits, is_epsilon, is_empty, is_left, is_byte}

-- the kind with a code
abbrev kind_by : ℕ → Kind
kind_by zero = End
kind_by (suc zero) = Digits
kind_by (suc (suc zero)) = Epsilon
kind_by (suc (suc (suc zero))) = Empty
kind_by (suc (suc (suc (suc zero)))) = Left
kind_by (suc (suc (suc (suc (suc n))))) = Right

coded : (k : Kind) → code_of k < 6 → k ≡ kind_by (code_of k)
coded End h = refl
coded Digits h = refl
coded Epsilon h = refl
coded Empty h = refl
coded Left h = refl
coded Right h = refl
coded (Byte b) h = absurd (omega arith)

module _ (k : Kind) where
  has_code : (n : ℕ) → n < 6 → eqb (code_of k) n ≡ true → k ≡ kind_by n
  has_code n h e = let p = eqb-true (code_of k) n e in coded k (omega arith) ∙ ap kind_by p

  pub is_end_lem : is_end k ≡ true → k ≡ End
  is_end_lem e = has_code 0 (omega arith) e

  pub is_digits_lem : is_digits k ≡ true → k ≡ Digits
  is_digits_lem e = has_code 1 (omega arith) e

  pub is_epsilon_lem : is_epsilon k ≡ true → k ≡ Epsilon
  is_epsilon_lem e = has_code 2 (omega arith) e

  pub is_empty_lem : is_empty k ≡ true → k ≡ Empty
  is_empty_lem e = has_code 3 (omega arith) e

  pub is_left_lem : is_left k ≡ true → k ≡ Left
  is_left_lem e = has_code 4 (omega arith) e

pub is_byte_lem : (n : ℕ) (k : Kind) → is_byte n k ≡ true → k ≡ Byte n
is_byte_lem n End e = absurd (false≢true e)
is_byte_lem n Digits e = absurd (false≢true e)
is_byte_lem n Epsilon e = absurd (false≢true e)
is_byte_lem n Empty e = absurd (false≢true e)
is_byte_lem n Left e = absurd (false≢true e)
is_byte_lem n Right e = absurd (false≢true e)
is_byte_lem n (Byte b) e = ap Byte (eqb-true b n e)
