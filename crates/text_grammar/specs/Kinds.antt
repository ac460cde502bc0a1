-- What a token is: a code for its kind, and one test a kind. Definitions only.
use Rattle.std.specs.Prelude.{ℕ, Bool, false, eqb}
use Rattle.text_grammar.specs.declared.cursor.Kind.{Kind}
use Rattle.text_grammar.specs.declared.cursor.Kind.TheVariants.{End, Digits, Epsilon, Empty, Left, Right, Byte}

-- the code of a kind
abbrev pub code_of : Kind → ℕ
code_of End = 0
code_of Digits = 1
code_of Epsilon = 2
code_of Empty = 3
code_of Left = 4
code_of Right = 5
code_of (Byte b) = 6

abbrev pub is_end : Kind → Bool
is_end k = eqb (code_of k) 0

abbrev pub is_digits : Kind → Bool
is_digits k = eqb (code_of k) 1

abbrev pub is_epsilon : Kind → Bool
is_epsilon k = eqb (code_of k) 2

abbrev pub is_empty : Kind → Bool
is_empty k = eqb (code_of k) 3

abbrev pub is_left : Kind → Bool
is_left k = eqb (code_of k) 4

abbrev pub is_right : Kind → Bool
is_right k = eqb (code_of k) 5

abbrev pub is_byte : ℕ → Kind → Bool
is_byte n End = false
is_byte n Digits = false
is_byte n Epsilon = false
is_byte n Empty = false
is_byte n Left = false
is_byte n Right = false
is_byte n (Byte b) = eqb b n
