-- A text cut into tokens: spaces are passed over, and every other byte belongs to one token.
-- Definitions only.
use Rattle.std.specs.Prelude.{ℕ, zero, suc, ◌-◌, Bool, true, false, not, cond, ◌&&◌, List, [], ◌∷◌, length, leb, eqb}
use Rattle.text_grammar.specs.Spelling.{Token, digits, epsilon, empty, left, right, byte, bytes_of, digit_run}

abbrev pub is_digit : ℕ → Bool
is_digit b = leb 0x30 b && leb b 0x39

-- the digits at the front of a text, as their values
abbrev pub run : List ℕ → List ℕ
run [] = []
run (x ∷ s) = cond (is_digit x) ((x - 0x30) ∷ run s) []

-- the text begins with the bytes of l
abbrev pub begins : List ℕ → List ℕ → Bool
begins [] s = true
begins (a ∷ l) [] = false
begins (a ∷ l) (x ∷ s) = eqb x a && begins l s

-- the token that begins with the byte x, where s follows
unfoldable pub token_at : ℕ → List ℕ → Token
token_at x s =
    cond (is_digit x) (digits ((x - 0x30) ∷ run s))
    (cond (begins (bytes_of epsilon) (x ∷ s)) epsilon
    (cond (begins (bytes_of empty) (x ∷ s)) empty
    (cond (begins (bytes_of left) (x ∷ s)) left (cond (begins (bytes_of right) (x ∷ s)) right (byte x)))))

-- one less, and 0 for 0
abbrev pub less : ℕ → ℕ
less zero = zero
less (suc n) = n

-- the number of its bytes after the first
abbrev pub more : Token → ℕ
more t = less (length (bytes_of t))

-- the bytes after x that are passed over with it
abbrev pub skip_at : ℕ → List ℕ → ℕ
skip_at x s = cond (eqb x 0x20) 0 (more (token_at x s))

-- the token in front, but for a space
abbrev pub placed : Bool → Token → List Token → List Token
placed true t ts = ts
placed false t ts = t ∷ ts

-- the tokens of the text after its first k bytes
unfoldable pub tokens_after : ℕ → List ℕ → List Token
unfolding token_at
tokens_after k [] = []
tokens_after (suc k) (x ∷ s) = tokens_after k s
tokens_after zero (x ∷ s) = placed (eqb x 0x20) (token_at x s) (tokens_after (skip_at x s) s)

-- the tokens of the text
unfoldable pub tokens : List ℕ → List Token
unfolding tokens_after
tokens s = tokens_after zero s

-- tokens that a text can show: runs of digits 0 to 9 with at least one digit, marks, and bytes that
-- begin none of these and are no space
abbrev pub proper : Token → Bool
proper (digits []) = false
proper (digits (d ∷ u)) = digit_run (d ∷ u)
proper epsilon = true
proper empty = true
proper left = true
proper right = true
proper (byte b) = not (eqb b 0x20) && (not (is_digit b) && (not (eqb b 0xCE) && not (eqb b 0xE2)))

abbrev pub is_run : Token → Bool
is_run (digits u) = true
is_run epsilon = false
is_run empty = false
is_run left = false
is_run right = false
is_run (byte b) = false

abbrev pub starts_run : List Token → Bool
starts_run [] = false
starts_run (t ∷ ts) = is_run t

-- no two runs are neighbours
abbrev pub apart : List Token → Bool
apart [] = true
apart (t ∷ ts) = not (is_run t && starts_run ts) && apart ts
