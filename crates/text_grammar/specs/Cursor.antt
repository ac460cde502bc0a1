-- What a cursor finds: the tokens of the rest of a text, taken one at a time. Definitions only.
use Rattle.std.specs.Prelude.{ℕ, ◌+◌, ◌≤◌, ◌<◌, ◌≡◌, cond, List, [], ◌∷◌, length, drop, get_or}
use Rattle.text_grammar.specs.Spelling.{Token, digits, epsilon, empty, left, right, byte, bytes_of}
use Rattle.text_grammar.specs.Tokens.{run, begins, tokens}
use Rattle.text_grammar.specs.declared.cursor.Kind.{Kind}
use Rattle.text_grammar.specs.declared.cursor.Kind.TheVariants.{End, Digits, Epsilon, Empty, Left, Right, Byte}
use Rattle.text_grammar.specs.declared.cursor.Step.{Step}

-- the place r is behind the spaces from the place `at` on
pub record Passed (s : List ℕ) (at r : ℕ) : Type 0 where
  pub same : tokens (drop at s) ≡ tokens (drop r s)
  pub onward : at ≤ r
  pub inside : at ≤ length s → r ≤ length s
  pub stopped : r < length s → get_or s r 0 ≡ 0x20 → ⊥

-- the mark with which the text t begins, or else its first byte x
unfoldable pub mark_of : ℕ → List ℕ → Kind
mark_of x t =
    cond (begins (bytes_of epsilon) t) Epsilon
    (cond (begins (bytes_of empty) t) Empty (cond (begins (bytes_of left) t) Left (cond (begins (bytes_of right) t) Right (Byte x))))

-- the number of bytes of a mark or a byte
abbrev pub width_of : Kind → ℕ
width_of End = 0
width_of Digits = 0
width_of Epsilon = 2
width_of Empty = 3
width_of Left = 3
width_of Right = 3
width_of (Byte b) = 1

-- the number of bytes of a token of this kind at the front of the text t
abbrev pub span_of : Kind → List ℕ → ℕ
span_of End t = 0
span_of Digits t = length (run t)
span_of Epsilon t = 2
span_of Empty t = 3
span_of Left t = 3
span_of Right t = 3
span_of (Byte b) t = 1

-- the token of this kind at the front of the text t, and then the others; none where the text ends
abbrev pub tokens_by : Kind → List ℕ → List Token → List Token
tokens_by End t ts = []
tokens_by Digits t ts = digits (run t) ∷ ts
tokens_by Epsilon t ts = epsilon ∷ ts
tokens_by Empty t ts = empty ∷ ts
tokens_by Left t ts = left ∷ ts
tokens_by Right t ts = right ∷ ts
tokens_by (Byte b) t ts = byte b ∷ ts

-- the place r is past the place a, but where the text ends
abbrev pub Beyond : Kind → ℕ → ℕ → Type 0
Beyond End a r = a ≤ r
Beyond Digits a r = a < r
Beyond Epsilon a r = a < r
Beyond Empty a r = a < r
Beyond Left a r = a < r
Beyond Right a r = a < r
Beyond (Byte b) a r = a < r

-- r is the next token from the place `at` on
pub record Stepped (s : List ℕ) (at : ℕ) (r : Step) : Type 0 where
  pub gives : tokens (drop at s) ≡ tokens_by r.kind (drop r.from s) (tokens (drop r.next.at s))
  pub onward : at ≤ r.from
  pub span : r.next.at ≡ r.from + span_of r.kind (drop r.from s)
  pub beyond : Beyond r.kind at r.next.at
  pub inside : at ≤ length s → r.next.at ≤ length s
