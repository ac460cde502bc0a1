-- The notation of document 01: the marks as bytes, the pieces of a pattern set and of a scheme, and
-- which texts spell them. Definitions only.
use Rattle.std.specs.Prelude.{ℕ, ◌+◌, ◌/◌, ◌%◌, ◌≡◌, Bool, true, not, cond, ◌&&◌, List, [], ◌∷◌, ◌++◌, map}
use Rattle.std.specs.Prelude.{length, replicate, leb, ltb, eqb}
use Rattle.word.specs.Lists.{all, keep, each}
use Rattle.forms.specs.SchemeList.{Does, expands, deletes, EntryList}

-- a mark or a number of the notation
pub data Token : Type 0 where
  -- a run of digits 0 to 9
  digits : List ℕ → Token
  -- ε, ∅, ⟨ and ⟩
  epsilon empty left right : Token
  -- any other byte: the notation uses ( ) { } and the comma
  byte : ℕ → Token

-- "ε is the bytes CE B5 (hexadecimal), ∅ is the bytes E2 88 85, ⟨ is E2 9F A8, ⟩ is E2 9F A9" (01)
abbrev pub bytes_of : Token → List ℕ
bytes_of (digits u) = map (λ d. 48 + d) u
bytes_of epsilon = 0xCE ∷ 0xB5 ∷ []
bytes_of empty = 0xE2 ∷ 0x88 ∷ 0x85 ∷ []
bytes_of left = 0xE2 ∷ 0x9F ∷ 0xA8 ∷ []
bytes_of right = 0xE2 ∷ 0x9F ∷ 0xA9 ∷ []
bytes_of (byte b) = b ∷ []

-- "Spaces (byte 20) may stand around marks and numbers, never within" (01): the text is these
-- pieces in their order, with spaces before, between and after
pub data Holds : List Token → List ℕ → Type 0 where
  done : (n : ℕ) → Holds [] (replicate n 0x20)
  next : (n : ℕ) (t : Token) {ts : List Token} {s : List ℕ} → Holds ts s → Holds (t ∷ ts) (replicate n 0x20 ++ (bytes_of t ++ s))

abbrev pub comma : Token
comma = byte 0x2C

-- the items, with commas between them
abbrev pub separated : List (List Token) → List Token
separated [] = []
separated (x ∷ []) = x
separated (x ∷ (y ∷ l)) = x ++ (comma ∷ separated (y ∷ l))

-- items in braces, or ∅ where there are none: "`{}` .. misspelt" (01)
abbrev pub braced : List (List Token) → List Token
braced [] = empty ∷ []
braced (x ∷ l) = byte 0x7B ∷ (separated (x ∷ l) ++ (byte 0x7D ∷ []))

-- "A permutation is ε or a run of digits 0 to 9" (01)
abbrev pub perm_piece : List ℕ → Token
perm_piece [] = epsilon
perm_piece (d ∷ u) = digits (d ∷ u)

-- "A pattern set is `{123,321}` or ∅" (01)
abbrev pub pattern_pieces : List (List ℕ) → List Token
pattern_pieces P = braced (map (λ p. perm_piece p ∷ []) P)

-- "Vector components and positions are decimal, one to three digits, without leading zeros" (01)
abbrev pub numeral : ℕ → List ℕ
numeral n = cond (ltb n 10) (n ∷ []) (cond (ltb n 100) (n / 10 ∷ (n % 10 ∷ [])) (n / 100 ∷ (n / 10 % 10 ∷ (n % 10 ∷ []))))

abbrev pub vector_pieces : List ℕ → List Token
vector_pieces b = left ∷ (separated (map (λ n. digits (numeral n) ∷ []) b) ++ (right ∷ []))

-- "the third part is ∅ for expanding" (01), and a set of positions "as `{1,2}`" (02, order 4)
abbrev pub rule_pieces : Does → List Token
rule_pieces expands = empty ∷ []
rule_pieces (deletes R) = byte 0x7B ∷ (separated (map (λ n. digits (numeral n) ∷ []) R) ++ (byte 0x7D ∷ []))

-- `(1,{⟨0,1⟩},{1})`
abbrev pub entry_pieces : EntryList → List Token
entry_pieces e =
    byte 0x28 ∷ (perm_piece
    e.prefix ∷ (comma ∷ (braced (map vector_pieces
    e.gaps) ++ (comma ∷ (rule_pieces e.rule ++ (byte 0x29 ∷ []))))))

-- "`{(ε,∅,∅),(1,{⟨0,1⟩},{1})}`" (01)
abbrev pub scheme_pieces : List EntryList → List Token
scheme_pieces E = braced (map entry_pieces E)

-- what can be written so: digits 0 to 9, numbers up to 999, vectors with a component ("`⟨⟩` ..
-- misspelt") and sets with a position ("`{}`")
abbrev pub digit_run : List ℕ → Bool
digit_run u = all (λ d. leb d 9) u

abbrev pub writable_vector : List ℕ → Bool
writable_vector b = not (eqb (length b) 0) && all (λ n. leb n 999) b

abbrev pub writable_rule : Does → Bool
writable_rule expands = true
writable_rule (deletes R) = writable_vector R

abbrev pub writable_entry : EntryList → Bool
writable_entry e = digit_run e.prefix && (all writable_vector e.gaps && writable_rule e.rule)

-- A text spells a list if it is the list's marks and numbers in their order with any number of
-- spaces around them.
abbrev pub SpellsPatterns : List ℕ → List (List ℕ) → Type 0
SpellsPatterns s P = Holds (pattern_pieces P) s × (all digit_run P ≡ true)

abbrev pub SpellsScheme : List ℕ → List EntryList → Type 0
SpellsScheme s E = Holds (scheme_pieces E) s × (all writable_entry E ≡ true)

-- "The writer uses no spaces and keeps the given order" (01)
abbrev pub written_patterns : List (List ℕ) → List ℕ
written_patterns P = each bytes_of (pattern_pieces P)

abbrev pub written_scheme : List EntryList → List ℕ
written_scheme E = each bytes_of (scheme_pieces E)

-- a text without its spaces
abbrev pub spaceless : List ℕ → List ℕ
spaceless s = keep (λ b. not (eqb b 0x20)) s
