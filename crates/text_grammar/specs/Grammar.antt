-- The grammar: pattern sets and schemes read from tokens. Definitions only.
use Rattle.std.specs.Prelude.{ℕ, zero, suc, ◌+◌, ◌*◌, Bool, true, false, cond, ◌&&◌, List, [], ◌∷◌, length, leb, eqb}
use Rattle.std.proofs.Math.Option.{Option, none, some}
use Rattle.forms.specs.SchemeList.{Does, expands, deletes, EntryList}
use Rattle.text_grammar.specs.Spelling.{Token, digits, epsilon, empty, left, right, byte, comma, digit_run}

-- what a reader finds: nothing of its kind, or a value and the tokens after it
pub data Read (A : Type 0) : Type 0 where
  misspelt : Read A
  got : A → List Token → Read A

module _ {A B : Type 0} where
  -- the value and the tokens after it, handed on
  abbrev pub after : Read A → (A → List Token → Read B) → Read B
  after misspelt f = misspelt
  after (got x r) f = f x r

-- marks are told apart by numbers; a run is no mark
abbrev pub code : Token → ℕ
code (digits u) = zero
code epsilon = suc zero
code empty = suc (suc zero)
code left = suc (suc (suc zero))
code right = suc (suc (suc (suc zero)))
code (byte b) = suc (suc (suc (suc (suc b))))

-- the token u is the mark t
abbrev pub same : Token → Token → Bool
same t u = eqb (code t) (code u)

module _ {A : Type 0} where
  abbrev pub fail : List Token → Read A
  fail r = misspelt

  -- one of two readers
  abbrev pub pick : Bool → (List Token → Read A) → (List Token → Read A) → List Token → Read A
  pick true f g r = f r
  pick false f g r = g r

  -- the mark t, and then what f reads
  abbrev pub expect : Token → (List Token → Read A) → List Token → Read A
  expect t f [] = misspelt
  expect t f (u ∷ r) = pick (same t u) f fail r

  -- what f reads after the mark t, or else what g reads after the mark u
  abbrev pub either : Token → (List Token → Read A) → Token → (List Token → Read A) → List Token → Read A
  either t f u g [] = misspelt
  either t f u g (v ∷ r) = pick (same t v) f (pick (same u v) g fail) r

module _ {A : Type 0} (read : List Token → Read A) (close : Token) where
  -- after the item x: the end, or a comma and further items
  abbrev pub follow : (List Token → Read (List A)) → A → List Token → Read (List A)
  follow rest x r = either close (got (x ∷ [])) comma (λ q. after (rest q) (λ l w. got (x ∷ l) w)) r

  -- up to n items, at least one, with commas between them and the mark after them
  unfoldable pub items_of : ℕ → List Token → Read (List A)
  items_of zero ts = misspelt
  items_of (suc n) ts = after (read ts) (follow (λ q. items_of n q))

  -- there are no more items than tokens
  abbrev pub items : List Token → Read (List A)
  items ts = items_of (length ts) ts

-- items in braces, or ∅
abbrev pub in_braces : {A : Type 0} → (List Token → Read A) → List Token → Read (List A)
in_braces read ts = either empty (got []) (byte 0x7B) (items read (byte 0x7D)) ts

-- "A permutation is ε or a run of digits 0 to 9" (01)
abbrev pub read_perm : List Token → Read (List ℕ)
read_perm [] = misspelt
read_perm (epsilon ∷ r) = got [] r
read_perm (digits [] ∷ r) = misspelt
read_perm (digits (d ∷ u) ∷ r) = cond (digit_run (d ∷ u)) (got (d ∷ u) r) misspelt
read_perm (empty ∷ r) = misspelt
read_perm (left ∷ r) = misspelt
read_perm (right ∷ r) = misspelt
read_perm (byte b ∷ r) = misspelt

-- "decimal, one to three digits, without leading zeros" (01)
abbrev pub number_of : List ℕ → Option ℕ
number_of [] = none
number_of (a ∷ []) = cond (leb a 9) (some a) none
number_of (a ∷ (b ∷ [])) = cond (leb 1 a && digit_run (a ∷ (b ∷ []))) (some (a * 10 + b)) none
number_of (a ∷ (b ∷ (c ∷ []))) = cond (leb 1 a && digit_run (a ∷ (b ∷ (c ∷ [])))) (some ((a * 10 + b) * 10 + c)) none
number_of (a ∷ (b ∷ (c ∷ (d ∷ u)))) = none

abbrev pub given : Option ℕ → List Token → Read ℕ
given none r = misspelt
given (some n) r = got n r

abbrev pub read_number : List Token → Read ℕ
read_number [] = misspelt
read_number (digits u ∷ r) = given (number_of u) r
read_number (epsilon ∷ r) = misspelt
read_number (empty ∷ r) = misspelt
read_number (left ∷ r) = misspelt
read_number (right ∷ r) = misspelt
read_number (byte b ∷ r) = misspelt

abbrev pub read_vector : List Token → Read (List ℕ)
read_vector ts = expect left (items read_number right) ts

-- ∅, or one or more positions in braces: `{1,2}`
abbrev pub read_rule : List Token → Read Does
read_rule ts = either empty (got expands) (byte 0x7B) (λ a. after (items read_number (byte 0x7D) a) (λ R b. got (deletes R) b)) ts

-- `(1,{⟨0,1⟩},{1})`: what follows the prefix, what follows the vectors
abbrev pub after_gaps : List ℕ → List (List ℕ) → List Token → Read EntryList
after_gaps p g ts =
    expect comma (λ a. after (read_rule a) (λ m b. expect (byte 0x29) (got (record { prefix = p; gaps = g; rule = m })) b)) ts

abbrev pub after_prefix : List ℕ → List Token → Read EntryList
after_prefix p ts = expect comma (λ a. after (in_braces read_vector a) (after_gaps p)) ts

abbrev pub read_entry : List Token → Read EntryList
read_entry ts = expect (byte 0x28) (λ a. after (read_perm a) after_prefix) ts

-- a value with no token after it
abbrev pub whole : {A : Type 0} → Read A → Option A
whole misspelt = none
whole (got x []) = some x
whole (got x (t ∷ r)) = none

unfoldable pub read_patterns : List Token → Option (List (List ℕ))
unfolding items_of
read_patterns ts = whole (in_braces read_perm ts)

unfoldable pub read_entries : List Token → Option (List EntryList)
unfolding items_of
read_entries ts = whole (in_braces read_entry ts)
