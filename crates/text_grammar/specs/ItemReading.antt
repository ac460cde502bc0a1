-- What the readers of parts promise, and items of a list that are read one after the other: what
-- comes after an item, and what is read in all from a place on. Definitions only.
use Rattle.std.specs.Prelude.{ℕ, ◌≤◌, ◌<◌, ◌≡◌, Bool, cond, List, [], ◌∷◌, length, drop}
use Rattle.std.specs.declared.option.Option.{Option}
use Rattle.std.specs.declared.option.Option.TheVariants.{Some, None}
use Rattle.text_grammar.specs.Spelling.{Token}
use Rattle.text_grammar.specs.Tokens.{tokens}
use Rattle.text_grammar.specs.Kinds.{is_right, is_byte}
use Rattle.text_grammar.specs.Grammar.{Read, misspelt, got, items}
use Rattle.text_grammar.specs.declared.cursor.Cursor.{Cursor}
use Rattle.text_grammar.specs.declared.cursor.Kind.{Kind}

-- what a reader of a text answers, as the grammar's readers say it: a value and the tokens after
-- it, or nothing of its kind
abbrev pub answered : {B : Type 0} → List ℕ → Option (B × Cursor) → Read B
answered s None = misspelt
answered s (Some r) = got r.0 (tokens (drop r.1.at s))

-- what a reader of the grammar finds, as the memory keeps it
abbrev pub kept : {A B : Type 0} → (A → B) → Read A → Read B
kept load misspelt = misspelt
kept load (got x ts) = got (load x) ts

-- the cursor behind a part: past its first token, and within the text
pub record Moved (s : List ℕ) (at next : ℕ) : Type 0 where
  pub onward : at < next
  pub inside : at ≤ length s → next ≤ length s

-- what comes after an item: another one, nothing, or what may not come
pub data Turn : Type 0 where
  More Done Wrong : Turn

-- what comes after an item: the closing mark, or else a comma

abbrev pub turn_of : Bool → Bool → Turn
turn_of done more = cond done Done (cond more More Wrong)

abbrev pub turn_in_braces : Kind → Turn
turn_in_braces k = turn_of (is_byte 0x7D k) (is_byte 0x2C k)

abbrev pub turn_in_vector : Kind → Turn
turn_in_vector k = turn_of (is_right k) (is_byte 0x2C k)

-- what is read in all where m is kept so far and these tokens come

module _ {A B C : Type 0} (load : A → C) (store : B → C → B) where
  -- the memory m with the items of a list behind its own
  abbrev pub added : B → List A → B
  added m [] = m
  added m (x ∷ l) = added (store m (load x)) l

module _ {A B C : Type 0} (read : List Token → Read A) (close : Token) (load : A → C) (store : B → C → B) where
  abbrev pub going : Turn → B → List Token → Read B
  going More m ts = kept (added load store m) (items read close ts)
  going Done m ts = got m ts
  going Wrong m ts = misspelt

-- Items were read up to the place `at` and are kept in m: what they and the text from that place on
-- come to is `whole`. There are no more of them than bytes before the place.
pub record ReadTo {A B C : Type 0} (read : List Token → Read A) (close : Token) (load : A → C) (store : B → C → B)
    (whole : Read B) (s : List ℕ) (m : B) (count at : ℕ) : Type 0 where
  pub same : going read close load store More m (tokens (drop at s)) ≡ whole
  pub inside : at ≤ length s
  pub counted : count ≤ at
