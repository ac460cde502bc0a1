-- What the reader of schemes promises of its parts: marks, a prefix, the three parts of an entry,
-- and entries one after the other. Definitions only.
use Rattle.std.specs.Prelude.{ℕ, suc, ◌≡◌, Bool, true, false, List, [], ◌∷◌, length, drop, set, Option, Some, None, IfSome}
use Rattle.std.proofs.Math.Option.{Option as Maybe, none, some}
use Rattle.word.specs.Ceilings.{PREFIX}
use Rattle.forms.specs.SchemeList.{Does, EntryList}
use Rattle.forms.specs.declared.memory.Entry.{Entry}
use Rattle.forms.specs.declared.memory.Rule.{Rule}
use Rattle.forms.specs.declared.memory.Scheme.{Scheme}
use Rattle.text_gaps.specs.declared.parts.Gaps.{Gaps}
use Rattle.text_schemes.specs.declared.parts.ItemRead.{ItemRead}
use Rattle.text_schemes.specs.declared.scheme_reader.Prefix.{Prefix}
use Rattle.text_grammar.specs.declared.cursor.Cursor.{Cursor}
use Rattle.text_grammar.specs.Spelling.{Token, byte, comma}
use Rattle.text_grammar.specs.Tokens.{tokens}
use Rattle.text_grammar.specs.Grammar.{Read, misspelt, got, after, expect, either, items, in_braces, read_perm}
use Rattle.text_grammar.specs.Grammar.{read_vector, read_rule, read_entry}
use Rattle.text_patterns.specs.PatternMemory.{filled}
use Rattle.text_schemes.specs.SchemeLoaded.{rule_of, entry_of}
use Rattle.text_grammar.specs.ItemReading.{answered, kept, Moved, added}
use Rattle.text_gaps.specs.PartReading.{loaded_gaps}

-- marks

-- a mark has no value
abbrev pub passed : List ℕ → Option Cursor → Read ℕ
passed s None = misspelt
passed s (Some c) = got 0 (tokens (drop c.at s))

pub record MarkAt (b : ℕ) (s : List ℕ) (at : ℕ) (r : Option Cursor) : Type 0 where
  pub gives : expect {A = ℕ} (byte b) (got 0) (tokens (drop at s)) ≡ passed s r
  pub moved : IfSome r (λ c. Moved s at c.at)

pub record ChoiceAt (t u : Token) (s : List ℕ) (at : ℕ) (r : Option (Bool × Cursor)) : Type 0 where
  pub gives : either t (got true) u (got false) (tokens (drop at s)) ≡ answered s r
  pub moved : IfSome r (λ p. Moved s at p.1.at)

-- the parts of an entry

abbrev pub prefix_of : List ℕ → Prefix
prefix_of p = record { digits = filled PREFIX 0 p; length = length p }

abbrev pub read_head : List Token → Read (List ℕ)
read_head ts = expect (byte 0x28) (λ a. after (read_perm a) (λ p b. expect comma (got p) b)) ts

abbrev pub read_middle : List Token → Read (List (List ℕ))
read_middle ts = after (in_braces read_vector ts) (λ g a. expect comma (got g) a)

abbrev pub read_tail : List Token → Read Does
read_tail ts = after (read_rule ts) (λ m a. expect (byte 0x29) (got m) a)

pub record PrefixAt (s : List ℕ) (at : ℕ) (r : Option (Prefix × Cursor)) : Type 0 where
  pub gives : kept prefix_of (read_perm (tokens (drop at s))) ≡ answered s r
  pub moved : IfSome r (λ p. Moved s at p.1.at)

pub record HeadAt (s : List ℕ) (at : ℕ) (r : Option (Prefix × Cursor)) : Type 0 where
  pub gives : kept prefix_of (read_head (tokens (drop at s))) ≡ answered s r
  pub moved : IfSome r (λ p. Moved s at p.1.at)

pub record MiddleAt (s : List ℕ) (at : ℕ) (r : Option (Gaps × Cursor)) : Type 0 where
  pub gives : kept loaded_gaps (read_middle (tokens (drop at s))) ≡ answered s r
  pub moved : IfSome r (λ p. Moved s at p.1.at)

pub record TailAt (s : List ℕ) (at : ℕ) (r : Option (Rule × Cursor)) : Type 0 where
  pub gives : kept rule_of (read_tail (tokens (drop at s))) ≡ answered s r
  pub moved : IfSome r (λ p. Moved s at p.1.at)

-- entries one after the other

-- one entry more: it is kept where there is room
abbrev pub stored_entry : Scheme → Entry → Scheme
stored_entry m e = record { entries = set m.entries m.count e; count = suc m.count }

-- what is read, behind the entries of the scheme m
abbrev pub onto : Scheme → Read (List EntryList) → Read Scheme
onto m r = kept (added entry_of stored_entry m) r

-- what is read in all where these tokens come: a further entry is due, or none
abbrev pub going_on : Bool → Scheme → List Token → Read Scheme
going_on true m ts = onto m (items read_entry (byte 0x7D) ts)
going_on false m ts = got m ts

-- what is read in all with an entry and the mark behind it
abbrev pub with_item : List ℕ → Scheme → Option ItemRead → Read Scheme
with_item s m None = misspelt
with_item s m (Some r) = going_on r.more (stored_entry m r.entry) (tokens (drop r.bytes s))

-- r is the entry at the front of the text s with the mark behind it: whatever is kept before, what
-- is read in all is what is read from there on
pub record ItemAt (s : List ℕ) (r : Option ItemRead) : Type 0 where
  pub gives : (m : Scheme) → onto m (items read_entry (byte 0x7D) (tokens s)) ≡ with_item s m r
  pub moved : IfSome r (λ i. Moved s 0 i.bytes)

-- no token comes
abbrev pub no_tokens : List Token → Bool
no_tokens [] = true
no_tokens (t ∷ ts) = false

-- what a text spells, where nothing comes after what was read
abbrev pub scheme_of : Read Scheme → Maybe Scheme
scheme_of misspelt = none
scheme_of (got m []) = some m
scheme_of (got m (t ∷ r)) = none
