-- What the reader of pattern sets promises of its parts: a pattern, one more of them, the patterns
-- of a set, a set. Definitions only.
use Rattle.std.specs.Prelude.{ℕ, suc, ◌≡◌, List, [], ◌∷◌, drop, set, IfSome}
use Rattle.std.specs.declared.option.Option.{Option}
use Rattle.std.specs.declared.option.Option.TheVariants.{Some, None}
use Rattle.forms.specs.declared.memory.Pattern.{Pattern}
use Rattle.forms.specs.declared.memory.Patterns.{Patterns}
use Rattle.text_grammar.specs.Spelling.{byte}
use Rattle.text_grammar.specs.Tokens.{tokens}
use Rattle.text_grammar.specs.Grammar.{Read, misspelt, got, items, in_braces, read_perm}
use Rattle.text_grammar.specs.ItemReading.{answered, kept, Moved}
use Rattle.text_grammar.specs.declared.cursor.Cursor.{Cursor}
use Rattle.text_patterns.specs.PatternMemory.{pattern_of, loaded_patterns}

-- r is the pattern from a place on, and the cursor behind it
pub record PatternAt (s : List ℕ) (at : ℕ) (r : Option (Pattern × Cursor)) : Type 0 where
  pub gives : kept pattern_of (read_perm (tokens (drop at s))) ≡ answered s r
  pub moved : IfSome r (λ p. Moved s at p.1.at)

-- one pattern more: it is kept where there is room
abbrev pub stored_in : Patterns → Pattern → Patterns
stored_in m p = record { items = set m.items m.count p; count = suc m.count }

-- the patterns of a set and the brace behind them
abbrev pub ItemsAt : List ℕ → ℕ → Option (Patterns × Cursor) → Type 0
ItemsAt s at r = kept loaded_patterns (items read_perm (byte 0x7D) (tokens (drop at s))) ≡ answered s r

-- ∅, or patterns in braces
abbrev pub SetAt : List ℕ → ℕ → Option (Patterns × Cursor) → Type 0
SetAt s at r = kept loaded_patterns (in_braces read_perm (tokens (drop at s))) ≡ answered s r

-- what a text spells, where nothing comes after what was read
abbrev pub text_of : Read Patterns → Option Patterns
text_of misspelt = None
text_of (got m []) = Some m
text_of (got m (t ∷ r)) = None
