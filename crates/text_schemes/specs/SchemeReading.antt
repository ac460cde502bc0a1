-- What the readers of the parts of a scheme promise: a rule, an entry, and what a whole text
-- spells. Definitions only.
use Rattle.std.specs.Prelude.{ℕ, ◌≡◌, List, drop, Option, IfSome}
use Rattle.std.proofs.Math.Option.{Option as Maybe, none, some}
use Rattle.forms.specs.SchemeList.{EntryList}
use Rattle.text_grammar.specs.Tokens.{tokens}
use Rattle.text_grammar.specs.Grammar.{read_rule, read_entry}
use Rattle.text_grammar.specs.ItemReading.{answered, kept, Moved}
use Rattle.text_schemes.specs.SchemeLoaded.{rule_of, entry_of, loaded_scheme}
use Rattle.text_grammar.specs.declared.cursor.Cursor.{Cursor}
use Rattle.forms.specs.declared.memory.Entry.{Entry}
use Rattle.forms.specs.declared.memory.Rule.{Rule}
use Rattle.forms.specs.declared.memory.Scheme.{Scheme}

pub record RuleAt (s : List ℕ) (at : ℕ) (r : Option (Rule × Cursor)) : Type 0 where
  pub gives : kept rule_of (read_rule (tokens (drop at s))) ≡ answered s r
  pub moved : IfSome r (λ p. Moved s at p.1.at)

pub record EntryAt (s : List ℕ) (at : ℕ) (r : Option (Entry × Cursor)) : Type 0 where
  pub gives : kept entry_of (read_entry (tokens (drop at s))) ≡ answered s r
  pub moved : IfSome r (λ p. Moved s at p.1.at)

-- what a text spells, in memory
abbrev pub loaded_text : Maybe (List EntryList) → Maybe Scheme
loaded_text none = none
loaded_text (some E) = some (loaded_scheme E)
