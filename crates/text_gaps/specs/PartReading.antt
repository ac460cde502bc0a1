-- What the readers of numbers and gap vectors promise: what the grammar finds in the tokens from a
-- place on, kept in memory. Definitions only.
use Rattle.std.specs.Prelude.{ℕ, ◌≤◌, ◌≡◌, List, length, drop, Option, IfSome}
use Rattle.forms.specs.declared.memory.Gap.{Gap}
use Rattle.text_grammar.specs.Tokens.{tokens}
use Rattle.text_grammar.specs.Grammar.{read_number, read_vector, in_braces}
use Rattle.text_grammar.specs.ItemReading.{answered, kept, Moved}
use Rattle.text_grammar.specs.declared.cursor.Cursor.{Cursor}
use Rattle.text_gaps.specs.GapMemory.{gap_of, parts_of_all, widths_of}
use Rattle.text_gaps.specs.declared.parts.Gaps.{Gaps}

unfoldable pub loaded_gaps : List (List ℕ) → Gaps
loaded_gaps g = record { parts = parts_of_all g; widths = widths_of g; count = length g }

pub record NumberAt (s : List ℕ) (at : ℕ) (r : Option (ℕ × Cursor)) : Type 0 where
  pub gives : read_number (tokens (drop at s)) ≡ answered s r
  pub small : IfSome r (λ p. p.0 ≤ 999)
  pub moved : IfSome r (λ p. Moved s at p.1.at)

pub record GapAt (s : List ℕ) (at : ℕ) (r : Option (Gap × Cursor)) : Type 0 where
  pub gives : kept gap_of (read_vector (tokens (drop at s))) ≡ answered s r
  pub moved : IfSome r (λ p. Moved s at p.1.at)

pub record GapsAt (s : List ℕ) (at : ℕ) (r : Option (Gaps × Cursor)) : Type 0 where
  pub gives : kept loaded_gaps (in_braces read_vector (tokens (drop at s))) ≡ answered s r
  pub moved : IfSome r (λ p. Moved s at p.1.at)
