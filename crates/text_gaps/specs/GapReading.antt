-- What the readers of numbers and gap vectors promise of their parts: a digit, a number, one item
-- more, the items of a list. Definitions only.
use Rattle.std.specs.Prelude.{ℕ, suc, ◌*◌, ◌≤◌, ◌≡◌, Bool, true, false, List, length, drop, get_or, set, Option, Some, None, IfSome}
use Rattle.std.proofs.Math.Option.{Option as Maybe, none, some}
use Rattle.std.proofs.lemmas.List.Edits.{sets}
use Rattle.word.specs.Ceilings.{COMPONENTS}
use Rattle.forms.specs.declared.memory.Gap.{Gap}
use Rattle.text_grammar.specs.Spelling.{Token, right, byte}
use Rattle.text_grammar.specs.Tokens.{tokens}
use Rattle.text_grammar.specs.Grammar.{items, number_of, read_number, read_vector}
use Rattle.text_gaps.specs.GapMemory.{part_of, gap_of}
use Rattle.text_gaps.specs.PartReading.{loaded_gaps}
use Rattle.text_gaps.specs.declared.parts.Gaps.{Gaps}
use Rattle.text_grammar.specs.declared.cursor.Cursor.{Cursor}
use Rattle.text_grammar.specs.declared.cursor.Kind.{Kind}
use Rattle.text_grammar.specs.Kinds.{is_right, is_byte}
use Rattle.text_grammar.specs.ItemReading.{answered, kept, Turn, turn_of}

-- numbers

-- the digit at place i of the run u
pub record DigitOf (u : List ℕ) (i r : ℕ) : Type 0 where
  pub is : r ≡ get_or u i 0
  pub small : r ≤ 9

abbrev pub valued : Option ℕ → Maybe ℕ
valued (Some n) = some n
valued None = none

-- the number of the run u
pub record Numbered (u : List ℕ) (r : Option ℕ) : Type 0 where
  pub gives : number_of u ≡ valued r
  pub small : IfSome r (λ n. n ≤ 999)

-- the mark behind numbers: } behind a set of positions, ⟩ behind a gap vector

abbrev pub closing : Bool → Token
closing true = byte 0x7D
closing false = right

abbrev pub turn_after : Bool → Kind → Turn
turn_after true k = turn_of (is_byte 0x7D k) (is_byte 0x2C k)
turn_after false k = turn_of (is_right k) (is_byte 0x2C k)

-- one item more: it is kept where there is room

abbrev pub stored_part : Gap → ℕ → Gap
stored_part m n = record { parts = set m.parts m.width (part_of n); width = suc m.width }

abbrev pub stored_gap : Gaps → Gap → Gaps
stored_gap m g =
    record {
      parts = sets m.parts (COMPONENTS * m.count) g.parts;
      widths = set m.widths m.count (part_of g.width);
      count = suc m.count;
    }

abbrev pub itself : ℕ → ℕ
itself n = n

-- the cursor behind the items of a list
pub record Behind (s : List ℕ) (at next : ℕ) : Type 0 where
  pub onward : at ≤ next
  pub inside : next ≤ length s

-- the items of a list, and the mark behind them

pub record PartsAt (b : Bool) (s : List ℕ) (at : ℕ) (r : Option (Gap × Cursor)) : Type 0 where
  pub gives : kept gap_of (items read_number (closing b) (tokens (drop at s))) ≡ answered s r
  pub moved : IfSome r (λ p. Behind s at p.1.at)

pub record VectorsAt (s : List ℕ) (at : ℕ) (r : Option (Gaps × Cursor)) : Type 0 where
  pub gives : kept loaded_gaps (items read_vector (byte 0x7D) (tokens (drop at s))) ≡ answered s r
  pub moved : IfSome r (λ p. Behind s at p.1.at)
