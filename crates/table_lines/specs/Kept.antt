-- What is kept of an input, as a function of all of it, and the three lines as the memory holds
-- them. Definitions only.
use Rattle.std.specs.Prelude.{ℕ, zero, suc, ◌+◌, Bool, true, false, not, ◌&&◌, cond, List, [], ◌∷◌, length, take, eqb, Option, Some, None}
use Rattle.std.proofs.Math.Option.{Option as Maybe, none, some}
use Rattle.word.specs.Ceilings.{PATTERN_TEXT, SCHEME_TEXT}
use Rattle.table_lines.specs.declared.input.Lines.{Lines}
use Rattle.table_lines.specs.Lines.{is_end, line, behind, Three}

-- one byte more than each line may have, the third "one or two digits" (01); input::SET, SCHEME
-- and LAST
abbrev pub set_room : ℕ
set_room = PATTERN_TEXT + 1

abbrev pub scheme_room : ℕ
scheme_room = SCHEME_TEXT + 1

abbrev pub last_room : ℕ
last_room = 3

-- the first n bytes of a line, and 0 at the places behind its end
unfoldable pub held : ℕ → List ℕ → List ℕ
held zero l = []
held (suc n) [] = 0 ∷ held n []
held (suc n) (b ∷ l) = b ∷ held n l

-- how many bytes of a line are kept where there is room for n
abbrev pub held_length : ℕ → List ℕ → ℕ
held_length n l = length (take n l)

-- the number of line ends
abbrev pub ends_in : List ℕ → ℕ
ends_in [] = 0
ends_in (b ∷ s) = cond (is_end b) (suc (ends_in s)) (ends_in s)

abbrev pub up_to_three : ℕ → ℕ
up_to_three zero = 0
up_to_three (suc zero) = 1
up_to_three (suc (suc zero)) = 2
up_to_three (suc (suc (suc n))) = 3

abbrev pub has_bytes : List ℕ → Bool
has_bytes [] = false
has_bytes (b ∷ s) = true

-- the memory: the value that the code hands on, and the buffers for the texts of the first two
-- lines
pub record Memory : Type 0 where
  pub lines : Lines
  pub set : List ℕ
  pub scheme : List ℕ

abbrev pub memory_of : Lines → List ℕ → List ℕ → Memory
memory_of k a b = record { lines = k; set = a; scheme = b }

unfoldable pub kept_of : List ℕ → Memory
kept_of s =
    record {
      lines =
          record {
            set_length = held_length set_room (line 0 s);
            scheme_length = held_length scheme_room (line 1 s);
            last = held last_room (line 2 s);
            last_length = held_length last_room (line 2 s);
            ends = up_to_three (ends_in s);
            fourth = has_bytes (behind 3 s);
          };
      set = held set_room (line 0 s);
      scheme = held scheme_room (line 1 s);
    }

-- the three lines are there and no fourth: the third has a byte, and none came after its end
abbrev pub is_complete : Lines → Bool
is_complete k = not (eqb k.last_length 0) && not k.fourth

-- the bytes that the memory holds of each line: as many as its length says
abbrev pub held_lines : Memory → Three
held_lines m =
    record {
      set = take m.lines.set_length m.set;
      scheme = take m.lines.scheme_length m.scheme;
      last = take m.lines.last_length m.lines.last;
    }

-- the three lines as the memory holds them, where none is missing and there is no fourth
abbrev pub three_in : Memory → Maybe Three
three_in m = cond (is_complete m.lines) (some (held_lines m)) none

-- the number in a line, or that it spells none, as the code has it
abbrev pub as_number : Maybe ℕ → Option ℕ
as_number none = None
as_number (some n) = Some n
