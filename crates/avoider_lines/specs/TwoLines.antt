-- The two lines of an input, a set of patterns and a length, and as the memory holds them (02,
-- order 2). Definitions only.
use Rattle.std.specs.Prelude.{ℕ, Bool, not, ◌&&◌, cond, List, [], ◌∷◌, take, eqb, ltb}
use Rattle.std.proofs.Math.Option.{Option, none, some}
use Rattle.table_lines.specs.Lines.{line, behind}
use Rattle.table_lines.specs.Kept.{Memory}
use Rattle.table_lines.specs.declared.input.Lines.{Lines}

pub record Two : Type 0 where
  pub set : List ℕ
  pub last : List ℕ

-- a second line of no bytes counts as missing, and any byte after the second line's end as a third
abbrev pub unless_third : (second third : List ℕ) → Two → Option Two
unless_third [] third t = none
unless_third (b ∷ l) [] t = some t
unless_third (b ∷ l) (c ∷ r) t = none

-- the two lines, where none is missing and there is no third; a missing first line leaves no second
abbrev pub two_lines : List ℕ → Option Two
two_lines s = unless_third (line 1 s) (behind 2 s) (record { set = line 0 s; last = line 1 s })

-- the two lines are there and no third: the second has a byte, the third has none, and no line end
-- came after the second
abbrev pub is_two : Lines → Bool
is_two k = not (eqb k.scheme_length 0) && eqb k.last_length 0 && ltb k.ends 3

-- the bytes that the memory holds of the two lines, the second in the second buffer
abbrev pub held_two : Memory → Two
held_two m =
    record {
      set = take m.lines.set_length m.set;
      last = take m.lines.scheme_length m.scheme;
    }

-- the two lines as the memory holds them, where none is missing and there is no third
abbrev pub two_in : Memory → Option Two
two_in m = cond (is_two m.lines) (some (held_two m)) none
