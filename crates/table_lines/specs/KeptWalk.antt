-- The memory with a chunk more, byte by byte. Definitions only.
use Rattle.std.specs.Prelude.{ℕ, zero, suc, ◌+◌, min, Bool, true, false, cond, List, [], ◌∷◌, length, set, ltb}
use Rattle.table_lines.specs.Lines.{is_end}
use Rattle.table_lines.specs.Kept.{set_room, scheme_room, last_room, Memory}

abbrev pub made : List ℕ → ℕ → List ℕ → ℕ → List ℕ → ℕ → ℕ → Bool → Memory
made a n b m c l e f =
    record {
      lines = record { set_length = n; scheme_length = m; last = c; last_length = l; ends = e; fourth = f };
      set = a;
      scheme = b;
    }

-- "A line ends at byte 0A (hexadecimal)"
abbrev pub ended : Memory → Memory
ended m = let k = m.lines in
    made m.set k.set_length m.scheme k.scheme_length k.last k.last_length (k.ends + 1) k.fourth

-- "any byte after the third line's end as a fourth"
abbrev pub with_fourth : Memory → Memory
with_fourth m = let k = m.lines in
    made m.set k.set_length m.scheme k.scheme_length k.last k.last_length k.ends true

-- a byte at the place `at` of n, where there is room, and the next place
abbrev pub stored : ℕ → List ℕ → ℕ → ℕ → List ℕ
stored n xs at b = cond (ltb at n) (set xs at b) xs

abbrev pub next_place : ℕ → ℕ → ℕ
next_place n at = cond (ltb at n) (at + 1) at

-- how many places of a buffer are used, where n are enough
abbrev pub room_in : List ℕ → ℕ → ℕ
room_in xs n = min (length xs) n

-- a byte of the first, of the second, of the third line
abbrev pub in_set : Memory → ℕ → Memory
in_set m b = let k = m.lines in let n = room_in m.set set_room in
    made (stored n m.set k.set_length b) (next_place n k.set_length) m.scheme k.scheme_length
    k.last k.last_length k.ends k.fourth

abbrev pub in_scheme : Memory → ℕ → Memory
in_scheme m b = let k = m.lines in let n = room_in m.scheme scheme_room in
    made m.set k.set_length (stored n m.scheme k.scheme_length b) (next_place n k.scheme_length)
    k.last k.last_length k.ends k.fourth

abbrev pub in_last : Memory → ℕ → Memory
in_last m b = let k = m.lines in
    made m.set k.set_length m.scheme k.scheme_length
    (stored last_room k.last k.last_length b) (next_place last_room k.last_length) k.ends
    k.fourth

-- by the number of line ends before the byte, and whether it is one
abbrev pub byte_at : ℕ → Bool → Memory → ℕ → Memory
byte_at zero true m b = ended m
byte_at zero false m b = in_set m b
byte_at (suc zero) true m b = ended m
byte_at (suc zero) false m b = in_scheme m b
byte_at (suc (suc zero)) true m b = ended m
byte_at (suc (suc zero)) false m b = in_last m b
byte_at (suc (suc (suc n))) e m b = with_fourth m

-- the memory with one byte more
abbrev pub kept_byte : Memory → ℕ → Memory
kept_byte m b = byte_at m.lines.ends (is_end b) m b

-- the memory with the bytes of a chunk, one after the other
abbrev pub kept_on : Memory → List ℕ → Memory
kept_on m [] = m
kept_on m (b ∷ s) = kept_on (kept_byte m b) s
