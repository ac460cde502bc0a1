-- The bytes of a text in UTF-8: the examples stand as document 01 prints them. Definitions only.
use Rattle.std.specs.Prelude.{ℕ, ◌+◌, ◌%◌, ◌/◌, cond, List, [], ◌∷◌, ◌++◌, ltb}
use Prim.Native.Char.{code}
use Prim.Native.String.{String, [] as end, ◌∷◌ as ◌then◌}

-- the character with this code, below 0x10000: one byte, two or three
abbrev pub encoded : ℕ → List ℕ
encoded n =
    cond (ltb n 0x80) (n ∷ [])
    (cond (ltb n 0x800) ((0xC0 + n / 0x40) ∷ (0x80 + n % 0x40) ∷ [])
    ((0xE0 + n / 0x1000) ∷ (0x80 + n / 0x40 % 0x40) ∷ (0x80 + n % 0x40) ∷ []))

unfoldable pub bytes : String → List ℕ
bytes end = []
bytes (c then s) = encoded (code c) ++ bytes s
