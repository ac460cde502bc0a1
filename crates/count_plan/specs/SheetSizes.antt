-- The sizes of the sheet; src/sheet.rt has the same names for the code. Definitions only.
use Rattle.std.specs.Prelude.{ℕ, ◌+◌, ◌*◌}
use Rattle.word.specs.Ceilings.{ENTRIES, PARTS, LINKS}

-- bytes before the flags of the values: four numbers of an entry
abbrev pub FLAGS : ℕ
FLAGS = 4

-- bytes before the links: those, the flags, and zeros
abbrev pub FIELDS : ℕ
FIELDS = 16

-- bytes before the gap vectors
abbrev pub HEAD : ℕ
HEAD = FIELDS + LINKS

-- bytes of an entry
abbrev pub CARD : ℕ
CARD = HEAD + PARTS

-- bytes of all entries
abbrev pub SHEET : ℕ
SHEET = ENTRIES * CARD
