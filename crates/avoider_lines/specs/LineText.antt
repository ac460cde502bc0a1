-- The line of an avoider, as bytes (02, order 2). Definitions only.
use Rattle.std.specs.Prelude.{ℕ, ◌+◌, ◌*◌, List, [], ◌∷◌, ◌++◌}
use Rattle.word.specs.Ceilings.{WORD}
use Rattle.text_page.specs.Decimal.{NUMERAL, decimal}

-- the entries behind the first, a space before each, and the line end
abbrev pub further_text : List ℕ → List ℕ
further_text [] = 0x0A ∷ []
further_text (a ∷ w) = 0x20 ∷ (decimal a ++ further_text w)

-- "prints each avoider on a line, entries separated by spaces"; the line of ε is empty
abbrev pub line_of : List ℕ → List ℕ
line_of [] = 0x0A ∷ []
line_of (a ∷ w) = decimal a ++ further_text w

-- a page of so many bytes is always enough: for each entry a number and a byte, and one byte more;
-- text::LINE
abbrev pub LINE : ℕ
LINE = WORD * (NUMERAL + 1) + 1
