-- The bytes that the table program prints. Definitions only.
use Rattle.std.specs.Prelude.{ℕ, suc, ◌+◌, List, [], ◌∷◌, ◌++◌, get_or}
use Rattle.word.specs.Told.{Told}
use Rattle.text_page.specs.Decimal.{NUMERAL, decimal}

-- "each line n, a space, the count"
abbrev pub count_line : ℕ → ℕ → List ℕ
count_line n c = decimal n ++ (0x20 ∷ (decimal c ++ (0x0A ∷ [])))

abbrev pub count_lines : ℕ → List ℕ → List ℕ
count_lines n [] = []
count_lines n (c ∷ l) = count_line n c ++ count_lines (suc n) l

-- "an OEIS b-file" of the counts for 0, 1, ..
abbrev pub bfile_text : List ℕ → List ℕ
bfile_text counts = count_lines 0 counts

-- a line has so many bytes at the most: n of two digits, a space, a number, a line end
abbrev pub LINE : ℕ
LINE = 2 + 1 + NUMERAL + 1

-- so a page of these bytes is always enough, for one line a count; printing::PAGE
abbrev pub PAGE : ℕ
PAGE = 512

-- `refused` in ASCII
abbrev pub refused : List ℕ
refused = 0x72 ∷ 0x65 ∷ 0x66 ∷ 0x75 ∷ 0x73 ∷ 0x65 ∷ 0x64 ∷ []

-- "or the one line `refused`, number and index, with single spaces between": of an answer in the
-- numbers of document 01
abbrev pub refusal_line : Told → List ℕ
refusal_line t = refused ++ (0x20 ∷ (decimal t.number ++ (0x20 ∷ (decimal (get_or t.values 0 0) ++ (0x0A ∷ [])))))
