-- The ceilings of document 01, and the sizes that follow from them; src/limits.rt has the same
-- names for the code. Definitions only.
use Rattle.std.specs.Prelude.{ℕ, ◌+◌, ◌*◌}

-- "The set is up to 24 patterns of up to 8 digits each"
abbrev pub DIGITS : ℕ
DIGITS = 8

abbrev pub PATTERNS : ℕ
PATTERNS = 24

-- "one permutation of up to 20 entries", in which a pattern is sought
abbrev pub WORD : ℕ
WORD = 20

-- "Entries 128, prefix length 6, gap vectors per entry 8, components of a gap vector 7, total of a
-- gap vector 8, n 20"
abbrev pub ENTRIES : ℕ
ENTRIES = 128

abbrev pub PREFIX : ℕ
PREFIX = 6

abbrev pub COMPONENTS : ℕ
COMPONENTS = PREFIX + 1

abbrev pub GAPS : ℕ
GAPS = 8

-- the components of the gap vectors of an entry, one vector after the other
abbrev pub PARTS : ℕ
PARTS = GAPS * COMPONENTS

abbrev pub TOTAL : ℕ
TOTAL = 8

-- the largest length that is counted
abbrev pub LENGTH : ℕ
LENGTH = 20

-- counts for the lengths from 0 on
abbrev pub COUNTS : ℕ
COUNTS = LENGTH + 1

-- "a plain evaluation for n up to 9"
abbrev pub PLAIN_LENGTH : ℕ
PLAIN_LENGTH = 9

-- "For n up to 12" (02, order 5): the largest length that is counted by inversions
abbrev pub REFINED : ℕ
REFINED = 12

-- the figures of the largest such length, for 0 to 12 * 11 / 2 inversions
abbrev pub FIGURES : ℕ
FIGURES = 67

-- columns of binomials: C(z, 0) .. C(z, 7)
abbrev pub COLUMNS : ℕ
COLUMNS = PREFIX + 2

-- places of the children of an entry, or of its target, and one that stays 0
abbrev pub LINKS : ℕ
LINKS = PREFIX + 2

-- "Pattern text 1,024 bytes, scheme text 32,768"
abbrev pub PATTERN_TEXT : ℕ
PATTERN_TEXT = 1024

abbrev pub SCHEME_TEXT : ℕ
SCHEME_TEXT = 32768

-- "It holds 4,096 cells"
abbrev pub CELLS : ℕ
CELLS = 4096

-- "the judge's lent page of at least 32 bytes", "The first 16 bytes hold .." (02, order 1)
abbrev pub PAGE : ℕ
PAGE = 32

abbrev pub HALF : ℕ
HALF = 16
