-- How large binomials, ranks and the table can be, from the ceilings. Definitions only.
use Rattle.std.specs.Prelude.{ℕ, ◌+◌, ◌*◌, ◌^◌}
use Rattle.word.specs.Ceilings.{ENTRIES, PREFIX, COMPONENTS, LENGTH, COUNTS, COLUMNS}

-- the binomials in memory: a row for each length from 0 on, 21 * 8 = 168 of them
abbrev pub BINOMIALS : ℕ
BINOMIALS = COUNTS * COLUMNS

-- no binomial of a row up to LENGTH is larger: there are 2 ^ 20 choices from 20 things
abbrev pub CHOICES : ℕ
CHOICES = 2 ^ LENGTH

-- a rank is a sum of up to 7 binomials
abbrev pub RANKS : ℕ
RANKS = COMPONENTS * CHOICES

-- the cells of a row of the table: a binomial for each entry, up to 2 ^ 27 in all
abbrev pub NEAR : ℕ
NEAR = ENTRIES * CHOICES

-- where a row of the table begins: a table keeps a row more than an entry deletes positions, so up
-- to PREFIX rows come before it
abbrev pub BLOCKS : ℕ
BLOCKS = PREFIX * NEAR

-- the cells of the table; a place in it is that of a row and one in the row
abbrev pub FAR : ℕ
FAR = BLOCKS + NEAR
