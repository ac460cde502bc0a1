-- The binomials in memory. Definitions only.
use Rattle.std.specs.Prelude.{ℕ, ◌+◌, ◌*◌, ◌<◌, ◌≡◌, List, length, get_or}
use Rattle.word.specs.Ceilings.{COUNTS, COLUMNS}
use Rattle.cell.specs.Binomial.{binomial}
use Rattle.spacing.specs.Sizes.{BINOMIALS}

-- the binomials C(m, l) of the rows m below n, and those of row n for l below k; C(m, l) stands at
-- COLUMNS m + l
pub record PascalTo (n k : ℕ) (b : List ℕ) : Type 0 where
  pub size : length b ≡ BINOMIALS
  pub rows : (m l : ℕ) → m < n → l < COLUMNS → get_or b (COLUMNS * m + l) 0 ≡ binomial m l
  pub part : (l : ℕ) → l < k → get_or b (COLUMNS * n + l) 0 ≡ binomial n l

-- all rows up to LENGTH
abbrev pub Pascal : List ℕ → Type 0
Pascal b = PascalTo COUNTS 0 b
