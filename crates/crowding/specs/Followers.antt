-- What the code of the crowding test computes: how many unused values can follow each end, and the
-- test in these numbers. Definitions only.
use Rattle.std.specs.Prelude.{ℕ, ◌+◌, ◌-◌, ◌*◌, ◌<◌, ◌≡◌, Bool, List, length, get_or, ltb}
use Rattle.word.specs.Lists.{any, keep, row}
use Rattle.crowding.specs.Crowding.{precedes, ends}

-- how many entries of w stand behind x in the direction
unfoldable pub following : Bool → ℕ → List ℕ → ℕ
unfolding precedes
following up x w = length (keep (precedes up x) w)

-- how many entries of `rest` can follow the end of a monotone subsequence of l entries of u
abbrev pub followers_of : Bool → ℕ → List ℕ → List ℕ → ℕ → ℕ
followers_of up n u rest l = following up (ends up n u l) rest

-- the first k elements of an array are the values of f from 0 on
abbrev pub Holds : ℕ → (ℕ → ℕ) → List ℕ → Type 0
Holds k f s = (l : ℕ) → l < k → get_or s l 0 ≡ f l

-- The test at an end that `high` of the `unused` values can follow, with `room` entries that may
-- still increase, and at the end for m of a decreasing subsequence. The sum on the right counts a
-- value between the two ends twice, and each other value once if the ends are in order.
abbrev pub over_at : ℕ → ℕ → ℕ → List ℕ → ℕ → ℕ → Bool
over_at room high unused lows falls m = ltb (room * (falls - 1 - m) + unused) (high + get_or lows m 0)

abbrev pub over_row : ℕ → ℕ → ℕ → List ℕ → ℕ → Bool
over_row room high unused lows falls = any (over_at room high unused lows falls) (row 0 falls)

abbrev pub over_some : ℕ → List ℕ → ℕ → List ℕ → ℕ → Bool
over_some unused highs rises lows falls = any (λ l. over_row (rises - 1 - l) (get_or highs l 0) unused lows falls) (row 0 rises)
