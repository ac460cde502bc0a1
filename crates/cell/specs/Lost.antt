-- The inversions that a member of a cell loses by a deletion: order 5 of document 02. Definitions
-- only.
use Rattle.std.specs.Prelude.{ℕ, ◌+◌, ◌-◌, List, map}
use Rattle.word.specs.Word.{entry}
use Rattle.word.specs.Inversions.{inversions}
use Rattle.cell.specs.Cell.{total, without}
use Rattle.cell.specs.Built.{level}

-- "The inversions lost by a deletion follow from prefix and spacing" (02, order 5): those of the
-- prefix p less those of what the positions R leave of it, and for each position of R as many as
-- there are entries behind the prefix below its value, which is its level in the spacing g
unfoldable pub lost_inversions : List ℕ → List ℕ → List ℕ → ℕ
unfolding inversions without total level entry
lost_inversions p R g = (inversions p - inversions (without R p)) + total (map (λ r. level g (entry p r)) R)
