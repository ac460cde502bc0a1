-- The earliest pattern of a list that has a copy in a word (02, order 1). Definitions only.
use Rattle.std.specs.Prelude.{ℕ, suc, Bool, true, false, List, [], ◌∷◌}
use Rattle.std.proofs.Math.Option.{Option, none, some}
use Rattle.word.specs.Word.{first_copy}

-- no pattern has a copy, or one has: its index, and the positions of its first copy
pub data Earliest : Type 0 where
  nowhere : Earliest
  stands : ℕ → List ℕ → Earliest

abbrev pub copy_or : ℕ → Option (List ℕ) → Earliest → Earliest
copy_or i none later = later
copy_or i (some at) later = stands i at

-- the earliest of the patterns that has a copy, where they are counted from i on
unfoldable pub earliest_from : ℕ → List (List ℕ) → List ℕ → Earliest
unfolding first_copy
earliest_from i [] w = nowhere
earliest_from i (β ∷ P) w = copy_or i (first_copy β w) (earliest_from (suc i) P w)

-- "the copy is the lexicographically first of the earliest pattern that has one" (02, order 1)
unfoldable pub earliest : List (List ℕ) → List ℕ → Earliest
unfolding earliest_from
earliest P w = earliest_from 0 P w

-- no pattern has a copy
abbrev pub is_nowhere : Earliest → Bool
is_nowhere nowhere = true
is_nowhere (stands i at) = false

-- the positions of the copy
abbrev pub positions_of : Earliest → List ℕ
positions_of nowhere = []
positions_of (stands i at) = at
