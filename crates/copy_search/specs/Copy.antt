-- The memory form of a first copy: the positions, then zeros. Definitions only.
use Rattle.std.specs.Prelude.{ℕ, ◌-◌, List, ◌++◌, length, replicate}
use Rattle.std.specs.Prelude.{Option, Some, None}
use Rattle.std.proofs.Math.Option.{Option as Maybe, none, some}
use Rattle.word.specs.Ceilings.{DIGITS}

-- no positions
abbrev pub zeros : List ℕ
zeros = replicate DIGITS 0

-- the positions, then zeros
abbrev pub placed : List ℕ → List ℕ
placed at = at ++ replicate (DIGITS - length at) 0

-- the positions of a copy in memory, if there is one
abbrev pub shown : Maybe (List ℕ) → Option (List ℕ)
shown none = None
shown (some at) = Some (placed at)
