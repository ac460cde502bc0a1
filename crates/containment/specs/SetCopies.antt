-- The memory form of the first copy of the earliest pattern of a set: the index of the pattern, the
-- positions, then zeros. Definitions only.
use Rattle.std.specs.Prelude.{length, Option, Some, None}
use Rattle.word.specs.Earliest.{Earliest, nowhere, stands}
use Rattle.copy_search.specs.Copy.{placed}
use Rattle.containment.specs.declared.SetCopy.{SetCopy}

-- the index of the pattern, and its length, which is that of the copy
abbrev pub shown_in : Earliest → Option SetCopy
shown_in nowhere = None
shown_in (stands i at) = Some (record { pattern = i; length = length at; at = placed at })
