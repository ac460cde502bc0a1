-- The memory of a gap vector of any size, and of those of an entry: the first components of each,
-- and widths; and of a set of positions. Definitions only.
use Rattle.std.specs.Prelude.{ℕ, cond, List, map, length, take, leb}
use Rattle.word.specs.Ceilings.{COMPONENTS, GAPS, PARTS, PREFIX}
use Rattle.word.specs.Lists.{each}
use Rattle.forms.specs.declared.memory.Gap.{Gap}
use Rattle.forms.specs.declared.memory.Positions.{Positions}
use Rattle.text_patterns.specs.PatternMemory.{filled}

-- a component, or a number of components, as a byte: 255 stands for every number beyond, which no
-- ceiling admits
abbrev pub part_of : ℕ → ℕ
part_of n = cond (leb n 255) n 255

-- the places of one vector
abbrev pub parts_of : List ℕ → List ℕ
parts_of b = filled COMPONENTS 0 (map part_of b)

-- one vector alone, with its true width
abbrev pub gap_of : List ℕ → Gap
gap_of b = record { parts = parts_of b; width = length b }

-- a set of positions of the same numbers: the first six of them, and how many there are
abbrev pub positions_from : Gap → Positions
positions_from g =
    record {
      positions = take PREFIX g.parts;
      count = part_of g.width;
    }

-- the places of the first vectors of a list, and how many components each has
unfoldable pub parts_of_all : List (List ℕ) → List ℕ
parts_of_all B = filled PARTS 0 (each parts_of B)

unfoldable pub widths_of : List (List ℕ) → List ℕ
widths_of B = filled GAPS 0 (map (λ b. part_of (length b)) B)
