-- One gap vector of an entry, with its components and their number. Definitions only.
use Rattle.std.specs.Prelude.{ℕ, List, get_or}
use Rattle.forms.specs.SchemeMemory.{parts_at}
use Rattle.forms.specs.declared.memory.Gap.{Gap}
use Rattle.forms.specs.declared.memory.Entry.{Entry}

-- the vector with index j of an array of components and one of widths
abbrev pub gap_from : List ℕ → List ℕ → ℕ → Gap
gap_from gaps widths j = record { parts = parts_at gaps j; width = get_or widths j 0 }

-- the vector of an entry with index j
abbrev pub entry_gap : Entry → ℕ → Gap
entry_gap e j = gap_from e.gaps e.widths j
