-- The memory of a scheme list of any size: true counts and lengths, the first 128 entries, of each
-- the first 6 digits, the first 8 vectors and the first 6 deleted positions, of each vector the
-- first 7 components. Definitions only.
use Rattle.std.specs.Prelude.{ℕ, List, [], map, length}
use Rattle.word.specs.Ceilings.{ENTRIES, PREFIX}
use Rattle.forms.specs.SchemeList.{Does, expands, deletes, EntryList}
use Rattle.forms.specs.declared.memory.Positions.{Positions}
use Rattle.forms.specs.declared.memory.Rule.{Rule}
use Rattle.forms.specs.declared.memory.Rule.TheVariants.{Expand, Delete}
use Rattle.forms.specs.declared.memory.Entry.{Entry}
use Rattle.forms.specs.declared.memory.Scheme.{Scheme}
use Rattle.text_patterns.specs.PatternMemory.{filled}
use Rattle.text_gaps.specs.GapMemory.{gap_of, positions_from, parts_of_all, widths_of}

-- the first six positions, and how many there are
abbrev pub positions_of : List ℕ → Positions
positions_of R = positions_from (gap_of R)

abbrev pub rule_of : Does → Rule
rule_of expands = Expand
rule_of (deletes R) = Delete (positions_of R)

abbrev pub entry_of : EntryList → Entry
entry_of e =
    record {
      prefix = filled PREFIX 0 e.prefix;
      length = length e.prefix;
      gaps = parts_of_all e.gaps;
      widths = widths_of e.gaps;
      gap_count = length e.gaps;
      rule = rule_of e.rule;
    }

-- the entry at places behind the end
abbrev pub plain_entry : EntryList
plain_entry = record { prefix = []; gaps = []; rule = expands }

unfoldable pub loaded_scheme : List EntryList → Scheme
loaded_scheme E = record { entries = filled ENTRIES (entry_of plain_entry) (map entry_of E); count = length E }
