-- The lists that patterns and schemes in memory stand for, and findings in memory. Definitions
-- only.
use Rattle.std.specs.Prelude.{ℕ, ◌*◌, Bool, true, false, List, [], map, ◌++◌, get_or, take, drop, replicate, Ok, Err}
use Rattle.std.specs.declared.result.Result.{Result}
use Rattle.word.specs.Ceilings.{COMPONENTS, PREFIX}
use Rattle.word.specs.Lists.{row}
use Rattle.word.specs.Finding.{Finding, clean, fault}
use Rattle.word.specs.Told.{Told, told_by}
use Rattle.word.specs.Refusal.{refused_at}
use Rattle.word.specs.declared.refusal.Refusal.{Refusal}
use Rattle.word.specs.declared.refusal.Refused.{Refused}
use Rattle.forms.specs.SchemeList.{Does, expands, deletes, EntryList}
use Rattle.forms.specs.declared.memory.Pattern.{Pattern}
use Rattle.forms.specs.declared.memory.Patterns.{Patterns}
use Rattle.forms.specs.declared.memory.Gap.{Gap}
use Rattle.forms.specs.declared.memory.Positions.{Positions}
use Rattle.forms.specs.declared.memory.Rule.{Rule}
use Rattle.forms.specs.declared.memory.Rule.TheVariants.{Expand, Delete}
use Rattle.forms.specs.declared.memory.Entry.{Entry}
use Rattle.forms.specs.declared.memory.Scheme.{Scheme}

-- the first n numbers of an array, with zeros where the array ends before: a length beyond the
-- array stands for a list of that length
abbrev pub padded : ℕ → List ℕ → List ℕ
padded n l = take n (l ++ replicate n 0)

-- the checker's own default values, for places behind the end of an array
abbrev pub no_pattern : Pattern
no_pattern = record { digits = []; length = 0 }

abbrev pub no_entry : Entry
no_entry = record { prefix = []; length = 0; gaps = []; widths = []; gap_count = 0; rule = Expand }

abbrev pub pattern_in : Pattern → List ℕ
pattern_in p = padded p.length p.digits

abbrev pub patterns_in : Patterns → List (List ℕ)
patterns_in s = map (λ i. pattern_in (get_or s.items i no_pattern)) (row 0 s.count)

abbrev pub gap_in : Gap → List ℕ
gap_in b = padded b.width b.parts

-- the components at index j of an array that has COMPONENTS places for each vector
abbrev pub parts_at : List ℕ → ℕ → List ℕ
parts_at l j = take COMPONENTS (drop (COMPONENTS * j) l)

-- the gap vector of an entry with index j
abbrev pub gap_at : Entry → ℕ → List ℕ
gap_at e j = padded (get_or e.widths j 0) (parts_at e.gaps j)

-- the positions that have a place in memory
abbrev pub six_of : Positions → List ℕ
six_of d = padded PREFIX d.positions

-- the set of positions; of more than have a place the others are 0, which is no position
abbrev pub positions_in : Positions → List ℕ
positions_in d = padded d.count (six_of d)

abbrev pub does_of : Rule → Does
does_of Expand = expands
does_of (Delete d) = deletes (positions_in d)

abbrev pub entry_in : Entry → EntryList
entry_in e =
    record {
      prefix = padded e.length e.prefix;
      gaps = map (gap_at e) (row 0 e.gap_count);
      rule = does_of e.rule;
    }

abbrev pub scheme_in : Scheme → List EntryList
scheme_in s = map (λ i. entry_in (get_or s.entries i no_entry)) (row 0 s.count)

-- the entry of a scheme at an index
abbrev pub entry_at : Scheme → ℕ → EntryList
entry_at s i = entry_in (get_or s.entries i no_entry)

-- what the tests of a list find: nothing, or a refusal with the index at fault
abbrev pub Fault : Type 0
Fault = Result (Unit {0}) Refused

-- a finding in memory
abbrev pub fault_of : Finding → Fault
fault_of clean = Ok tt
fault_of (fault r i) = Err (refused_at r i)

-- the first finding, or the second where the first is clean
abbrev pub or_else : Fault → Fault → Fault
or_else (Ok u) b = b
or_else (Err e) b = Err e

-- the refusal of the item with index i, where it is at fault
abbrev pub fault_if : Bool → Refusal → ℕ → Fault
fault_if true r i = Err (refused_at r i)
fault_if false r i = Ok tt

-- in the numbers of document 01; a finding that is clean gives these values
abbrev pub told_or : Fault → List ℕ → Told
told_or (Ok u) given = told_by clean given
told_or (Err e) given = told_by (fault e.refusal e.index) given

abbrev pub faulty : Fault → Bool
faulty (Ok u) = false
faulty (Err e) = true
