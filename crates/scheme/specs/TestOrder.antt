-- What the tests in memory have in hand: an item at a place, the items before a place, the tests in
-- three parts.
use Rattle.std.specs.Prelude.{ℕ, zero, suc, List, [], ◌∷◌, get_or}
use Rattle.word.specs.Finding.{Finding}
use Rattle.forms.specs.SchemeList.{EntryList}
use Rattle.scheme.specs.WellFormed.{count_test, size_test, permutation_test, twin_test, root_test, width_test}
use Rattle.scheme.specs.WellFormed.{position_test, child_test, target_test}
use Rattle.forms.specs.SchemeMemory.{pattern_in, no_pattern}
use Rattle.forms.specs.declared.memory.Patterns.{Patterns}

-- the pattern at a place
abbrev pub place_in : Patterns → ℕ → List ℕ
place_in s i = pattern_in (get_or s.items i no_pattern)

-- the items at the places before i, the last first
abbrev pub seen : {A : Type 0} → (ℕ → A) → ℕ → List A
seen g zero = []
seen g (suc i) = g i ∷ seen g i

-- the tests of a scheme list in three parts: those of the ceilings, those of each entry, those that
-- look entries up
abbrev pub size_tests : List EntryList → List Finding
size_tests E = count_test E ∷ size_test E ∷ []

abbrev pub entry_tests : List EntryList → List Finding
entry_tests E = permutation_test E ∷ twin_test E ∷ root_test E ∷ width_test E ∷ position_test E ∷ []

abbrev pub link_tests : List EntryList → List Finding
link_tests E = child_test E ∷ target_test E ∷ []
