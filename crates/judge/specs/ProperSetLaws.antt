-- A set of patterns in memory that passed its tests is proper, as the claims ask.
use Rattle.std.specs.Prelude.{ℕ, ◌≡◌, List}
use mathlib.Core.List.{Memᴰ}
use Rattle.word.specs.Finding.{clean, first_fault}
use Rattle.forms.specs.SchemeMemory.{patterns_in}
use Rattle.forms.specs.declared.memory.Patterns.{Patterns}
use Rattle.scheme.specs.WellFormed.{pattern_tests}
use Rattle.scheme.specs.ProperLaws.{few_patterns, proper_pattern}
use Rattle.claims.specs.EntryMemory.{ProperSet}

pub proper_set : (s : Patterns) → first_fault (pattern_tests (patterns_in s)) ≡ clean → ProperSet (patterns_in s)
proper_set s formed =
    record {
      few = few_patterns (patterns_in s) formed;
      perms = λ (β : List ℕ) (m : Memᴰ β (patterns_in s)). (proper_pattern (patterns_in s) formed β m).perm;
    }
