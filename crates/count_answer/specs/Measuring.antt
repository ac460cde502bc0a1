-- What is worked out of n and of the table, and what a count in that table is given. Definitions
-- only.
use Rattle.std.specs.Prelude.{ℕ, ◌≤◌, ◌≡◌, List, length, Ok, Err}
use Rattle.word.specs.Ceilings.{LENGTH}
use Rattle.word.specs.Finding.{first_fault}
use Rattle.forms.specs.SchemeMemory.{patterns_in, scheme_in, fault_of}
use Rattle.forms.specs.declared.memory.Patterns.{Patterns}
use Rattle.forms.specs.declared.memory.Scheme.{Scheme}
use Rattle.verdict.specs.Truth.{WellFormed, AllTrue}
use Rattle.count_plan.specs.Layout.{rows_of, need_of}
use Rattle.count_plan.specs.Plan.{Places}
use Rattle.count_entry.specs.Frames.{frame_of}
use Rattle.count_answer.specs.Counting.{table_tests}
use Rattle.count_answer.specs.declared.measure.Measure.{Measure}
use Rattle.std.specs.declared.result.Result.{Result}
use Rattle.word.specs.declared.refusal.Refused.{Refused}

-- the places and the layout are those of n
pub record LaidOut (s : Scheme) (n : ℕ) (m : Measure) : Type 0 where
  pub placed : Places n s m.places
  pub framed : m.frame ≡ frame_of m.places n s.count (rows_of (scheme_in s))

-- the refusal is what the tests of n and of the table find; where they find none, the places and
-- the layout are those of n
abbrev pub Measured : Scheme → ℕ → ℕ → Result Measure Refused → Type 0
Measured s n cells (Ok m) = (Ok tt ≡ fault_of (first_fault (table_tests (scheme_in s) n cells))) × LaidOut s n m
Measured s n cells (Err e) = Err e ≡ fault_of (first_fault (table_tests (scheme_in s) n cells))

-- an accepted scheme, and a table of this layout that is long enough
pub record TableGiven (patterns : Patterns) (s : Scheme) (m : Measure) (T : List ℕ) : Type 0 where
  pub formed : WellFormed (patterns_in patterns) (scheme_in s)
  pub truth : AllTrue (patterns_in patterns) (scheme_in s)
  pub small : m.frame.last ≤ LENGTH
  pub placed : Places m.frame.last s m.places
  pub framed : m.frame ≡ frame_of m.places m.frame.last s.count (rows_of (scheme_in s))
  pub room : need_of m.frame.last (scheme_in s) ≤ length T
