-- What counting all lengths answers. Definitions only.
use Rattle.std.specs.Prelude.{ℕ, ◌≡◌, List, Ok, Err}
use Rattle.std.specs.declared.result.Result.{Result}
use Rattle.word.specs.Finding.{first_fault}
use Rattle.word.specs.declared.refusal.Refused.{Refused}
use Rattle.forms.specs.SchemeList.{EntryList}
use Rattle.forms.specs.SchemeMemory.{Fault, fault_of}
use Rattle.count_rows.specs.Run.{Counts}
use Rattle.count_answer.specs.Counting.{table_tests}

-- what n and the table are refused for, if they are
abbrev pub refusal_of : Result (List ℕ) Refused → Fault
refusal_of (Ok counts) = Ok tt
refusal_of (Err e) = Err e

-- what n and the table are refused for, or all counts
abbrev pub AllCounted : List (List ℕ) → List EntryList → ℕ → ℕ → Result (List ℕ) Refused → Type 0
AllCounted P E n cells (Ok counts) = (Ok tt ≡ fault_of (first_fault (table_tests E n cells))) × Counts P E n counts
AllCounted P E n cells (Err e) = Err e ≡ fault_of (first_fault (table_tests E n cells))
