-- Laws of answers in the numbers of document 01: a finding in memory tells what the finding tells.
-- Assumes nothing.
use Rattle.std.specs.Prelude.{ℕ, ◌≡◌, refl, List}
use Rattle.word.specs.Finding.{Finding, clean, fault}
use Rattle.word.specs.Told.{told_by}
use Rattle.forms.specs.SchemeMemory.{fault_of, told_or}

pub told_found : (x : Finding) (given : List ℕ) → told_or (fault_of x) given ≡ told_by x given
told_found clean given = refl
told_found (fault r i) given = refl
