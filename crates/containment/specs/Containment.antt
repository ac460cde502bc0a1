-- The answer of the public operation `contains`. Definitions only.
use Rattle.std.specs.Prelude.{ℕ, ◌≡◌, not, List, [], ◌∷◌, length, ltb}
use Rattle.std.specs.Prelude.{Option, Some, None, Result, Ok, Err}
use Rattle.std.proofs.Math.Option.{Option as Maybe, none, some}
use Rattle.word.specs.Ceilings.{DIGITS, WORD}
use Rattle.word.specs.Word.{first_copy, is_perm}
use Rattle.word.specs.Patterns.{is_pattern}
use Rattle.copy_search.specs.Copy.{placed, shown}
use Rattle.word.specs.Finding.{Finding, clean, fault, test, first_fault}
use Rattle.word.specs.Told.{Told, told_by}
use Rattle.word.specs.declared.refusal.Refusal.TheVariants.{Oversize, NoPermutation}
use Rattle.word.specs.declared.refusal.Refused.{Refused}

-- "Containment takes one pattern and one permutation of up to 20 entries (ε allowed); it tests 2
-- and 3, the pattern first" (01)
abbrev pub containment_tests : List ℕ → List ℕ → List Finding
containment_tests β w =
    test Oversize (ltb DIGITS (length β)) ∷ test NoPermutation (not (is_pattern β)) ∷
    test Oversize (ltb WORD (length w)) ∷ test NoPermutation (not (is_perm w)) ∷ []

-- "Containment now gives the positions of the copy that is lexicographically first, or says there
-- is none" (02, order 1)
abbrev pub answer_of : Finding → Maybe (List ℕ) → Result (Option (List ℕ)) Refused
answer_of (fault r i) copy = Err (record { refusal = r; index = i })
answer_of clean copy = Ok (shown copy)

abbrev pub containment : List ℕ → List ℕ → Result (Option (List ℕ)) Refused
containment β w = answer_of (first_fault (containment_tests β w)) (first_copy β w)

-- what containment gives, in numbers: 1 for yes and then the positions with their zeros, 0 for no
abbrev pub values_of : Maybe (List ℕ) → List ℕ
values_of none = 0 ∷ []
values_of (some at) = 1 ∷ placed at

abbrev pub given : List ℕ → List ℕ → List ℕ
given β w = values_of (first_copy β w)

-- the answer in the numbers of document 01
abbrev pub told_with : Option (List ℕ) → Told
told_with (Some at) = told_by clean (1 ∷ at)
told_with None = told_by clean (0 ∷ [])

abbrev pub told_contained : Result (Option (List ℕ)) Refused → Told
told_contained (Ok copy) = told_with copy
told_contained (Err r) = told_by (fault r.refusal r.index) []

-- the answer r to whether the permutation w contains the pattern β, and where
pub record Decides (β w : List ℕ) (r : Result (Option (List ℕ)) Refused) : Type 0 where
  pub answer : r ≡ containment β w
  -- the number and the values of document 01
  pub numbers : told_contained r ≡ told_by (first_fault (containment_tests β w)) (given β w)
