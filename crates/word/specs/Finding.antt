-- The order of refusals: an input goes through a list of tests, and the first with a fault refuses
-- it.
use Rattle.std.specs.Prelude.{ℕ, Bool, true, false, List, [], ◌∷◌}
use Rattle.word.specs.declared.refusal.Refusal.{Refusal}

-- what a test finds: nothing, or a fault with its refusal and the index at fault
pub data Finding : Type 0 where
  clean : Finding
  fault : Refusal → ℕ → Finding

-- a test whose fault lies in no pattern or entry has the index 0
abbrev pub test : Refusal → Bool → Finding
test r true = fault r 0
test r false = clean

-- the first fault in the order of the tests
abbrev pub first_fault : List Finding → Finding
first_fault [] = clean
first_fault (clean ∷ l) = first_fault l
first_fault (fault r i ∷ l) = fault r i
