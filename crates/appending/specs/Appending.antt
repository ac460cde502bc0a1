-- What the search that appends values is told of the patterns, and what its tests say. Definitions
-- only.
use Rattle.std.specs.Prelude.{ℕ, ◌≤◌, ◌≡◌, Bool, true, false, List}
use Rattle.word.specs.Ceilings.{DIGITS}
use Rattle.completion.specs.Completion.{completable, all_allowed}
use Rattle.crowding.specs.Crowding.{shortest_rising, shortest_falling}

-- the lengths of the shortest increasing and of the shortest decreasing pattern, 0 for none
pub record Shortest (P : List (List ℕ)) (rises falls : ℕ) : Type 0 where
  pub rising : rises ≡ shortest_rising P
  pub falling : falls ≡ shortest_falling P
  pub rises_fit : rises ≤ DIGITS
  pub falls_fit : falls ≤ DIGITS

-- where u is ruled out, it cannot be completed; where it is not, every unused value can follow it
pub record RuledOut (P : List (List ℕ)) (n : ℕ) (u : List ℕ) (r : Bool) : Type 0 where
  pub yes : r ≡ true → completable P n u ≡ false
  pub no : r ≡ false → all_allowed P n u ≡ true
