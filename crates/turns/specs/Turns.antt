-- What a turn starts from. Definitions only.
use Rattle.std.specs.Prelude.{ℕ, ◌≤◌, ◌≡◌, true, List, take}
use Rattle.word.specs.Ceilings.{WORD}
use Rattle.word.specs.Word.{is_perm}
use Rattle.appending.specs.Appending.{Shortest}
use Rattle.turns.specs.declared.Start.{Start}

-- two words with the same given entries, each with the unused values behind them
pub record Ready (P : List (List ℕ)) (s : Start) : Type 0 where
  pub given : s.len ≤ s.n
  pub small : s.n ≤ WORD
  pub rising : is_perm (take s.n s.up) ≡ true
  pub falling : is_perm (take s.n s.down) ≡ true
  pub same_front : take s.len s.down ≡ take s.len s.up
  pub shortest : Shortest P s.rises s.falls
