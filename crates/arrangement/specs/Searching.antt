-- What a search for a completion promises: its yes and its no are right. Definitions only.
use Rattle.std.specs.Prelude.{ℕ, ◌≡◌, true, false, List, length, take, Option, Some, is_some}
use Rattle.word.specs.Word.{is_perm, avoids}
use Rattle.completion.specs.Completion.{begins, completable}
use Rattle.arrangement.specs.Said.{said_yes, said_no, word_in}
use Rattle.arrangement.specs.declared.searched.Searched.{Searched}

-- w is an avoider of length n that begins with u
pub record Completes (P : List (List ℕ)) (n : ℕ) (u w : List ℕ) : Type 0 where
  pub perm : is_perm w ≡ true
  pub size : length w ≡ n
  pub avoids_all : avoids P w ≡ true
  pub front : begins u w ≡ true

-- a yes comes with a completion of u, and with a no there is none
pub record Searches (P : List (List ℕ)) (n : ℕ) (u : List ℕ) (r : Searched) : Type 0 where
  pub yes : said_yes r ≡ true → Completes P n u (take n (word_in r))
  pub no : said_no r ≡ true → completable P n u ≡ false

-- whether some avoider of length n begins with u is decided, and a yes comes with such an avoider
pub record Decides (P : List (List ℕ)) (n : ℕ) (u : List ℕ) (r : Option (List ℕ)) : Type 0 where
  pub decided : is_some r ≡ completable P n u
  pub word : (w : List ℕ) → r ≡ Some w → Completes P n u (take n w)
