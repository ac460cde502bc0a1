-- What the searches for a value and for an avoider promise. Definitions only.
use Rattle.std.specs.Prelude.{ℕ, ◌≤◌, ◌<◌, ◌≡◌, true, false, List, [], ◌∷◌, ◌++◌, length, get_or, take, drop}
use Rattle.std.specs.Prelude.{Option, Some, None}
use Rattle.std.proofs.Math.Option.{Option as Maybe, none, some}
use Rattle.word.specs.Lists.{first}
use Rattle.word.specs.Word.{is_perm, avoids, avoiders, has}
use Rattle.completion.specs.Completion.{begins, completable}
use Rattle.arrangement.specs.Searching.{Completes}

-- the place of v among the entries from the place i to n of a word, or none
pub record PlaceOf (w : List ℕ) (i n v : ℕ) (r : Option ℕ) : Type 0 where
  pub from : (j : ℕ) → r ≡ Some j → i ≤ j
  pub to : (j : ℕ) → r ≡ Some j → j < n
  pub there : (j : ℕ) → r ≡ Some j → get_or w j 0 ≡ v
  pub nowhere : r ≡ None → has v (drop i (take n w)) ≡ false

-- u with each value from `low` to below `high` behind it cannot be completed
abbrev pub NoneBetween : List (List ℕ) → ℕ → List ℕ → ℕ → ℕ → Type 0
NoneBetween P n u low high = (y : ℕ) → low ≤ y → y < high → completable P n (u ++ (y ∷ [])) ≡ false

-- x is the least value from `low` on with which u can be completed, and w is such a completion
pub record LeastValue (P : List (List ℕ)) (n : ℕ) (u : List ℕ) (low high : ℕ) (w : List ℕ) : Type 0 where
  pub value : ℕ
  pub from : low ≤ value
  pub below : value < high
  pub least : NoneBetween P n u low value
  pub completes : Completes P n (u ++ (value ∷ [])) w

-- the answer to which value from `low` to below `high` is the least with which u can be completed
pub record SeeksValue (P : List (List ℕ)) (n : ℕ) (u : List ℕ) (low high : ℕ) (r : Option (List ℕ)) : Type 0 where
  pub yes : (w : List ℕ) → r ≡ Some w → LeastValue P n u low high (take n w)
  pub no : r ≡ None → NoneBetween P n u low high

-- w is an avoider of length n
pub record Avoider (P : List (List ℕ)) (n : ℕ) (w : List ℕ) : Type 0 where
  pub perm : is_perm w ≡ true
  pub size : length w ≡ n
  pub avoids_all : avoids P w ≡ true

-- the first avoider of length n that begins with u
abbrev pub least_from : List (List ℕ) → ℕ → List ℕ → Maybe (List ℕ)
least_from P n u = first (begins u) (avoiders P n)

-- one place further: r is an avoider, and the first avoider with the first i entries of w is the
-- first with the first i + 1 entries of r
pub record Lowers (P : List (List ℕ)) (n i j : ℕ) (w r : List ℕ) : Type 0 where
  pub avoider : Avoider P n (take n r)
  pub same_least : least_from P n (take i w) ≡ least_from P n (take j r)

-- the avoider that an answer gives, or none
abbrev pub given_in : ℕ → Option (List ℕ) → Maybe (List ℕ)
given_in n (Some w) = some (take n w)
given_in n None = none
