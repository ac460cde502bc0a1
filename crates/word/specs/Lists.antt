-- Tests over lists, and the numbers in a row: the vocabulary of the definitions.
use Rattle.std.specs.Prelude.{ℕ, zero, suc, Bool, true, false, ◌&&◌, ◌||◌, cond, List, [], ◌∷◌, ◌++◌, map}
use Rattle.std.proofs.Math.Option.{Option, none, some}

module _ {A : Type 0} where
  -- the test passes at every element
  abbrev pub all : (A → Bool) → List A → Bool
  all f [] = true
  all f (x ∷ l) = f x && all f l

  -- the test passes at some element
  abbrev pub any : (A → Bool) → List A → Bool
  any f [] = false
  any f (x ∷ l) = f x || any f l

  -- the elements at which the test passes, in their order
  abbrev pub keep : (A → Bool) → List A → List A
  keep f [] = []
  keep f (x ∷ l) = cond (f x) (x ∷ keep f l) (keep f l)

  -- the first element at which the test passes
  abbrev pub first : (A → Bool) → List A → Option A
  first f [] = none
  first f (x ∷ l) = cond (f x) (some x) (first f l)

  -- the lists f x for each element x, one after the other
  abbrev pub each : {B : Type 0} → (A → List B) → List A → List B
  each f [] = []
  each f (x ∷ l) = f x ++ each f l

  -- the sublists with k elements, in the lexicographic order of their places
  abbrev pub sublists : ℕ → List A → List (List A)
  sublists zero l = [] ∷ []
  sublists (suc k) [] = []
  sublists (suc k) (x ∷ l) = map (λ s. x ∷ s) (sublists k l) ++ sublists (suc k) l

-- n numbers in a row from a on
abbrev pub row : ℕ → ℕ → List ℕ
row a zero = []
row a (suc n) = a ∷ row (suc a) n

-- 1 to n
abbrev pub one_to : ℕ → List ℕ
one_to n = row 1 n
