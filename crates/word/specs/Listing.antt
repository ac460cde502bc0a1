-- The first avoider of a length, the next after an avoider, and what following next gives, in
-- lexicographic order (02, order 2). Definitions only.
use Rattle.std.specs.Prelude.{ℕ, ◌≡◌, Bool, true, false, List, [], ◌∷◌, length}
use Rattle.std.proofs.Math.Option.{Option, none, some}
use Rattle.word.specs.Lists.{first}
use Rattle.word.specs.Word.{is_perm, avoids, avoiders, before}

-- the first word of a list, or none
unfoldable pub head_of : List (List ℕ) → Option (List ℕ)
head_of [] = none
head_of (w ∷ l) = some w

-- "there is also a first, or none": the head of the avoiders of length n
unfoldable pub first_avoider : List (List ℕ) → ℕ → Option (List ℕ)
unfolding head_of avoiders
first_avoider P n = head_of (avoiders P n)

-- "give the next of the same length in lexicographic order, or say it was the last": the first of
-- the avoiders of that length that comes after w
unfoldable pub next_avoider : List (List ℕ) → List ℕ → Option (List ℕ)
unfolding avoiders before
next_avoider P w = first (before w) (avoiders P (length w))

-- starting at this word, or at none, and following next until there is none gives this list
unfoldable pub Follows : List (List ℕ) → Option (List ℕ) → List (List ℕ) → Type 0
unfolding next_avoider
Follows P o [] = o ≡ none
Follows P o (w ∷ l) = (o ≡ some w) × Follows P (next_avoider P w) l

-- v is an avoider of length n for which the test holds, and no avoider of that length for which it
-- holds comes before it
pub record LeastAvoider (P : List (List ℕ)) (n : ℕ) (f : List ℕ → Bool) (v : List ℕ) : Type 0 where
  pub perm : is_perm v ≡ true
  pub size : length v ≡ n
  pub avoids_all : avoids P v ≡ true
  pub holds : f v ≡ true
  pub least : (x : List ℕ) → is_perm x ≡ true → length x ≡ n → avoids P x ≡ true → f x ≡ true → before x v ≡ false
