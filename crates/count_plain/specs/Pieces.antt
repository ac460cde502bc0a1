-- The spacing of a child, piece by piece, and what an array begins with. Definitions only.
use Rattle.std.specs.Prelude.{ℕ, suc, ◌-◌, ◌≤◌, ◌≡◌, List, ◌∷◌, ◌++◌, length, get_or, take, drop}
use Rattle.cell.specs.Child.{slot, split}

-- component i becomes l - 1 and what it holds above l
abbrev pub split_at : List ℕ → ℕ → ℕ → List ℕ
split_at g i l = take i g ++ ((l - 1) ∷ ((get_or g i 0 - l) ∷ drop (suc i) g))

-- r begins with the list l
abbrev pub Begins : List ℕ → List ℕ → Type 0
Begins l r = take (length l) r ≡ l

-- the s-th of the values that the first entries leave is the l-th in component i
pub record HeldAt (g : List ℕ) (k s i l : ℕ) : Type 0 where
  pub reach : i ≤ k
  pub low : 1 ≤ l
  pub high : l ≤ get_or g i 0
  pub slot_is : slot g s ≡ suc i
  pub split_is : split g s ≡ split_at g i l
