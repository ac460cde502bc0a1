-- The claims of an entry, with no bound on the totals of spacings, and the sizes that judge a
-- deletion. Definitions only.
use Rattle.std.specs.Prelude.{ℕ, suc, ◌≡◌, true, length}
use mathlib.Core.List.{List, [], Memᴰ}
use Rattle.cell.specs.Cell.{cell, deleted, merged, at_least, free, m_of, compared_to}

-- "A gap vector b claims that (p; g) is empty for every g at least b in each component" (01)
abbrev pub GapClaim : List (List ℕ) → List ℕ → List ℕ → Type 0
GapClaim P p b = (g : List ℕ) → at_least g b ≡ true → cell P p g ≡ []

-- f carries the words of X one to one onto the whole of Y
pub record Carries (f : List ℕ → List ℕ) (X Y : List (List ℕ)) : Type 0 where
  pub into : (w : List ℕ) → Memᴰ w X → Memᴰ (f w) Y
  pub one_one : (v w : List ℕ) → Memᴰ v X → Memᴰ w X → f v ≡ f w → v ≡ w
  pub onto : (v : List ℕ) → Memᴰ v Y → (w : List ℕ) × Memᴰ w X × (f w ≡ v)

-- "A deletion of r claims that, for every other spacing g of any total, removing position r carries
-- (p; g) one to one onto the whole cell of the shorter prefix and merged spacing" (01), for a list
-- of positions R; the other spacings are those at least no vector of B
abbrev pub DeletionClaim : List (List ℕ) → List ℕ → List (List ℕ) → List ℕ → Type 0
DeletionClaim P p B R =
    (g : List ℕ) → length g ≡ suc (length p) → free B g ≡ true →
    Carries (deleted R) (cell P p g) (cell P (deleted R p) (merged R p g))

-- "a deletion is judged by comparing sizes" (01), at the spacings of totals below m
abbrev pub SizesAgreeTo : ℕ → List (List ℕ) → List ℕ → List (List ℕ) → List ℕ → Type 0
SizesAgreeTo m P p B R =
    (g : List ℕ) → Memᴰ g (compared_to m (length p) B) →
    length (cell P p g) ≡ length (cell P (deleted R p) (merged R p g))

abbrev pub SizesAgree : List (List ℕ) → List ℕ → List (List ℕ) → List ℕ → Type 0
SizesAgree P p B R = SizesAgreeTo (m_of P) P p B R
