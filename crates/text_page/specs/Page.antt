-- A lent page with bytes written over it. Definitions only.
use Rattle.std.specs.Prelude.{ℕ, zero, suc, ◌+◌, ◌≤◌, ◌≡◌, List, [], ◌∷◌, length}

-- the page with the bytes written from a place on, as far as the page reaches
abbrev pub overlay : ℕ → List ℕ → List ℕ → List ℕ
overlay at xs [] = []
overlay zero [] (y ∷ t) = y ∷ t
overlay zero (x ∷ xs) (y ∷ t) = x ∷ overlay zero xs t
overlay (suc at) xs (y ∷ t) = y ∷ overlay at xs t

-- what writing bytes at a place comes to: the next place, and the page afterwards
pub record Writes (xs : List ℕ) (at : ℕ) (before after : List ℕ) (next : ℕ) : Type 0 where
  pub moved : next ≡ at + length xs
  pub page : after ≡ overlay at xs before

-- the place behind these bytes is a number that fits
pub record Room (xs : List ℕ) (at : ℕ) : Type 0 where
  pub fits : at + length xs ≤ 2000000
