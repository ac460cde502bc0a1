-- A member of a cell, built from the prefix, the spacing and its rest. Definitions only.
use Rattle.std.specs.Prelude.{ℕ, suc, ◌+◌, ◌-◌, cond, List, [], ◌∷◌, ◌++◌, map, take, leb}
use Rattle.cell.specs.Cell.{total}

-- how many values of the rest lie below the prefix value a: what the components before it hold
-- together
unfoldable pub level : List ℕ → ℕ → ℕ
unfolding total
level g a = total (take a g)

-- the actual value of the prefix value a
unfoldable pub val : List ℕ → ℕ → ℕ
unfolding level
val g a = a + level g a

-- the actual value of the rest value s
unfoldable pub lift : List ℕ → ℕ → ℕ
lift [] s = s
lift (x ∷ g) s = cond (leb s x) s (suc (x + lift g (s - x)))

-- the word with the entries of p at spacing g, followed by the rest σ
unfoldable pub built : List ℕ → List ℕ → List ℕ → List ℕ
unfolding val lift
built p g σ = map (val g) p ++ map (lift g) σ
