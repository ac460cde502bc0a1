-- The next entry of a member of a cell: the child that it belongs to, and the child's spacing.
-- Definitions only.
use Rattle.std.specs.Prelude.{ℕ, suc, ◌-◌, cond, List, [], ◌∷◌, ◌++◌, map, leb}
use Rattle.word.specs.Word.{bump}

-- The next entry is the s-th of the values that the first entries leave, in rising order. The value
-- that it has in the child's prefix: one more than the number of components of g that end before
-- it.
unfoldable pub slot : List ℕ → ℕ → ℕ
slot [] s = 1
slot (x ∷ g) s = cond (leb s x) 1 (suc (slot g (s - x)))

-- the child of p whose last entry is a: the entries of p from a on move up by one
unfoldable pub child_at : List ℕ → ℕ → List ℕ
unfolding bump
child_at p a = map (bump a) p ++ (a ∷ [])

-- the spacing of the child: the component that holds s becomes two, what it holds below s and what
-- it holds above s
unfoldable pub split : List ℕ → ℕ → List ℕ
split [] s = []
split (x ∷ g) s = cond (leb s x) ((s - 1) ∷ ((x - s) ∷ g)) (x ∷ split g (s - x))
