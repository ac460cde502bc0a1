-- The invariant of the loop of `scheme::links::without_position`.
use mathlib.Core.Path.{◌≡◌}
use mathlib.Core.List.{[], ◌∷◌}
use lib.ListN.{length, take}
use Rattle.word.specs.Ceilings.{PREFIX}
use Rattle.cell.specs.Cell.{deleted}
use Rattle.scheme.proofs.links.without_position.Given as goal

abbrev pub invariant-loop-j : goal.invariant-loop-j
invariant-loop-j l = (take l.j l.digits ≡ take l.j (deleted (l.r ∷ []) l.prefix)) × (length l.digits ≡ PREFIX)
