-- The invariant of the loop of `count_figures::children::add_part`.
use Prim.Native.Nat.{ℕ, ◌+◌, ◌-◌, ◌≤◌}
use mathlib.Core.Path.{◌≡◌}
use mathlib.Core.List.{List, map}
use lib.ListN.{length}
use Rattle.count_step.specs.Sums.{part_places}
use Rattle.count_figures.specs.Figures.{spread_at}
use Rattle.count_figures.specs.Steps.{numbers_from}
use Rattle.count_figures.specs.declared.children.Part.{Part}
use Rattle.count_figures.specs.declared.children.Shape.{Shape}
use Rattle.count_figures.proofs.AddLaws.{Left}
use Rattle.count_figures.proofs.children.add_part.Given as goal

-- what the cells of the part add
abbrev pub whole : Part → Shape → List ℕ → ℕ → ℕ
whole p s T = spread_at p.moved (map (numbers_from s T) (part_places p.at p.col p.first p.values))

-- z goes through the values, and the figures of its cell are moved up by d
pub record Going (p : Part) (s : Shape) (T before now : List ℕ) (end d z : ℕ) : Type 0 where
  pub size : length now ≡ length before
  pub low : p.first ≤ z
  pub high : z ≤ end
  pub moved : d ≡ p.moved + (z - p.first)
  pub left : Left (numbers_from s T) before (whole p s T) now d (part_places p.at p.col z (end - z))

abbrev pub invariant-loop-z : goal.invariant-loop-z
invariant-loop-z l = Going l.part l.shape l.table l.initial.figures l.figures (l.part.first + l.part.values) l.d l.z
