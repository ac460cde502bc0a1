-- The invariant of the loop of `count_figures::children::add_children`.
use Prim.Native.Nat.{ℕ, ◌+◌}
use mathlib.Core.Path.{◌≡◌}
use mathlib.Core.List.{List, map}
use lib.ListN.{length, take, drop}
use Rattle.cell.specs.Cell.{total}
use Rattle.count_step.specs.Sums.{places_of}
use Rattle.count_step.proofs.SumLaws.{Coming}
use Rattle.count_figures.specs.Figures.{spread_at}
use Rattle.count_figures.specs.Steps.{numbers_from}
use Rattle.count_figures.specs.declared.children.Shape.{Shape}
use Rattle.count_figures.proofs.AddLaws.{Left}
use Rattle.count_figures.proofs.children.add_children.Given as goal

-- what the figures of all children add, and of the cells that are left what is kept of them
abbrev pub whole : Shape → List ℕ → List ℕ → List ℕ → ℕ → ℕ
whole s T links G = spread_at 0 (map (numbers_from s T) (places_of links G))

abbrev pub Kept : Shape → List ℕ → List ℕ → List ℕ → List ℕ → List ℕ → ℕ → List ℕ → Type 0
Kept s T links G before now d l = Left (numbers_from s T) before (whole s T links G) now d l

pub record Going (s : Shape) (T links G : List ℕ) (k : ℕ) (before now : List ℕ) (above below moved z i : ℕ) : Type 0 where
  pub size : length now ≡ length before
  pub sum : moved + total (drop i G) ≡ total G
  pub coming : Coming (Kept s T links G before now moved) links G k above below z i

abbrev pub invariant-loop-i : goal.invariant-loop-i
invariant-loop-i l =
    Going l.shape l.table l.links (take (l.k + 1) l.g) l.k l.initial.figures l.figures l.above l.below l.moved l.z l.i
