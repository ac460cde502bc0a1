-- `count_figures::children::add_part` meets its contract.
-- Assumes nothing.
use borrow.Author.Rules.{rules}
use native.Mathlib.Omega.{arith}
use native.Mathlib.Numerals.{add-one}
use native.Mathlib.Nat.{mul-le-mul_right}
use Prim.Native.Nat.{ℕ, ◌+◌, ◌-◌, ◌≤◌, ◌<◌}
use mathlib.Core.Path.{◌≡◌, refl, ◌∙◌, subst}
use mathlib.Core.List.{List, map}
use lib.ListN.{length}
use Rattle.word.specs.Ceilings.{FIGURES}
use Rattle.cell.specs.Binomial.{binomial}
use Rattle.spacing.specs.Sizes.{CHOICES}
use Rattle.spacing.specs.PascalLaws.{binomial_small}
use Rattle.count_step.specs.Sums.{part_places}
use Rattle.count_step.specs.Task.{REACH}
use Rattle.count_step.proofs.SumLaws.{part_cut}
use Rattle.count_figures.specs.Figures.{moved_at, spread_at}
use Rattle.count_figures.specs.Adding.{Adds}
use Rattle.count_figures.specs.Steps.{numbers_from}
use Rattle.count_figures.proofs.AddLaws.{Left, left_cell, left_end}
use Rattle.count_figures.proofs.children.add_part.Invariants.{whole}
use Rattle.count_figures.proofs.children.add_part.Goals as goal

pub overflow_add-z-end : goal.overflow_add-z-end
overflow_add-z-end c = omega (arith, c.requires.0.sum)

pub loop-z-init : goal.loop-z-init
loop-z-init c =
    let a = c.args in
    let e : a.part.first + a.part.values - a.part.first ≡ a.part.values = omega arith in
    record {
      size = refl;
      low = omega arith;
      high = omega arith;
      moved = omega arith;
      left = λ F h. subst (λ (n : ℕ). Adds a.figures.now F (spread_at a.part.moved
          (map (numbers_from a.shape a.table.now) (part_places a.part.at a.part.col a.part.first n)))) e h;
    }

pub choose-requires : goal.choose-requires
choose-requires c =
    let l = c.loop-z in
    (omega (arith, c.requires.0.sum), c.requires.0.col, c.requires.1)

pub overflow_add-cell : goal.overflow_add-cell
overflow_add-cell c =
    omega (arith, c.requires.0.near, c.choose.ensures, binomial_small c.loop-z.z c.args.part.col (omega (arith, c.requires.0.sum)))

pub overflow_mul-shape : goal.overflow_mul-shape
overflow_mul-shape c =
    let a = c.args in
    let cell : ℕ = a.part.at + c.choose.result in
    let low : cell ≤ REACH + CHOICES =
    omega (arith, c.requires.0.near, c.choose.ensures, binomial_small c.loop-z.z c.args.part.col (omega (arith, c.requires.0.sum))) in
    omega (arith, mul-le-mul_right {m = a.shape.numbers} {n = FIGURES} cell c.requires.0.few, low)

pub add_moved-requires : goal.add_moved-requires
add_moved-requires c =
    let l = c.loop-z in
    omega (arith, c.requires.0.room, l.invariant.size, l.invariant.moved)

pub overflow_add-d : goal.overflow_add-d
overflow_add-d c =
    let l = c.loop-z in
    let few : length l.figures ≤ 9223372036854775807 = (search rules) in
    omega (arith, c.requires.0.room, l.invariant.size, l.invariant.moved)

pub loop-z-preserved : goal.loop-z-preserved
loop-z-preserved c =
    let a = c.args in
    let l = c.loop-z in
    let len : length c.add_moved.new.figures ≡ length l.figures = search rules in
    let turn : l.z < a.part.first + a.part.values = omega arith in
    record {
      size = len ∙ l.invariant.size;
      low = omega (arith, l.invariant.low);
      high = omega arith;
      moved = omega (arith, l.invariant.low, l.invariant.moved);
      left = rw (add-one l.d) (left_cell (numbers_from a.shape a.table.now) a.figures.now
          (whole a.part a.shape a.table.now) l.figures l.d c.add_moved.new.figures
          (a.part.at + binomial l.z a.part.col)
          (part_places a.part.at a.part.col (l.z + 1) (a.part.first + a.part.values - (l.z + 1)))
          (subst (λ (n : ℕ). Adds l.figures c.add_moved.new.figures
          (moved_at l.d (numbers_from a.shape a.table.now (a.part.at + n))))
          c.choose.ensures c.add_moved.ensures)
          (subst (λ (k : List ℕ). Left (numbers_from a.shape a.table.now) a.figures.now
          (whole a.part a.shape a.table.now) l.figures l.d k)
          (part_cut a.part.at a.part.col l.z (a.part.first + a.part.values) turn) l.invariant.left));
    }

pub shape_of-figures : goal.shape_of-figures
shape_of-figures c = c.loop-z.invariant.size

pub returns : goal.returns
returns c =
    let a = c.args in
    let l = c.loop-z in
    let e : a.part.first + a.part.values - l.z ≡ 0 = omega arith in
    left_end (numbers_from a.shape a.table.now) a.figures.now (whole a.part a.shape a.table.now) l.figures l.d
    (subst (λ (n : ℕ). Left (numbers_from a.shape a.table.now) a.figures.now (whole a.part a.shape a.table.now)
    l.figures l.d (part_places a.part.at a.part.col l.z n)) e l.invariant.left)
