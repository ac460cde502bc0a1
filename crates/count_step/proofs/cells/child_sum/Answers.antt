-- `count_step::cells::child_sum` meets its contract: what is added, and what is still to come.
-- Assumes nothing.
use borrow.Author.Rules.{rules}
use native.Mathlib.Omega.{arith}
use native.Mathlib.Nat.{zero-add}
use Prim.Native.Nat.{ℕ, ◌+◌, ◌*◌, min, ◌≤◌}
use mathlib.Core.Path.{◌≡◌, refl, ap, ◌∙◌}
use mathlib.Core.List.{List, []}
use lib.ListN.{length, get_or, take}
use Rattle.word.specs.Ceilings.{COMPONENTS, LENGTH}
use Rattle.count_step.proofs.SumLaws.{spacing_size, component, last_component, cap_cells, cap_end, Summing}
use Rattle.count_step.proofs.SumLaws.{coming_start, above_small, component_small, above_enough, coming_more, coming_end}
use Rattle.cell.specs.Cell.{total}
use Rattle.count_step.specs.Step.{LARGEST}
use Rattle.count_step.specs.Sums.{part_places, places_of, sum_of}
use Rattle.spacing.specs.PascalLaws.{binomial_small}
use Rattle.spacing.specs.Sizes.{CHOICES, RANKS}
use Rattle.count_step.proofs.cells.child_sum.Goals as goal
use Rattle.count_step.proofs.cells.child_sum.Goals.{In-loop-i, After-rank_after-above, After-from-x, After-from-last}

-- nothing is left to be added
none : (sum : ℕ) (T : List ℕ) → min (sum + 0) LARGEST ≡ min (sum + sum_of T []) LARGEST
unfolding total
none sum T = refl

-- the spacing has one component more than the prefix
size : (c : After-rank_after-above) → length (take (c.args.k + 1) c.args.g) ≡ c.args.k + 1
size c =
    let seven : length c.args.g ≡ COMPONENTS = (let o = c.well_formed in search rules) in
    spacing_size c.args.k c.args.g seven c.requires.0

-- in a turn of the loop: what is still to be counted, and the component that is gone through

above_fits : (c : In-loop-i) → c.loop-i.above ≤ RANKS + c.args.k * CHOICES
above_fits c =
    let a = c.args in
    let l = c.loop-i in
    let G = take (a.k + 1) a.g in
    let seven : length a.g ≡ COMPONENTS = (let o = c.well_formed in search rules) in
    above_small a.links G a.k (spacing_size a.k a.g seven c.requires.0)
    (Summing LARGEST a.table.now a.links G l.sum) l.above l.below l.z l.i l.invariant

x_is : (c : After-from-x) → c.from-x.result ≡ get_or (take (c.args.k + 1) c.args.g) c.loop-i.i 0
x_is c = component c.args.k c.loop-i.i c.from-x.result c.args.g c.from-x.ensures c.loop-i.invariant.reach

x_fits : (c : After-from-x) → c.loop-i.z + c.from-x.result ≤ LENGTH
x_fits c =
    let a = c.args in
    let l = c.loop-i in
    let G = take (a.k + 1) a.g in
    let seven : length a.g ≡ COMPONENTS = (let o = c.well_formed in search rules) in
    component_small a.links G a.k (spacing_size a.k a.g seven c.requires.0)
    (Summing LARGEST a.table.now a.links G l.sum) l.above l.below l.z l.i l.invariant
    c.from-x.result (x_is c)

-- behind the loop: the last component

last_is : (c : After-from-last) → c.from-last.result ≡ get_or (take (c.args.k + 1) c.args.g) c.loop-i.i 0
last_is c =
    let l = c.loop-i in
    last_component c.args.k l.i c.from-last.result c.args.g c.from-last.ensures (omega (arith, l.invariant.reach))

last_fits : (c : After-from-last) → c.loop-i.z + c.from-last.result ≤ LENGTH
last_fits c =
    let a = c.args in
    let l = c.loop-i in
    let G = take (a.k + 1) a.g in
    let seven : length a.g ≡ COMPONENTS = (let o = c.well_formed in search rules) in
    component_small a.links G a.k (spacing_size a.k a.g seven c.requires.0)
    (Summing LARGEST a.table.now a.links G l.sum) l.above l.below l.z l.i l.invariant
    c.from-last.result (last_is c)

pub loop-i-init : goal.loop-i-init
loop-i-init c =
    let a = c.args in
    let G = take (a.k + 1) a.g in
    coming_start a.links G a.k (size (goal.at.loop-i-init c).After-rank_after-above) (Summing LARGEST a.table.now a.links G 0)
    c.rank_after-above.result c.rank_after-above.ensures.0 c.requires.1
    (ap (λ m. min m LARGEST) (zero-add (sum_of a.table.now (places_of a.links G))))

pub overflow_add-below : goal.overflow_add-below
overflow_add-below c =
    let l = c.loop-i in
    omega (arith, c.requires.0, above_fits (goal.at.overflow_add-below c).In-loop-i, l.invariant.low, l.invariant.reach)

pub overflow_add-links : goal.overflow_add-links
overflow_add-links c =
    let l = c.loop-i in
    omega (arith, c.requires.0, above_fits (goal.at.overflow_add-links c).In-loop-i, l.invariant.low, l.invariant.reach, c.requires.2 l.i)

pub part_sum-part-requires : goal.part_sum-part-requires
part_sum-part-requires c =
    let l = c.loop-i in (
      omega (
        arith,
        c.requires.0,
        above_fits (goal.at.part_sum-part-requires c).In-loop-i,
        l.invariant.low,
        l.invariant.reach,
        c.requires.2 l.i,
      ),
      omega arith,
      omega (arith, x_fits (goal.at.part_sum-part-requires c).After-from-x),
      c.requires.3,
    )

pub overflow_add-z : goal.overflow_add-z
overflow_add-z c =
    omega (arith, x_fits (goal.at.overflow_add-z c).After-from-x)

pub choose-below-requires : goal.choose-below-requires
choose-below-requires c =
    (omega (arith, x_fits (goal.at.choose-below-requires c).After-from-x), omega arith, c.requires.3)

pub overflow_add-below-in-loop-i : goal.overflow_add-below-in-loop-i
overflow_add-below-in-loop-i c =
    let l = c.loop-i in
    omega (
      arith,
      l.invariant.low,
      c.choose-below.ensures,
      binomial_small (l.z + c.from-x.result) (l.i + 1) (x_fits (goal.at.overflow_add-below-in-loop-i c).After-from-x),
    )

pub choose-above-requires : goal.choose-above-requires
choose-above-requires c =
    (omega (arith, x_fits (goal.at.choose-above-requires c).After-from-x), omega arith, c.requires.3)

pub overflow_sub-above : goal.overflow_sub-above
overflow_sub-above c =
    let a = c.args in
    let l = c.loop-i in
    let G = take (a.k + 1) a.g in
    above_enough a.links G a.k (size (goal.at.overflow_sub-above c).After-rank_after-above)
    (Summing LARGEST a.table.now a.links G l.sum) l.above l.below l.z l.i l.invariant
    c.from-x.result (x_is (goal.at.overflow_sub-above c).After-from-x) (omega arith)
    c.choose-above.result c.choose-above.ensures

pub overflow_add-z-in-loop-i : goal.overflow_add-z-in-loop-i
overflow_add-z-in-loop-i c =
    omega (arith, x_fits (goal.at.overflow_add-z-in-loop-i c).After-from-x)

pub loop-i-preserved : goal.loop-i-preserved
loop-i-preserved c =
    let a = c.args in
    let l = c.loop-i in
    let G = take (a.k + 1) a.g in
    let x = c.from-x.result in
    coming_more a.links G a.k (size (goal.at.loop-i-preserved c).After-rank_after-above)
    (Summing LARGEST a.table.now a.links G l.sum) l.above l.below l.z l.i l.invariant
    x (x_is (goal.at.loop-i-preserved c).After-from-x) (omega arith)
    (Summing LARGEST a.table.now a.links G c.capped_sum-sum.result) c.choose-below.result
    c.choose-above.result
    (λ r h. cap_cells LARGEST a.table.now l.sum c.part_sum-part.result c.capped_sum-sum.result
    (part_places (get_or a.links l.i 0 + (l.below + l.above)) (l.i + 1) l.z x) r
    c.part_sum-part.ensures c.capped_sum-sum.ensures ∙ h)
    c.choose-below.ensures c.choose-above.ensures

pub overflow_add-links-2 : goal.overflow_add-links-2
overflow_add-links-2 c =
    omega (arith, c.requires.0, c.loop-i.invariant.low, c.loop-i.invariant.reach, c.requires.2 c.args.k)

pub part_sum-end-requires : goal.part_sum-end-requires
part_sum-end-requires c =
    let a = c.args in
    let l = c.loop-i in (
      omega (arith, c.requires.0, l.invariant.low, l.invariant.reach, c.requires.2 a.k),
      omega arith,
      omega (arith, last_fits (goal.at.part_sum-end-requires c).After-from-last),
      c.requires.3,
    )

pub returns : goal.returns
returns c =
    let a = c.args in
    let l = c.loop-i in
    let G = take (a.k + 1) a.g in
    let x = c.from-last.result in
    let here = part_places (get_or a.links a.k 0 + l.below) (a.k + 1) l.z x in
    let most : c.capped_sum.result ≤ LARGEST = omega (arith, c.capped_sum.ensures) in
    cap_end LARGEST c.capped_sum.result (sum_of a.table.now (places_of a.links G)) most
    (none c.capped_sum.result a.table.now ∙
    cap_cells LARGEST a.table.now l.sum c.part_sum-end.result c.capped_sum.result here []
    c.part_sum-end.ensures c.capped_sum.ensures ∙
    coming_end a.links G a.k (size (goal.at.returns c).After-rank_after-above)
    (Summing LARGEST a.table.now a.links G l.sum) l.above l.below l.z l.i l.invariant
    x (last_is (goal.at.returns c).After-from-last) (omega arith))
