-- `count_plan::places::places_of` meets its contract.
-- Assumes nothing.
use native.Mathlib.Omega.{arith}
use Rattle.spacing.specs.PascalLaws.{binomial_small}
use Rattle.count_plan.specs.Layout.{length_at}
use Rattle.count_plan.specs.LayoutLaws.{count_few, entry_short, place_small, places_start, places_more, places_end}
use Rattle.count_plan.proofs.places.places_of.Goals as goal

pub loop-i-init : goal.loop-i-init
loop-i-init c = places_start c.args.n c.args.s

pub offset_bounds-s-i : goal.offset_bounds-s-i
offset_bounds-s-i c = omega (arith, count_few c.args.s c.requires.0)

pub bounds-s-i : goal.bounds-s-i
bounds-s-i c = omega (arith, count_few c.args.s c.requires.0)

pub choose-at-requires : goal.choose-at-requires
choose-at-requires c =
    (c.requires.1, omega (arith, entry_short c.args.s c.requires.0 c.loop-i.i (omega arith)), c.requires.2)

pub overflow_add-at : goal.overflow_add-at
overflow_add-at c =
    let l = c.loop-i in
    omega (
      arith,
      l.invariant.here,
      place_small c.args.n c.args.s l.i c.requires.1,
      count_few c.args.s
          c.requires.0,
      c.choose-at.ensures,
      binomial_small c.args.n (length_at c.args.s l.i) c.requires.1,
    )

pub offset_bounds-places-i : goal.offset_bounds-places-i
offset_bounds-places-i c = omega (arith, count_few c.args.s c.requires.0)

pub bounds-places-i : goal.bounds-places-i
bounds-places-i c = omega (arith, count_few c.args.s c.requires.0)

pub loop-i-preserved : goal.loop-i-preserved
loop-i-preserved c =
    let l = c.loop-i in
    places_more c.args.n c.args.s l.i l.places l.at c.choose-at.result l.invariant
    (omega (arith, count_few c.args.s c.requires.0)) c.requires.1 c.choose-at.ensures

pub returns : goal.returns
returns c =
    let a = c.args in
    let l = c.loop-i in
    places_end a.n a.s l.i l.places l.at l.invariant (omega arith)
