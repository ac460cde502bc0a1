-- The invariant of the loop of `count_plan::places::places_of`.
use Rattle.count_plan.specs.LayoutLaws.{PlacesTo}
use Rattle.count_plan.proofs.places.places_of.Given as goal

abbrev pub invariant-loop-i : goal.invariant-loop-i
invariant-loop-i l = PlacesTo l.n l.s l.i l.places l.at
