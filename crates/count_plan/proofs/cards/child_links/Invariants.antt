-- The invariant of the loop of `count_plan::cards::child_links`.
use Rattle.count_plan.specs.Cards.{Coded, ChildLinks}
use Rattle.count_plan.proofs.cards.child_links.Given as goal

abbrev pub invariant-loop-a : goal.invariant-loop-a
invariant-loop-a l = Coded l.codes (λ ps. ChildLinks ps l.prefix l.a l.links)
