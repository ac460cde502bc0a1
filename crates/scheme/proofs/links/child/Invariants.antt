-- The invariant of the loop of `scheme::links::child`.
use mathlib.Core.Path.{◌≡◌}
use mathlib.Core.List.{map}
use lib.ListN.{length, take}
use Rattle.word.specs.Ceilings.{PREFIX}
use Rattle.word.specs.Word.{bump}
use Rattle.scheme.proofs.links.child.Given as goal

abbrev pub invariant-loop-j : goal.invariant-loop-j
invariant-loop-j l = (take l.j l.digits ≡ map (bump l.a) (take l.j l.prefix)) × (length l.digits ≡ PREFIX)
