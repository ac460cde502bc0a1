-- The invariant of the loop of `wellformed::entry_pass::stands_before`.
use mathlib.Core.Path.{◌≡◌}
use lib.ListN.{get_or}
use lib.Dec.{eqb}
use Rattle.word.specs.Lists.{any}
use Rattle.scheme.specs.TestOrder.{seen}
use Rattle.wellformed.specs.EntryPass.{earlier_code}
use Rattle.wellformed.proofs.entry_pass.stands_before.Given as goal

abbrev pub invariant-loop-j : goal.invariant-loop-j
invariant-loop-j l = earlier_code l.codes l.i ≡ any (eqb (get_or l.codes l.i 0)) (seen (λ n. get_or l.codes n 0) l.j)
