-- The invariant and the measure of the loop of `scheme::links::childless`.
use Prim.Native.Nat.{◌+◌}
use mathlib.Core.Path.{◌≡◌}
use mathlib.Core.List.{List}
use Prim.Native.Nat.{ℕ}
use Rattle.word.specs.Lists.{any}
use Rattle.cell.specs.Cell.{children}
use Rattle.forms.specs.Codes.{Codes}
use Rattle.scheme.specs.TestLaws.{any_from}
use Rattle.scheme.proofs.LookupLaws.{unlisted, missing}
use lib.ListN.{length}
use Rattle.scheme.proofs.links.childless.Given as goal

-- what is left to look at: the children with the last entries from a on
-- what is left to ask from the last entry a on
abbrev pub Left : List ℕ → List ℕ → ℕ → Type 0
Left codes p a = (ps : List (List ℕ)) → Codes ps codes → any (unlisted ps) (children p) ≡ any_from (missing ps p) (length p + 2) a

abbrev pub invariant-loop-a : goal.invariant-loop-a
invariant-loop-a l = Left l.codes l.prefix l.a
