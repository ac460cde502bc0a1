-- The invariant and the measure of the loop of `scheme::links::codes_of`.
use Prim.Native.Nat.{ℕ, ◌<◌}
use mathlib.Core.Path.{◌≡◌}
use lib.ListN.{length, get_or}
use Rattle.word.specs.Ceilings.{ENTRIES}
use Rattle.forms.specs.Codes.{IsCode}
use Rattle.scheme.proofs.LookupLaws.{prefix_at}
use Rattle.scheme.proofs.links.codes_of.Given as goal

abbrev pub invariant-loop-i : goal.invariant-loop-i
invariant-loop-i l = (length l.codes ≡ ENTRIES) × ((j : ℕ) → j < l.i → IsCode (prefix_at l.s j) (get_or l.codes j 0))
