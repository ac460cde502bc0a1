-- The invariant and the measure of the loop of `notation::schemes::read_scheme`.
use Prim.Native.Nat.{◌-◌}
use lib.ListN.{length}
use Rattle.text_schemes.proofs.EntryItemLaws.{ReadTo}
use Rattle.notation.proofs.schemes.read_scheme.Given as goal

abbrev pub invariant-loop-more : goal.invariant-loop-more
invariant-loop-more l = ReadTo l.text l.scheme l.at l.more

abbrev pub decreases-loop-more : goal.decreases-loop-more
decreases-loop-more l = length l.text - l.at
