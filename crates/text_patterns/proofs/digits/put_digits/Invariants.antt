-- The invariant and the measure of the loop of `text_patterns::digits::put_digits`.
use Prim.Native.Nat.{◌-◌}
use mathlib.Core.Path.{◌≡◌}
use lib.ListN.{length, take, drop}
use lib.Seq.{sets}
use Rattle.text_grammar.specs.Tokens.{run}
use Rattle.text_patterns.proofs.digits.put_digits.Given as goal

abbrev pub invariant-loop-i : goal.invariant-loop-i
invariant-loop-i l = (length l.digits ≡ length l.initial.digits) × (l.digits ≡ sets l.initial.digits 0 (take l.i (run (drop l.from l.s))))

abbrev pub decreases-loop-i : goal.decreases-loop-i
decreases-loop-i l = length l.initial.digits - l.i
