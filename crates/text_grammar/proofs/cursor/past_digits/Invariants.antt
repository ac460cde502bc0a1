-- The invariant of the loop of `text_grammar::cursor::past_digits`.
use Prim.Native.Nat.{◌+◌}
use mathlib.Core.Path.{◌≡◌}
use lib.ListN.{length, drop}
use Rattle.text_grammar.specs.Tokens.{run}
use Rattle.text_grammar.proofs.cursor.past_digits.Given as goal

abbrev pub invariant-loop-at : goal.invariant-loop-at
invariant-loop-at l = l.from + length (run (drop l.from l.s)) ≡ l.at + length (run (drop l.at l.s))
