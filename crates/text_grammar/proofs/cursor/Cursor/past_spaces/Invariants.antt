-- The invariant of the loop of `text_grammar::cursor::Cursor::past_spaces`.
use Prim.Native.Nat.{◌≤◌}
use mathlib.Core.Path.{◌≡◌}
use lib.ListN.{length, drop}
use Rattle.text_grammar.specs.Tokens.{tokens}
use Rattle.text_grammar.proofs.cursor.Cursor.past_spaces.Given as goal

abbrev pub invariant-loop-at : goal.invariant-loop-at
invariant-loop-at l = (tokens (drop l.initial.at l.s) ≡ tokens (drop l.at l.s)) × (l.initial.at ≤ l.at) ×
    (l.initial.at ≤ length l.s → l.at ≤ length l.s)
