-- The invariant of the loop of `avoider_lines::text::put_line`.
use Prim.Native.Nat.{◌+◌, ◌*◌, ◌≤◌}
use lib.ListN.{take, drop}
use Rattle.text_page.specs.PageLaws.{ToCome}
use Rattle.text_page.specs.Decimal.{NUMERAL}
use Rattle.avoider_lines.specs.LineText.{further_text}
use Rattle.avoider_lines.proofs.text.put_line.Given as goal

abbrev pub invariant-loop-i : goal.invariant-loop-i
invariant-loop-i l =
    (1 ≤ l.i) × (l.i ≤ l.count) × (l.next ≤ (NUMERAL + 1) * l.i) ×
    ToCome (further_text (drop 1 (take l.n l.word))) l.initial.next l.initial.page
    (further_text (drop l.i (take l.n l.word))) l.next l.page
