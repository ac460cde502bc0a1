-- The invariant of the loop of `table_text::printing::put_counts`.
use Prim.Native.Nat.{◌+◌, ◌*◌, ◌≤◌}
use lib.ListN.{take, drop}
use Rattle.text_page.specs.PageLaws.{ToCome}
use Rattle.table_text.specs.Printed.{LINE, bfile_text, count_lines}
use Rattle.table_text.proofs.printing.put_counts.Given as goal

abbrev pub invariant-loop-i : goal.invariant-loop-i
invariant-loop-i l =
    (l.next ≤ LINE * l.i) × ToCome (bfile_text (take (l.n + 1) l.counts)) 0 l.initial.page
    (count_lines l.i (drop l.i (take (l.n + 1) l.counts))) l.next l.page
