-- `table_text::printing::put_line` meets its contract: the four parts of a line, one after the
-- other.
-- Assumes nothing.
use native.Mathlib.Omega.{arith}
use Rattle.text_page.specs.PageLaws.{writes_join}
use Rattle.text_page.proofs.DecimalLaws.{decimal_two, room_decimal}
use borrow.Author.Rules.{rules}
use Rattle.table_text.proofs.printing.put_line.Goals as goal

pub put_decimal-space-requires : goal.put_decimal-space-requires
put_decimal-space-requires c = room_decimal _ _ (search rules) (search rules)

pub put_decimal-end-requires : goal.put_decimal-end-requires
put_decimal-end-requires c = room_decimal _ _ (search rules) (search rules)

pub returns : goal.returns
returns c =
    let first = c.put_decimal-space.ensures in
    let space = c.put-second.ensures in
    let second = c.put_decimal-end.ensures in
    let end = c.put.ensures in
    let few = decimal_two c.args.n (omega arith) in (
      writes_join first.0 (writes_join space (writes_join second.0 end)),
      omega (arith, few, first.0.moved, space.moved, second.1, end.moved),
    )
