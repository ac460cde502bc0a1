-- `table_text::printing::put_refusal` meets its contract: the six parts of the line, one after the
-- other.
-- Assumes nothing.
use native.Mathlib.Omega.{arith}
use mathlib.Core.Path.{ap}
use Rattle.text_page.specs.PageLaws.{writes_as, writes_join}
use Rattle.text_page.specs.Decimal.{decimal}
use Rattle.text_page.proofs.DecimalLaws.{room_decimal}
use borrow.Author.Rules.{rules}
use Rattle.table_text.proofs.printing.put_refusal.Goals as goal

pub put_decimal-next_space-requires : goal.put_decimal-next_space-requires
put_decimal-next_space-requires c = room_decimal _ _ (search rules) (search rules)

pub put_decimal-end-requires : goal.put_decimal-end-requires
put_decimal-end-requires c = room_decimal _ _ (search rules) (search rules)

pub returns : goal.returns
returns c =
    let word = c.put_bytes-space.ensures in
    let space = c.put-second.ensures in
    let first = c.put_decimal-next_space.ensures in
    let further = c.put-third.ensures in
    let second = c.put_decimal-end.ensures in
    let end = c.put.ensures in
    let number = writes_as first.0
    (ap decimal (search rules)) in (
      writes_join word (writes_join space (writes_join number (writes_join further (writes_join second.0 end)))),
      omega (arith, word.moved, space.moved, first.1, further.moved, second.1, end.moved),
    )
