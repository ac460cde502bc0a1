-- `avoider_lines::text::put_entry` meets its contract: a space, then the number.
-- Assumes nothing.
use native.Mathlib.Omega.{arith}
use mathlib.Core.Path.{ap}
use Rattle.text_page.specs.PageLaws.{writes_as, writes_join}
use Rattle.text_page.specs.Decimal.{decimal}
use Rattle.text_page.proofs.DecimalLaws.{room_decimal}
use borrow.Author.Rules.{rules}
use Rattle.avoider_lines.proofs.text.put_entry.Goals as goal

pub put_decimal-requires : goal.put_decimal-requires
put_decimal-requires c = room_decimal _ _ (search rules) (search rules)

pub returns : goal.returns
returns c =
    let space = c.put-next.ensures in
    let number = c.put_decimal.ensures in
    let same = writes_as number.0 (ap decimal (search rules)) in
    (writes_join space same, omega (arith, space.moved, number.1))
