-- `count_cursor::cursor::row_start` meets its contract.
-- Assumes nothing.
use native.Mathlib.Omega.{arith}
use Rattle.count_plan.specs.LayoutLaws.{count_few, entry_short}
use Rattle.count_cursor.specs.CursorLaws.{row_inside, row_reach, row_starts}
use Rattle.count_cursor.proofs.cursor.row_start.Goals as goal

pub entry_start-requires : goal.entry_start-requires
entry_start-requires c =
    let a = c.args in
    let o = c.requires.0 in
    let e = c.entry_below-e.result in
    let top = c.longest.ensures in
    let inside = row_inside a.sheet.now o.of a.row c.longest.result e top (c.entry_below-e.ensures o) in
    let reach = row_reach a.sheet.now o.of a.row c.longest.result e top (c.entry_below-e.ensures o) in
    let size = (o.of.rows e inside).size in (
      omega (arith, inside, count_few o.of.s o.of.proper),
      o.of.long,
      omega (arith, size, entry_short o.of.s o.of.proper e inside),
      omega (arith, size, reach),
      c.requires.1,
    )

pub returns : goal.returns
returns c =
    let a = c.args in
    λ o. row_starts a.sheet.now o.of a.row c.longest.result c.entry_below-e.result
    c.longest.ensures (c.entry_below-e.ensures o) c.entry_start.result c.entry_start.ensures
