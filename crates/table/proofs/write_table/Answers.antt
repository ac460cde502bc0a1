-- `table::write_table` is safe: the printed bytes lie within the page.
-- Assumes nothing.
use mathlib.Core.Path.{◌≡◌, sym}
use native.Mathlib.Omega.{arith}
use lib.ListN.{length}
use lib.Seq.{length-take-le}
use borrow.Author.Rules.{rules}
use Rattle.table_text.specs.Printed.{PAGE}
use Rattle.table.proofs.write_table.Goals as goal

pub slice_bounds-write_all-end : goal.slice_bounds-write_all-end
slice_bounds-write_all-end c =
    let p = c.print-n in
    let size : length p.new.page ≡ PAGE = search rules in
    sym (length-take-le p.result p.new.page (omega (arith, p.ensures.fits, size)))
