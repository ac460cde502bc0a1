-- `table_print::printing::print` meets its contract: the text of the table, or of the refusal.
-- Assumes nothing.
use Rattle.text_page.specs.PageLaws.{writes_as}
use Rattle.table_lines.specs.Kept.{memory_of}
use Rattle.table_print.specs.PrintLaws.{prints}
use Rattle.table_print.proofs.printing.print.Goals as goal

pub returns-in-Ok : goal.returns-in-Ok
returns-in-Ok c =
    let a = c.args in
    let put = c.put_counts.ensures in
    prints (memory_of a.lines a.set.now a.scheme.now) _ _ _ (writes_as put.0 c.in-Ok.ensures.text) put.1

pub returns-in-Err : goal.returns-in-Err
returns-in-Err c =
    let a = c.args in
    let put = c.put_refusal.ensures in
    prints (memory_of a.lines a.set.now a.scheme.now) _ _ _ (writes_as put.0 c.in-Err.ensures.text) put.1
