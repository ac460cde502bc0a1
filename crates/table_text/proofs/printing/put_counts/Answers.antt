-- `table_text::printing::put_counts` meets its contract: what is still to come are the lines from
-- the index on.
-- Assumes nothing.
use Prim.Native.Nat.{◌<◌}
use native.Mathlib.Omega.{arith}
use lib.ListN.{length}
use borrow.Author.Rules.{rules}
use Rattle.text_page.specs.PageLaws.{start, step, again, finish, same_size}
use Rattle.table_text.specs.PrintedLaws.{lines_step, lines_end}
use Rattle.table_text.proofs.printing.put_counts.Goals as goal

pub loop-i-init : goal.loop-i-init
loop-i-init c = (omega arith, start _ _ _)

pub loop-i-preserved : goal.loop-i-preserved
loop-i-preserved c =
    let a = c.args in
    let l = c.loop-i in
    let inside : a.n < length a.counts = search rules in
    let w = c.put_line-next.ensures in
    (omega (arith, w.1), step (again l.invariant.1 (lines_step a.counts a.n inside l.i (omega arith))) w.0)

pub shape_of-page : goal.shape_of-page
shape_of-page c = same_size c.loop-i.invariant.1

pub returns : goal.returns
returns c =
    let a = c.args in
    let l = c.loop-i in
    let inside : a.n < length a.counts = search rules in
    (finish (again l.invariant.1 (lines_end a.counts a.n inside l.i (omega arith))), omega arith)
