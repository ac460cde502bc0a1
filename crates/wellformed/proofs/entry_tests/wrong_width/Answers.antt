-- `wellformed::entry_tests::wrong_width` meets its contract: a vector has another width if one from
-- the index on has.
-- Assumes nothing.
use mathlib.Core.Path.{sym, ◌∙◌}
use native.Mathlib.Omega.{arith}
use Rattle.scheme.specs.TestLaws.{any_here, any_later, any_end}
use Rattle.forms.specs.SchemeMemory.{gap_at}
use Rattle.wellformed.proofs.EntryTestLaws.{other_width, width_by_gaps, width_other, width_right}
use Rattle.wellformed.proofs.entry_tests.wrong_width.Goals as goal

pub loop-j-init : goal.loop-j-init
loop-j-init c = width_by_gaps c.args.e

pub returns-then-w-k : goal.returns-then-w-k
returns-then-w-k c =
    let w = c.from-w in
    let l = c.loop-j in
    let e = c.args.e in
    sym (l.invariant ∙ any_here (other_width e) (gap_at e) e.gap_count l.j (omega arith)
    (width_other e l.j w.result w.ensures c.if-w-k.true))

pub loop-j-preserved : goal.loop-j-preserved
loop-j-preserved c =
    let w = c.from-w in
    let l = c.loop-j in
    let e = c.args.e in
    l.invariant ∙ any_later (other_width e) (gap_at e) e.gap_count l.j (omega arith)
    (width_right e l.j w.result w.ensures c.if-w-k.false)

pub returns : goal.returns
returns c =
    let e = c.args.e in
    let l = c.loop-j in
    sym (l.invariant ∙ any_end (other_width e) (gap_at e) e.gap_count l.j (omega arith))
