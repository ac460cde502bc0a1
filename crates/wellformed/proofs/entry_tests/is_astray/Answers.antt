-- `wellformed::entry_tests::is_astray` meets its contract: a position is astray if one from the
-- index on is, behind the last that was passed.
-- Assumes nothing.
use mathlib.Core.Path.{sym, ◌∙◌}
use native.Mathlib.Omega.{arith}
use Rattle.wellformed.proofs.EntryTestLaws.{falls_here, beyond_here, rises_here, rises_to_end}
use Rattle.wellformed.proofs.entry_tests.is_astray.Goals as goal

pub returns-then-r-last : goal.returns-then-r-last
returns-then-r-last c =
    let a = c.args in
    let l = c.loop-t in
    sym (l.invariant ∙ falls_here a.k a.positions.now l.last l.t (omega arith) (omega (arith, c.from-r.ensures)))

pub returns-then-k-r : goal.returns-then-k-r
returns-then-k-r c =
    let a = c.args in
    let l = c.loop-t in
    sym (l.invariant ∙ beyond_here a.k a.positions.now l.last l.t (omega arith)
    (omega (arith, c.from-r.ensures)) (omega (arith, c.from-r.ensures)))

pub loop-t-preserved : goal.loop-t-preserved
loop-t-preserved c =
    let a = c.args in
    let l = c.loop-t in
    let next = l.invariant ∙ rises_here a.k a.positions.now l.last l.t (omega arith)
    (omega (arith, c.from-r.ensures)) (omega (arith, c.from-r.ensures)) in
    rw (← c.from-r.ensures) at next

pub returns : goal.returns
returns c =
    let a = c.args in
    let l = c.loop-t in
    sym (l.invariant ∙ rises_to_end a.k a.positions.now l.last l.t (omega arith))
