-- `spacing::reaches` meets its contract: the vectors compare as their components from p on do.
-- Assumes nothing.
use Rattle.std.proofs.Common.{sym, ◌∙◌, arith}
use Rattle.spacing.proofs.SpacingMemory.{least_fails, least_passes, least_end}
use Rattle.spacing.proofs.reaches.Goals as goal

pub returns-then-g-p : goal.returns-then-g-p
returns-then-g-p c =
    let l = c.loop-p in
    sym (l.invariant ∙ least_fails c.args.g.now c.args.b.now l.p c.requires (omega arith) c.if-g-p.true)

pub loop-p-preserved : goal.loop-p-preserved
loop-p-preserved c =
    let l = c.loop-p in
    l.invariant ∙ least_passes c.args.g.now c.args.b.now l.p c.requires (omega arith) c.if-g-p.false

pub returns : goal.returns
returns c =
    let l = c.loop-p in
    sym (l.invariant ∙ least_end c.args.g.now c.args.b.now l.p c.requires (omega arith))
