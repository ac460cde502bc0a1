-- `spacing::is_free` meets its contract: g is at least no gap vector if it is at least none from j
-- on.
-- Assumes nothing.
use Rattle.std.proofs.Common.{◌+◌, ◌*◌, ◌-◌, ◌≡◌, sym, ◌∙◌}
use Rattle.word.specs.Ceilings.{COMPONENTS}
use Rattle.cell.specs.Cell.{at_least}
use Rattle.forms.specs.GapRows.{vector_at}
use lib.ListN.{take}
use native.Mathlib.Omega.{arith}
use Rattle.spacing.proofs.SpacingMemory.{free_start, free_end, free_fails, free_passes}
use Rattle.spacing.proofs.is_free.Goals as goal
use Rattle.spacing.proofs.is_free.Goals.{After-reaches}

pub loop-j-init : goal.loop-j-init
loop-j-init c =
    let a = c.args in
    free_start a.gaps.now (a.k + 1) a.n (take (a.k + 1) a.g)

-- the gap vector with index j decides the test
decides : (c : After-reaches) → at_least (take (c.args.k + 1) c.args.g) (vector_at c.args.gaps.now (c.args.k + 1) c.loop-j.j) ≡
    c.reaches.result
decides c =
    let w : COMPONENTS * c.loop-j.j + c.args.k + 1 - COMPONENTS * c.loop-j.j ≡ c.args.k + 1 = omega arith in
    sym (rw w at c.reaches.ensures)

pub returns-then-reaches : goal.returns-then-reaches
returns-then-reaches c =
    let a = c.args in
    let l = c.loop-j in
    sym (l.invariant ∙ free_fails a.gaps.now (a.k + 1) a.n (take (a.k + 1) a.g) l.j (omega arith)
    (decides (goal.at.returns-then-reaches c).After-reaches ∙ c.if-reaches.true))

pub loop-j-preserved : goal.loop-j-preserved
loop-j-preserved c =
    let a = c.args in
    let l = c.loop-j in
    l.invariant ∙ free_passes a.gaps.now (a.k + 1) a.n (take (a.k + 1) a.g) l.j (omega arith)
    (decides (goal.at.loop-j-preserved c).After-reaches ∙ c.if-reaches.false)

pub returns : goal.returns
returns c =
    let a = c.args in
    let l = c.loop-j in
    sym (l.invariant ∙ free_end a.gaps.now (a.k + 1) a.n (take (a.k + 1) a.g) l.j (omega arith))
