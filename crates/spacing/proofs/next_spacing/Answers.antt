-- `spacing::next_spacing` meets its contract: the components behind j are 0.
-- Assumes nothing.
use Rattle.std.proofs.Common.{◌≡◌, ◌<◌, ◌+◌, ◌-◌, length, rules, arith}
use Rattle.word.specs.Ceilings.{COMPONENTS}
use Rattle.spacing.proofs.SpacingMemory.{seen_start, seen_down, seen_last, next_fits, next_memory}
use Rattle.spacing.proofs.next_spacing.Goals as goal
use Rattle.spacing.proofs.next_spacing.Goals.{Start}

-- the components of the spacing stand in the array
room : (start : Start) → start.args.k < length start.args.g
room start = let seven : length start.args.g ≡ COMPONENTS = (let o = start.well_formed in search rules) in omega (arith, start.requires.0)

pub loop-j-init : goal.loop-j-init
loop-j-init c =
    let e : c.args.k + 1 - 1 ≡ c.args.k = omega arith in
    rw e (seen_start c.args.g c.args.k (room (goal.at.loop-j-init c).Start))

pub overflow_add-n : goal.overflow_add-n
overflow_add-n c =
    let a = c.args in
    let fits = next_fits a.g a.k (c.loop-j.j - 1) (room (goal.at.overflow_add-n c).Start) (omega arith)
    c.loop-j.invariant c.if-r-ne0.true c.requires.1 in
    omega (arith, fits)

pub returns-then-r-ne0 : goal.returns-then-r-ne0
returns-then-r-ne0 c =
    let a = c.args in
    next_memory a.g a.k (c.loop-j.j - 1) (room (goal.at.returns-then-r-ne0 c).Start) (omega arith) c.loop-j.invariant c.if-r-ne0.true

pub loop-j-preserved : goal.loop-j-preserved
loop-j-preserved c =
    let a = c.args in
    seen_down a.g a.k (c.loop-j.j - 1) (room (goal.at.loop-j-preserved c).Start) (omega arith) c.loop-j.invariant c.if-r-ne0.false

pub returns : goal.returns
returns c =
    let a = c.args in
    seen_last a.g a.k (c.loop-j.j - 1) (room (goal.at.returns c).Start) c.loop-j.invariant (omega arith)
