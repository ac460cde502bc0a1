-- `placing::tables::levels_of` meets its contract: the table says the levels below v, and the sum
-- is the last of them.
-- Assumes nothing.
use Rattle.std.proofs.Common.{◌≡◌, ◌+◌, ◌-◌, sym, ap, ◌∙◌, rules, arith, replicate, suc}
use lib.ListN.{get_or}
use Rattle.cell.specs.Built.{level}
use Rattle.cell.proofs.BuiltWords.{level_at_most}
use Rattle.placing.proofs.LookupLaws.{says_more, says_first, level_next, level_zero}
use Rattle.placing.proofs.tables.levels_of.Goals as goal
use Rattle.placing.proofs.tables.levels_of.Goals.{In-loop-v}

-- the level of v
next : (c : In-loop-v) → c.loop-v.sum + get_or c.args.g.now (c.loop-v.v - 1) 0 ≡ level c.args.g.now c.loop-v.v
next c =
    let v = c.loop-v.v in
    let e : suc (v - 1) ≡ v = omega arith in
    let m = rw e at (level_next c.args.g.now (v - 1) (omega arith)) in
    omega (arith, m, c.loop-v.invariant.0)

pub loop-v-init : goal.loop-v-init
loop-v-init c =
    let g = c.args.g.now in
    (sym (level_zero g), search rules, says_first (replicate 9 0) (level g) (sym (level_zero g)))

pub overflow_add-sum : goal.overflow_add-sum
overflow_add-sum c =
    omega (arith, next (goal.at.overflow_add-sum c).In-loop-v, level_at_most c.args.g.now c.loop-v.v)

pub loop-v-preserved : goal.loop-v-preserved
loop-v-preserved c =
    let l = c.loop-v in
    let n = next (goal.at.loop-v-preserved c).In-loop-v in
    let e : l.v + 1 - 1 ≡ l.v = omega arith in (
      n ∙ ap (level c.args.g.now) (sym e),
      search rules,
      says_more l.levels l.v _ (level c.args.g.now) (omega arith) n l.invariant.2,
    )

pub returns : goal.returns
returns c = λ v h. c.loop-v.invariant.2 v (omega arith)
