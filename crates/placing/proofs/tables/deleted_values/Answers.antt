-- `placing::tables::deleted_values` meets its contract: what is flagged, and what stands at the
-- positions still to come, is the whole.
-- Assumes nothing.
use Rattle.std.proofs.Common.{◌-◌, ◌≤◌, sym, ◌∙◌, rules, arith, length}
use lib.ListN.{get_or}
use Rattle.word.specs.Word.{entry}
use Rattle.placing.proofs.LookupLaws.{position_bounds, position_small, flag_none, flag_next, flag_end}
use Rattle.placing.proofs.tables.deleted_values.Goals as goal
use Rattle.placing.proofs.tables.deleted_values.Goals.{After-from-at}

-- the position that is read, and the value that stands there, are small
at_position : (c : After-from-at) → let at = c.from-at.result in (1 ≤ at) × (at ≤ length c.args.prefix.now) ×
    (get_or c.args.prefix.now (at - 1) 0 ≤ length c.args.prefix.now)
at_position c =
    let a = c.args in
    let j = c.loop-position.position-index in
    let q = c.requires in
    let bounds = position_bounds a.prefix.now a.positions.now j (omega arith) q.1 q.2 in
    let small = position_small a.prefix.now a.positions.now j (omega arith) q.1 q.2 in
    rw c.from-at.ensures (bounds.0, bounds.1, small)

pub loop-position-init : goal.loop-position-init
loop-position-init c = (search rules, λ v h. flag_none 9 v _)

pub overflow_sub-at : goal.overflow_sub-at
overflow_sub-at c = (at_position c).0

pub bounds-prefix-at : goal.bounds-prefix-at
bounds-prefix-at c = omega (arith, at_position (goal.at.bounds-prefix-at c).After-from-at)

pub bounds-gone-v : goal.bounds-gone-v
bounds-gone-v c = omega (arith, c.from-v.ensures, at_position (goal.at.bounds-gone-v c).After-from-at)

pub loop-position-preserved : goal.loop-position-preserved
loop-position-preserved c =
    let a = c.args in
    let l = c.loop-position in (
      search rules,
      λ v h.
          rw (c.from-v.ensures, c.from-at.ensures) (flag_next a.prefix.now a.positions.now l.position-index (omega arith) c.requires.1
          c.requires.2 l.gone v (omega arith)) ∙ l.invariant.1 v h,
    )

pub returns : goal.returns
returns c =
    let a = c.args in
    let l = c.loop-position in
    λ v h. sym (flag_end (entry a.prefix.now) l.gone a.positions.now l.position-index v (omega arith)) ∙ l.invariant.1 v h
