-- `spacing::walk::rank_without` meets its contract.
-- Assumes nothing.
use borrow.Author.Rules.{rules}
use native.Mathlib.Omega.{arith}
use Prim.Native.Nat.{◌+◌, ◌≤◌, ◌<◌}
use mathlib.Core.Path.{◌≡◌, ◌∙◌}
use lib.ListN.{length, take}
use Rattle.word.specs.Ceilings.{COMPONENTS, LENGTH}
use Rattle.cell.specs.Cell.{merge_values}
use Rattle.spacing.specs.Flagged.{flagged}
use Rattle.spacing.specs.FlaggedLaws.{flag_there, flag_missing}
use Rattle.spacing.specs.RankLaws.{after_nothing}
use Rattle.spacing.specs.PascalLaws.{binomial_small}
use Rattle.spacing.proofs.RankWalkLaws.{walk_start, walk_leave, walk_keep, walk_end, next_small}
use Rattle.spacing.proofs.walk.rank_without.Goals as goal
use Rattle.spacing.proofs.walk.rank_without.Goals.{then-flag-ne0, else-flag-ne0, Start, After-from-y}

-- the components of the spacing stand in the array
room : (start : Start) → start.args.k < length start.args.g
room start = let seven : length start.args.g ≡ COMPONENTS = (let o = start.well_formed in search rules) in omega (arith, start.requires.0)

-- the next value is small
value_small : (c : After-from-y) → c.loop-v.z + c.from-y.result ≤ LENGTH
value_small c =
    let a = c.args in
    let l = c.loop-v in
    next_small a.g a.k (flagged a.gone a.k) 0 (room (goal.at.After-from-y c).Start) l.z l.count l.rank l.v l.invariant (omega arith)
    c.from-y.result c.from-y.ensures

pub loop-v-init : goal.loop-v-init
loop-v-init c =
    let a = c.args in
    walk_start a.g a.k (flagged a.gone a.k) 0 (room (goal.at.loop-v-init c).Start) c.from-z.result c.from-z.ensures c.requires.1

pub overflow_add-z : goal.overflow_add-z
overflow_add-z c = omega (arith, value_small (goal.at.overflow_add-z c).After-from-y)

pub choose-rank-requires : goal.choose-rank-requires
choose-rank-requires c =
    let l = c.loop-v in
    (omega (arith, l.invariant.fits), omega (arith, l.invariant.counted, l.invariant.high, c.requires.0), c.requires.2)

pub overflow_add-rank : goal.overflow_add-rank
overflow_add-rank c =
    let l = c.loop-v in
    omega (
      arith,
      c.choose-rank.ensures,
      binomial_small l.z (l.count + 1) (omega (arith, l.invariant.fits)),
      l.invariant.small,
      l.invariant.high,
      c.requires.0,
    )

pub overflow_add-z-else-flag-ne0-2 : goal.overflow_add-z-else-flag-ne0-2
overflow_add-z-else-flag-ne0-2 c = omega (arith, value_small (goal.at.overflow_add-z-else-flag-ne0-2 c).After-from-y)

pub loop-v-preserved : goal.loop-v-preserved
loop-v-preserved c =
    let a = c.args in
    let l = c.loop-v in
    let r = room (goal.at.loop-v-preserved c).Start in
    elim c.if-flag-ne0.branch [
      | then-flag-ne0 w ↦ rw (w.z-is, w.count-is, w.rank-is) (walk_leave a.g a.k (flagged a.gone a.k) 0 r l.z l.count l.rank l.v
          l.invariant (omega arith) c.from-y.result c.from-y.ensures
          (flag_there a.gone a.k l.v l.invariant.low (omega arith) w.if-flag-ne0.true))
      | else-flag-ne0 w ↦ rw (w.z-is, w.count-is, w.rank-is) (walk_keep a.g a.k (flagged a.gone a.k) 0 r l.z l.count l.rank l.v
          l.invariant (omega arith) c.from-y.result w.choose-rank.result c.from-y.ensures w.choose-rank.ensures
          (flag_missing a.gone a.k l.v l.invariant.low (omega arith) w.if-flag-ne0.false))
    ]

pub returns : goal.returns
returns c =
    let a = c.args in
    let l = c.loop-v in (
      walk_end a.g a.k (flagged a.gone a.k) 0 (room (goal.at.returns c).Start) l.z l.count l.rank l.v l.invariant
          (omega arith) ∙
          after_nothing (merge_values (flagged a.gone a.k) (take (a.k + 1) a.g)),
      omega (arith, l.invariant.small, l.invariant.high),
    )
