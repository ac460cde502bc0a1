-- `spacing::walk::rank_after` meets its contract.
-- Assumes nothing.
use borrow.Author.Rules.{rules}
use native.Mathlib.Omega.{arith}
use Prim.Native.Nat.{◌+◌, ◌≤◌, ◌<◌}
use mathlib.Core.Path.{◌≡◌, ap, ◌∙◌}
use mathlib.Core.List.{[]}
use lib.ListN.{length, take}
use Rattle.word.specs.Ceilings.{COMPONENTS, LENGTH}
use Rattle.spacing.specs.Rank.{rank_after}
use Rattle.spacing.specs.RankLaws.{merge_none}
use Rattle.spacing.specs.PascalLaws.{binomial_small}
use Rattle.spacing.proofs.RankWalkLaws.{walk_start, walk_keep, walk_end, next_small, none_left}
use Rattle.spacing.proofs.walk.rank_after.Goals as goal
use Rattle.spacing.proofs.walk.rank_after.Goals.{Start}

-- the components of the spacing stand in the array
room : (start : Start) → start.args.k < length start.args.g
room start = let seven : length start.args.g ≡ COMPONENTS = (let o = start.well_formed in search rules) in omega (arith, start.requires.0)

pub loop-t-init : goal.loop-t-init
loop-t-init c =
    let a = c.args in
    walk_start a.g a.k [] a.start (room (goal.at.loop-t-init c).Start) c.from-z.result c.from-z.ensures c.requires.2

pub choose-rank-requires : goal.choose-rank-requires
choose-rank-requires c =
    let l = c.loop-t in
    (omega (arith, l.invariant.fits), omega (arith, l.invariant.counted, l.invariant.high, c.requires.1, c.requires.0), c.requires.3)

pub overflow_add-rank : goal.overflow_add-rank
overflow_add-rank c =
    let l = c.loop-t in
    omega (
      arith,
      c.choose-rank.ensures,
      binomial_small l.z (l.count + 1) (omega (arith, l.invariant.fits)),
      l.invariant.small,
      l.invariant.high,
      c.requires.0,
    )

pub overflow_add-z-in-loop-t : goal.overflow_add-z-in-loop-t
overflow_add-z-in-loop-t c =
    let fits : c.loop-t.z + c.from-y.result ≤ LENGTH =
    let a = c.args in
    let l = c.loop-t in
    next_small a.g a.k [] a.start (room (goal.at.overflow_add-z-in-loop-t c).Start) l.z l.count l.rank l.t l.invariant
    (omega arith) c.from-y.result c.from-y.ensures in
    omega (arith, fits)

pub loop-t-preserved : goal.loop-t-preserved
loop-t-preserved c =
    let a = c.args in
    let l = c.loop-t in
    walk_keep a.g a.k [] a.start (room (goal.at.loop-t-preserved c).Start) l.z l.count l.rank l.t l.invariant
    (omega arith) c.from-y.result c.choose-rank.result c.from-y.ensures c.choose-rank.ensures (none_left l.t)

pub returns : goal.returns
returns c =
    let a = c.args in
    let l = c.loop-t in (
      walk_end a.g a.k [] a.start (room (goal.at.returns c).Start) l.z l.count l.rank l.t l.invariant (omega arith) ∙
          ap (rank_after a.start 0) (merge_none (take (a.k + 1) a.g)),
      omega (arith, l.invariant.small, l.invariant.high),
    )
