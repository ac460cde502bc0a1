-- `count_plain::spacings::merged_spacing` meets its contract.
-- Assumes nothing.
use Prim.Native.Nat.{◌+◌, ◌-◌, ◌<◌}
use native.Mathlib.Omega.{arith}
use mathlib.Core.Path.{◌≡◌, refl}
use lib.ListN.{length, get_or, take}
use lib.Seq.{length-take-le}
use Rattle.word.specs.Ceilings.{COMPONENTS}
use Rattle.spacing.specs.Flagged.{flagged}
use Rattle.count_step.proofs.SumLaws.{spacing_size, component}
use Rattle.count_plain.specs.MergingLaws.{merging_start, turn_low, turn_room, turn_more, merging_end}
use borrow.Author.Rules.{rules}
use Rattle.count_plain.proofs.spacings.merged_spacing.Goals as goal

pub loop-v-init : goal.loop-v-init
loop-v-init c =
    let a = c.args in
    let seven : length a.g ≡ COMPONENTS = search rules in
    (omega arith, search rules, merging_start (flagged a.gone a.k) a.g a.k (omega arith))

pub overflow_sub-at : goal.overflow_sub-at
overflow_sub-at c =
    let a = c.args in
    let l = c.loop-v in
    let n = c.flagged_with-n.result in
    let x = get_or a.g l.v 0 in
    let seven : length a.g ≡ COMPONENTS = search rules in
    let inside : l.v < length (take (a.k + 1) a.g) = omega (arith, spacing_size a.k a.g seven c.requires.0) in
    turn_low a.gone (take (a.k + 1) a.g) l.r a.k l.v l.n n x l.invariant.2 (omega arith) (omega arith) l.invariant.0 inside (omega arith)
    c.flagged_with-n.ensures (component a.k l.v x a.g refl (omega arith))

pub bounds-r-at : goal.bounds-r-at
bounds-r-at c = omega arith

pub overflow_add-r : goal.overflow_add-r
overflow_add-r c =
    let a = c.args in
    let l = c.loop-v in
    let n = c.flagged_with-n.result in
    let x = get_or a.g l.v 0 in
    let seven : length a.g ≡ COMPONENTS = search rules in
    let inside : l.v < length (take (a.k + 1) a.g) = omega (arith, spacing_size a.k a.g seven c.requires.0) in
    let room = turn_room a.gone (take (a.k + 1) a.g) l.r a.k l.v l.n n x l.invariant.2 (omega arith) (omega arith)
    l.invariant.0 inside (omega arith)
    c.flagged_with-n.ensures (component a.k l.v x a.g refl (omega arith)) in
    omega (arith, room, c.requires.1)

pub bounds-r-at-in-loop-v : goal.bounds-r-at-in-loop-v
bounds-r-at-in-loop-v c = omega arith

pub loop-v-preserved : goal.loop-v-preserved
loop-v-preserved c =
    let a = c.args in
    let l = c.loop-v in
    let n = c.flagged_with-n.result in
    let x = get_or a.g l.v 0 in
    let seven : length a.g ≡ COMPONENTS = search rules in
    let inside : l.v < length (take (a.k + 1) a.g) = omega (arith, spacing_size a.k a.g seven c.requires.0) in
    let low = turn_low a.gone (take (a.k + 1) a.g) l.r a.k l.v l.n n x l.invariant.2 (omega arith) (omega arith)
    l.invariant.0 inside (omega arith)
    c.flagged_with-n.ensures (component a.k l.v x a.g refl (omega arith)) in
    let more = turn_more a.gone (take (a.k + 1) a.g) l.r a.k l.v l.n n x l.invariant.2 (omega arith) (omega arith)
    l.invariant.0 inside (omega arith)
    c.flagged_with-n.ensures (component a.k l.v x a.g refl (omega arith)) in
    (omega arith, more.size, more)

pub returns : goal.returns
returns c =
    let a = c.args in
    let l = c.loop-v in
    let seven : length a.g ≡ COMPONENTS = (search rules) in
    merging_end (flagged a.gone a.k) (take (a.k + 1) a.g) l.r l.v (l.v - 1 - l.n) l.invariant.2
    (omega (arith, length-take-le (a.k + 1) a.g (omega arith))) (omega arith)
