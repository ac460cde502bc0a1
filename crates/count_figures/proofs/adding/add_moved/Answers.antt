-- `count_figures::adding::add_moved` meets its contract.
-- Assumes nothing.
use native.Mathlib.Omega.{arith}
use Prim.Native.Nat.{ℕ, ◌+◌}
use mathlib.Core.Path.{◌≡◌, refl, ap, ◌∙◌}
use mathlib.Core.List.{List}
use lib.ListN.{take, drop, length-set}
use Rattle.count_figures.specs.Figures.{moved_at}
use Rattle.count_figures.proofs.AddLaws.{take_within, adds_none, adds_more, adds_as}
use Rattle.count_figures.proofs.adding.add_moved.Goals as goal

pub loop-i-init : goal.loop-i-init
loop-i-init c =
    let a = c.args in
    (refl, adds_none a.figures.now a.d a.from a.table.now)

pub loop-i-preserved : goal.loop-i-preserved
loop-i-preserved c =
    let a = c.args in
    let l = c.loop-i in (
      length-set l.figures (a.d + l.i) c.capped_sum-x.result ∙ l.invariant.0,
      adds_more a.figures.now l.figures a.table.now a.from a.d l.i c.capped_sum-x.result l.invariant.1
          (omega (arith, c.in_reach-count.ensures, c.requires, l.invariant.0)) c.capped_sum-x.ensures,
    )

pub shape_of-figures : goal.shape_of-figures
shape_of-figures c = c.loop-i.invariant.0

pub returns : goal.returns
returns c =
    let a = c.args in
    let l = c.loop-i in
    let e : l.i ≡ c.in_reach-count.result = omega arith in
    adds_as a.figures.now l.figures (moved_at a.d (take l.i (drop a.from a.table.now)))
    (moved_at a.d (take a.n (drop a.from a.table.now)))
    (λ q. ap (λ (x : List ℕ). moved_at a.d x q)
    (ap (λ m. take m (drop a.from a.table.now)) (e ∙ c.in_reach-count.ensures) ∙ take_within a.n a.from a.table.now))
    l.invariant.1
