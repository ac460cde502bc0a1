-- `successor::least::least_from` meets its contract: at each place the first avoider with the
-- front so far is the one that is sought.
-- Assumes nothing.
use Prim.Native.Nat.{ℕ}
use mathlib.Core.Path.{◌≡◌, refl, ap, ◌∙◌}
use native.Mathlib.Omega.{arith}
use lib.ListN.{take}
use Rattle.forms.specs.SetMemory.{held_in}
use Rattle.successor.specs.Values.{least_from}
use Rattle.successor.specs.StepLaws.{least_whole}
use Rattle.successor.proofs.least.least_from.Goals as goal

pub loop-i-init : goal.loop-i-init
loop-i-init c = (c.requires.2, refl)

pub lowered-next-requires : goal.lowered-next-requires
lowered-next-requires c = (omega arith, c.requires.1, c.loop-i.invariant.0)

pub loop-i-preserved : goal.loop-i-preserved
loop-i-preserved c =
    let l = c.loop-i in
    (c.lowered-next.ensures.avoider, l.invariant.1 ∙ c.lowered-next.ensures.same_least)

pub returns : goal.returns
returns c =
    let a = c.args in
    let l = c.loop-i in
    let P = held_in a.patterns.now in
    let whole : l.i ≡ a.n = omega arith in
    l.invariant.1 ∙ ap (λ (m : ℕ). least_from P a.n (take m l.best)) whole ∙ least_whole P a.n (take a.n l.best) l.invariant.0
