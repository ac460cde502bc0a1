-- `claims::gaps::is_at_most` meets its contract: the sum is the level behind the components that
-- were added.
-- Assumes nothing.
use mathlib.Core.Path.{◌≡◌, sym, ap, ◌∙◌}
use lib.ListN.{length, take}
use lib.Seq.{length-take-le}
use lib.Dec.{leb}
use Rattle.word.specs.Ceilings.{COMPONENTS}
use Rattle.cell.specs.Built.{level}
use Rattle.placing.proofs.LookupLaws.{level_zero, level_more}
use Rattle.claims.proofs.GapClaimLaws.{level_whole}
use borrow.Author.Rules.{rules}
use Prim.Native.Nat.{ℕ, ◌+◌}
use native.Mathlib.Omega.{arith}
use Rattle.claims.proofs.gaps.is_at_most.Goals as goal

pub loop-i-init : goal.loop-i-init
loop-i-init c =
    let a = c.args in
    (omega arith, sym (level_zero (take (a.k + 1) a.parts)))

pub loop-i-preserved : goal.loop-i-preserved
loop-i-preserved c =
    let a = c.args in
    let l = c.loop-i in
    let seven : length a.parts ≡ COMPONENTS = (let g = c.well_formed in search rules) in
    let more = level_more a.parts (a.k + 1) l.i (omega arith) (omega (arith, seven, c.requires)) in
    (omega (arith, l.invariant.0), omega (arith, l.invariant.1, c.from-sum.ensures, more))

pub returns : goal.returns
returns c =
    let a = c.args in
    let l = c.loop-i in
    let seven : length a.parts ≡ COMPONENTS = (let g = c.well_formed in search rules) in
    let g = take (a.k + 1) a.parts in
    let size : length g ≡ a.k + 1 = length-take-le (a.k + 1) a.parts (omega (arith, seven, c.requires)) in
    let end : l.i ≡ length g = omega (arith, size) in
    ap (λ (n : ℕ). leb n a.t) (l.invariant.1 ∙ ap (level g) end ∙ level_whole g)
