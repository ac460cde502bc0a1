-- `wellformed::entry_tests::large_gap` meets its contract: the vector passes a ceiling if the sum
-- so far and the total of what is left do.
-- Assumes nothing.
use Prim.Native.Nat.{◌+◌}
use mathlib.Core.Path.{◌≡◌, refl, sym, ap, ◌∙◌}
use borrow.Author.Rules.{rules}
use native.Mathlib.Omega.{arith}
use lib.ListN.{length, drop}
use lib.Dec.{ltb}
use borrow.Author.Tests.{lt-ltb, le-ltb}
use Rattle.word.specs.Ceilings.{COMPONENTS, TOTAL}
use Rattle.forms.specs.SchemeMemory.{gap_in}
use Rattle.cell.specs.Cell.{total}
use Rattle.wellformed.proofs.EntryTestLaws.{gap_wide, gap_by_total, total_more, total_none}
use Rattle.wellformed.proofs.entry_tests.large_gap.Goals as goal

pub returns-then-n-gt-COMPONENTS : goal.returns-then-n-gt-COMPONENTS
returns-then-n-gt-COMPONENTS c = sym (gap_wide c.args.b c.if-n-gt-COMPONENTS.true)

pub loop-i-init : goal.loop-i-init
loop-i-init c =
    let b = c.args.b in
    let start : total (gap_in b) ≡ 0 + total (gap_in b) = omega arith in
    (omega arith, c.if-n-gt-COMPONENTS.false, refl, gap_by_total b c.if-n-gt-COMPONENTS.false ∙ ap (ltb TOTAL) start)

pub returns-then-sum-gt-TOTAL : goal.returns-then-sum-gt-TOTAL
returns-then-sum-gt-TOTAL c =
    let b = c.args.b in
    let l = c.loop-i in
    let seven : length b.parts ≡ COMPONENTS = search rules in
    let more = total_more b.parts b.width (omega arith) l.i (omega arith) in
    sym (l.invariant.3 ∙ lt-ltb TOTAL (l.sum + total (drop l.i (gap_in b))) (omega (arith, more, c.from-sum.ensures)))

pub loop-i-preserved : goal.loop-i-preserved
loop-i-preserved c =
    let b = c.args.b in
    let l = c.loop-i in
    let seven : length b.parts ≡ COMPONENTS = search rules in
    let more = total_more b.parts b.width (omega arith) l.i (omega arith) in
    let added : l.sum + total (drop l.i (gap_in b)) ≡
    l.sum + c.from-sum.result + total (drop (l.i + 1) (gap_in b)) =
    omega (arith, more, c.from-sum.ensures) in
    (omega arith, l.invariant.1, refl, l.invariant.3 ∙ ap (ltb TOTAL) added)

pub returns : goal.returns
returns c =
    let b = c.args.b in
    let l = c.loop-i in
    let seven : length b.parts ≡ COMPONENTS = search rules in
    let none = total_none b.parts b.width (omega arith) l.i (omega arith) in
    sym (l.invariant.3 ∙ le-ltb TOTAL (l.sum + total (drop l.i (gap_in b))) (omega (arith, none)))
