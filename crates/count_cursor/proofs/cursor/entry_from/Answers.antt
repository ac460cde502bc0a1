-- `count_cursor::cursor::entry_from` meets its contract.
-- Assumes nothing.
use native.Mathlib.Omega.{arith}
use Prim.Native.Nat.{◌<◌}
use mathlib.Core.Path.{sym, ◌∙◌}
use Rattle.count_plan.specs.LayoutLaws.{count_few}
use Rattle.count_cursor.proofs.FindLaws.{none_start, none_more}
use Rattle.count_cursor.proofs.cursor.entry_from.Goals as goal

pub loop-e-init : goal.loop-e-init
loop-e-init c =
    let a = c.args in
    λ o. none_start o.of.s a.k a.from

pub field-requires : goal.field-requires
field-requires c =
    let o = c.requires.0 in
    (omega (arith, o.counted, count_few o.of.s o.of.proper), omega arith, o.of.long)

pub returns-then-field-k : goal.returns-then-field-k
returns-then-field-k c =
    let l = c.loop-e in
    λ o.
    let inside : l.e < o.of.s.count = omega (arith, o.counted) in
    record {
      low = omega arith;
      high = omega arith;
      none = l.invariant o;
      here = λ h. sym (o.of.rows l.e inside).size ∙ sym c.field.ensures ∙ c.if-field-k.true;
    }

pub loop-e-preserved : goal.loop-e-preserved
loop-e-preserved c =
    let a = c.args in
    let l = c.loop-e in
    λ o.
    let inside : l.e < o.of.s.count = omega (arith, o.counted) in
    none_more o.of.s a.k a.from l.e
    (λ q. c.if-field-k.false (c.field.ensures ∙ (o.of.rows l.e inside).size ∙ q)) (l.invariant o)

pub returns : goal.returns
returns c =
    let l = c.loop-e in
    λ o.
    record {
      low = omega arith;
      high = omega (arith, o.counted);
      none = λ d low high. l.invariant o d low (omega arith);
      here = λ h. absurd (omega (arith, o.counted));
    }
