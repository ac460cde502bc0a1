-- `count_plan::sheet::fill_sheet` meets its contract.
-- Assumes nothing.
use native.Mathlib.Omega.{arith}
use Prim.Native.Nat.{ℕ, ◌<◌}
use mathlib.Core.Path.{◌≡◌, sym, subst}
use mathlib.Core.List.{[]}
use lib.Seq.{length-take-le}
use Rattle.forms.specs.SetMemory.{held_in}
use Rattle.scheme.specs.Links.{prefixes_in}
use Rattle.count_plan.specs.LayoutLaws.{count_few, entry_short}
use Rattle.count_plan.specs.SheetForm.{SheetTo}
use Rattle.count_plan.specs.SheetRows.{Names}
use Rattle.count_plan.proofs.CardLaws.{entry_linked, expands_short}
use Rattle.count_plan.proofs.SheetLaws.{sheet_more}
use Rattle.count_plan.proofs.SheetRowLaws.{root_names}
use Rattle.count_plan.proofs.sheet.fill_sheet.Goals as goal

pub codes_of-codes-requires : goal.codes_of-codes-requires
codes_of-codes-requires c =
    let a = c.args in
    record { few = count_few a.s c.requires.0; each = entry_short a.s c.requires.0 }

pub loop-i-init : goal.loop-i-init
loop-i-init c =
    record { long = c.requires.1; cards = λ (i : ℕ) (h : i < 0). absurd (omega arith) }

pub offset_bounds-s-i : goal.offset_bounds-s-i
offset_bounds-s-i c = omega (arith, count_few c.args.s c.requires.0)

pub bounds-s-i : goal.bounds-s-i
bounds-s-i c = omega (arith, count_few c.args.s c.requires.0)

pub slice_bounds-codes-end : goal.slice_bounds-codes-end
slice_bounds-codes-end c = omega (arith, count_few c.args.s c.requires.0, c.codes_of-codes.ensures.0)

pub slice_bounds-codes-end-2 : goal.slice_bounds-codes-end-2
slice_bounds-codes-end-2 c =
    let codes = c.codes_of-codes in
    sym (length-take-le c.args.s.count codes.result (omega (arith, count_few c.args.s c.requires.0, codes.ensures.0)))

pub entry_card-card-requires : goal.entry_card-card-requires
entry_card-card-requires c =
    let i = c.loop-i.i in
    (entry_linked c.args.s c.requires.0 i (omega arith), expands_short c.args.s c.requires.0 i (omega arith))

pub overflow_mul-i : goal.overflow_mul-i
overflow_mul-i c = omega (arith, count_few c.args.s c.requires.0)

pub put_card-requires : goal.put_card-requires
put_card-requires c =
    let long = c.loop-i.invariant.long in
    (omega (arith, count_few c.args.s c.requires.0, long), omega (arith, long))

pub loop-i-preserved : goal.loop-i-preserved
loop-i-preserved c =
    let a = c.args in
    let l = c.loop-i in
    sheet_more (held_in a.patterns.now) a.s l.i l.sheet c.put_card.new.sheet c.entry_card-card.result
    l.invariant (c.entry_card-card.ensures (prefixes_in a.s) c.codes_of-codes.ensures.1) c.put_card.ensures

pub returns : goal.returns
returns c =
    let a = c.args in
    let l = c.loop-i in
    let e : l.i ≡ a.s.count = omega arith in
    let root = c.index_in.ensures (prefixes_in a.s) c.codes_of-codes.ensures.1 in
    record {
      sheet = subst (λ (m : ℕ). SheetTo (held_in a.patterns.now) a.s m l.sheet) e l.invariant;
      root = subst (λ (x : ℕ). Names a.s [] x) (sym root) (root_names a.s c.requires.0);
    }
