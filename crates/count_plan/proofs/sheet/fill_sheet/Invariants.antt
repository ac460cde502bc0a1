-- The invariant of the loop of `count_plan::sheet::fill_sheet`.
use Rattle.forms.specs.SetMemory.{held_in}
use Rattle.count_plan.specs.SheetForm.{SheetTo}
use Rattle.count_plan.proofs.sheet.fill_sheet.Given as goal

abbrev pub invariant-loop-i : goal.invariant-loop-i
invariant-loop-i l = SheetTo (held_in l.patterns) l.s l.i l.sheet
