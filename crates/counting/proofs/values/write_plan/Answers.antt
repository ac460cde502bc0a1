-- `counting::values::write_plan` meets its contract: the slice holds the patterns.
-- Assumes nothing.
use mathlib.Core.Path.{◌≡◌, ap, ◌∙◌}
use lib.ListN.{length}
use Rattle.word.specs.Ceilings.{PATTERNS}
use Rattle.forms.specs.SchemeMemory.{patterns_in, scheme_in}
use Rattle.forms.specs.SetMemory.{held_in}
use Rattle.scheme.specs.ProperLaws.{proper}
use Rattle.scheme.specs.SetLaws.{slice_holds}
use borrow.Author.Rules.{rules}
use Rattle.counting.proofs.values.write_plan.Goals as goal

pub fill_sheet-requires : goal.fill_sheet-requires
fill_sheet-requires c = (proper (scheme_in c.args.scheme) c.requires.0.scheme, c.requires.1)

pub returns-clause-sheet : goal.returns-clause-sheet
returns-clause-sheet c =
    let a = c.args in
    let room : length a.patterns.items ≡ PATTERNS = (let o = c.well_formed in search rules) in
    let holds : held_in c.as_slice.result.now ≡ patterns_in a.patterns =
    ap held_in c.as_slice.ensures ∙ slice_holds a.patterns c.requires.0.patterns room in
    rw holds at c.fill_sheet.ensures.sheet
