-- `count_plain::counting::plain_count` meets its contract.
-- Assumes nothing.
use mathlib.Core.Path.{refl}
use Rattle.forms.specs.SetMemory.{held_in}
use Rattle.forms.specs.SchemeMemory.{scheme_in}
use Rattle.scheme.specs.ProperLaws.{proper}
use Rattle.count_plain.specs.ReadingLaws.{counted_cell, counted_value}
use borrow.Author.Rules.{rules}
use Rattle.count_plain.proofs.counting.plain_count.Goals as goal

pub fill_sheet-root-requires : goal.fill_sheet-root-requires
fill_sheet-root-requires c = let q = proper (scheme_in c.args.s) c.requires.1.scheme in search rules

pub cell-requires : goal.cell-requires
cell-requires c =
    let a = c.args in
    let p = c.requires in
    let sheet = c.fill_sheet-root in
    counted_cell (held_in a.patterns.now) a.s sheet.new.sheet
    (proper (scheme_in a.s) p.1.scheme) sheet.ensures.sheet sheet.result a.n _
    sheet.ensures.root
    p.0 refl refl

pub returns : goal.returns
returns c =
    let a = c.args in
    let p = c.requires in
    let sheet = c.fill_sheet-root in
    counted_value (held_in a.patterns.now) a.s sheet.new.sheet
    (proper (scheme_in a.s) p.1.scheme) sheet.ensures.sheet sheet.result a.n _
    sheet.ensures.root
    p.0 refl refl p.1 p.2 c.cell.result c.cell.ensures
