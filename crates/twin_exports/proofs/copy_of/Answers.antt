-- `twin_exports::copy_of` meets its contract: by the three answers of containment.
-- Assumes nothing.
use borrow.Author.Rules.{rules}
use Rattle.twin_exports.specs.PageCodeLaws.{yes_short, copies_yes, copies_no, copies_refused}
use Rattle.twin_exports.proofs.copy_of.Goals as goal

pub put_positions-requires : goal.put_positions-requires
put_positions-requires c =
    let a = c.args in
    let r = c.contains-answer in
    yes_short a.pattern.now a.permutation.now r.result r.ensures.answer c.in-Ok-Some.at (search rules)

pub returns-in-Ok-Some : goal.returns-in-Ok-Some
returns-in-Ok-Some c =
    let a = c.args in
    let r = c.contains-answer in
    copies_yes a.pattern.now a.permutation.now r.result r.ensures.answer c.in-Ok-Some.at (search rules)
    a.page.now _ c.put_positions.result c.put_positions.ensures.0 c.put_positions.ensures.1

pub returns-in-Ok-None : goal.returns-in-Ok-None
returns-in-Ok-None c =
    let a = c.args in
    let r = c.contains-answer in
    copies_no a.pattern.now a.permutation.now r.result r.ensures.answer (search rules) a.page.now

pub returns-in-Err : goal.returns-in-Err
returns-in-Err c =
    let a = c.args in
    let r = c.contains-answer in
    copies_refused a.pattern.now a.permutation.now r.result r.ensures.answer _ c.in-Err.is
    a.page.now _ c.code.ensures
