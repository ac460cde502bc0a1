-- `avoider_lines::judging::asked_for` meets its contract: the lines, the set, the number.
-- Assumes nothing.
use mathlib.Core.Path.{sym, ◌∙◌}
use Rattle.std.specs.Prelude.{Err}
use Rattle.table_lines.specs.Kept.{memory_of}
use Rattle.avoider_lines.specs.LineTestLaws.{asks_missing, asks_both}
use Rattle.avoider_lines.proofs.judging.asked_for.Goals as goal

pub returns-then-not-complete : goal.returns-then-not-complete
returns-then-not-complete c =
    let a = c.args in
    asks_missing (memory_of a.lines a.set.now a.second.now) (Err c.missing.result) (sym c.complete.ensures ∙ c.if-not-complete.true)
    c.missing.ensures

pub returns : goal.returns
returns c =
    let a = c.args in
    asks_both (memory_of a.lines a.set.now a.second.now) c.asked_by.result (sym c.complete.ensures ∙ c.if-not-complete.false)
    c.set_in-read.result c.set_in-read.ensures c.length_in-number.result c.length_in-number.ensures c.asked_by.ensures
