-- `table_print::printing::table_of` meets its contract: the three lines in order.
-- Assumes nothing.
use mathlib.Core.Path.{sym, ◌∙◌}
use Rattle.std.specs.Prelude.{Some}
use Rattle.forms.specs.SchemeMemory.{patterns_in, scheme_in}
use Rattle.table_lines.specs.Kept.{memory_of}
use Rattle.table_print.specs.PrintLaws.{read_accepted, counted_text}
use Rattle.table_print.proofs.printing.table_of.Goals as goal

pub returns-clause-text : goal.returns-clause-text
returns-clause-text c =
    let a = c.args in
    let j = c.judge_lines-judged in
    let set = c.in_ok-patterns in
    let scheme = c.in_ok-entries in
    let number = c.in-Some in
    let counted = c.in_ok-counts in
    counted_text (patterns_in set.patterns) (scheme_in scheme.entries) number.last counted.counts counted.ensures.counts ∙
    read_accepted (memory_of a.lines a.set.now a.scheme.now) (sym c.complete.ensures ∙ c.if-not-complete.false) j.result j.ensures _
    c.in_ok-judged.was set.patterns set.was scheme.entries scheme.was (Some number.last) (sym number.is ∙ c.last_number.ensures)
