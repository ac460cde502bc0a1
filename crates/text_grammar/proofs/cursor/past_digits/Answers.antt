-- `text_grammar::cursor::past_digits` meets its contract: the run ends where the run from the place
-- on ends.
-- Assumes nothing.
use mathlib.Core.Path.{sym, ◌∙◌}
use native.Mathlib.Omega.{arith}
use Rattle.text_grammar.proofs.CursorLaws.{run_past, run_stop, run_whole}
use Rattle.text_grammar.proofs.cursor.past_digits.Goals as goal

pub returns-then-not-is_ascii_digit : goal.returns-then-not-is_ascii_digit
returns-then-not-is_ascii_digit c =
    let s = c.args.s.now in
    let l = c.loop-at in
    sym (l.invariant ∙ run_stop s l.at (omega arith) (sym c.is_ascii_digit.ensures.value ∙ c.if-not-is_ascii_digit.true))

pub loop-at-preserved : goal.loop-at-preserved
loop-at-preserved c =
    let s = c.args.s.now in
    let l = c.loop-at in
    l.invariant ∙ run_past s l.at (omega arith) (sym c.is_ascii_digit.ensures.value ∙ c.if-not-is_ascii_digit.false)

pub returns : goal.returns
returns c =
    let l = c.loop-at in
    c.max.ensures ∙ run_whole c.args.s.now c.args.from l.at l.invariant l.auto.at l.auto.at-end c.loop-at-test.false
