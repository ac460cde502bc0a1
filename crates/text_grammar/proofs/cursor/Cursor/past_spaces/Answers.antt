-- `text_grammar::cursor::Cursor::past_spaces` meets its contract: the tokens from the cursor on are
-- those from the place on.
-- Assumes nothing.
use mathlib.Core.Path.{◌∙◌}
use native.Mathlib.Omega.{arith}
use Rattle.text_grammar.proofs.CursorLaws.{space_next}
use Rattle.text_grammar.proofs.cursor.Cursor.past_spaces.Goals as goal

pub returns-then-s-at-ne32 : goal.returns-then-s-at-ne32
returns-then-s-at-ne32 c =
    let l = c.loop-at.invariant in
    record { same = l.0; onward = l.1; inside = l.2; stopped = λ _. c.if-s-at-ne32.true }

pub loop-at-preserved : goal.loop-at-preserved
loop-at-preserved c =
    let s = c.args.s.now in
    let l = c.loop-at in
    (l.invariant.0 ∙ space_next s l.at (omega arith) c.if-s-at-ne32.false, omega arith, λ h. omega arith)
