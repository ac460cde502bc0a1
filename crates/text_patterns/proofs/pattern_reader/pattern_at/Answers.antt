-- `text_patterns::pattern_reader::pattern_at` meets its contract: the next token is a run of
-- digits, ε, or neither.
-- Assumes nothing.
use Rattle.text_patterns.proofs.PatternTextLaws.{pattern_run}
use Rattle.text_patterns.proofs.pattern_reader.pattern_at.Goals as goal

pub returns-in-Digits : goal.returns-in-Digits
returns-in-Digits c =
    pattern_run c.args.s.now c.args.c.at c.step-t.result c.step-t.ensures c.in-Digits.is c.digits_at-digits.result
    c.digits_at-digits.ensures
