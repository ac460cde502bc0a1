-- `text_schemes::scheme_reader::prefix_at` meets its contract: the next token is a run of digits,
-- ε, or neither.
-- Assumes nothing.
use Rattle.text_schemes.proofs.EntryTextLaws.{prefixed}
use Rattle.text_schemes.proofs.scheme_reader.prefix_at.Goals as goal

pub returns-in-Digits : goal.returns-in-Digits
returns-in-Digits c =
    prefixed c.args.s.now c.args.c.at c.step-t.result c.step-t.ensures c.in-Digits.is c.digits_at-digits.result
    c.digits_at-digits.ensures
