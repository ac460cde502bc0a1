-- `text_schemes::scheme_reader::digits_at` meets its contract: the digits are stored over zeros.
-- Assumes nothing.
use mathlib.Core.Path.{◌∙◌}
use mathlib.Core.List.{[]}
use lib.ListN.{drop}
use Rattle.word.specs.Ceilings.{PREFIX}
use Rattle.text_grammar.specs.Tokens.{run}
use Rattle.text_patterns.proofs.FilledLaws.{sets_filled}
use Rattle.text_schemes.proofs.scheme_reader.digits_at.Goals as goal

pub returns : goal.returns
returns c =
    let a = c.args in
    c.put_digits.ensures ∙ sets_filled PREFIX 0 [] (run (drop a.from a.s.now))
