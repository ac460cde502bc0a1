-- `text_gaps::gap_reader::number_of` meets its contract: by the number of digits.
-- Assumes nothing.
use mathlib.Core.Path.{sym, ◌∙◌}
use native.Mathlib.Omega.{arith}
use lib.ListN.{drop}
use Rattle.text_grammar.specs.Tokens.{run}
use Rattle.text_gaps.proofs.GapNumberLaws.{number_empty, number_one, number_two, number_three}
use Rattle.text_gaps.proofs.gap_reader.number_of.Goals as goal

pub returns-then-len-eq0 : goal.returns-then-len-eq0
returns-then-len-eq0 c =
    number_empty (run (drop c.args.from c.args.s.now)) (sym c.requires ∙ c.if-len-eq0.true)

pub returns-then-len-eq1 : goal.returns-then-len-eq1
returns-then-len-eq1 c =
    number_one (run (drop c.args.from c.args.s.now)) c.digit_of-a.result
    (sym c.requires ∙ c.if-len-eq1.true) c.digit_of-a.ensures

pub returns-then-len-eq2 : goal.returns-then-len-eq2
returns-then-len-eq2 c =
    number_two (run (drop c.args.from c.args.s.now)) c.digit_of-a.result
    c.digit_of-b.result (sym c.requires ∙ c.if-len-eq2.true) c.digit_of-a.ensures
    (omega arith) c.digit_of-b.ensures

pub returns : goal.returns
returns c =
    number_three (run (drop c.args.from c.args.s.now)) c.digit_of-a.result
    c.digit_of-b.result c.digit_of-c.result
    (omega (arith, c.requires))
    c.digit_of-a.ensures (omega arith) c.digit_of-b.ensures
    c.digit_of-c.ensures
