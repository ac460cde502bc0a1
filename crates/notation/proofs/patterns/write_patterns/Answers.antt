-- `notation::patterns::write_patterns` meets its contract: by the tests of the patterns, then by
-- the length of the page.
-- Assumes nothing.
use Rattle.std.proofs.Common.{◌≡◌, ap, arith, rules}
use Rattle.word.specs.Finding.{clean, first_fault}
use Rattle.scheme.specs.WellFormed.{pattern_tests}
use Rattle.scheme.specs.FindingLaws.{clean_finding}
use Rattle.forms.specs.SchemeMemory.{patterns_in, faulty}
use Rattle.text_writer.proofs.FitLaws.{patterns_fit}
use Rattle.notation.proofs.PatternWritingLaws.{patterns_done}
use Rattle.notation.proofs.patterns.write_patterns.Goals as goal
use Rattle.notation.proofs.patterns.write_patterns.Goals.{In_ok-patterns_fault}

-- the tests found nothing
passed : (c : In_ok-patterns_fault) → first_fault (pattern_tests (patterns_in c.args.s)) ≡ clean
passed c =
    clean_finding (first_fault (pattern_tests (patterns_in c.args.s))) c.patterns_fault.result c.patterns_fault.ensures
    (ap faulty c.in_ok-patterns_fault.was)

pub put_patterns-length-requires : goal.put_patterns-length-requires
put_patterns-length-requires c = (patterns_fit c.args.s (passed (goal.at.put_patterns-length-requires c).In_ok-patterns_fault), omega arith)

pub put_patterns-requires : goal.put_patterns-requires
put_patterns-requires c = (patterns_fit c.args.s (passed (goal.at.put_patterns-requires c).In_ok-patterns_fault), omega arith)

pub returns : goal.returns
returns c =
    let a = c.args in
    let put = c.put_patterns-length in
    patterns_done (patterns_in a.s) a.page.now (passed (goal.at.returns c).In_ok-patterns_fault) _ put.result put.ensures
    (search rules) _ _ c.put_patterns.ensures
