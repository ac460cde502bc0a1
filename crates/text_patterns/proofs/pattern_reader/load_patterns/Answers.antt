-- `text_patterns::pattern_reader::load_patterns` meets its contract: ∅ or patterns in braces, and
-- nothing after them.
-- Assumes nothing.
use Rattle.std.proofs.Common.{◌≡◌, ◌∙◌, rules}
use Rattle.text_grammar.specs.declared.cursor.Kind.TheVariants.{End}
use Rattle.text_patterns.proofs.PatternTextLaws.{text_none, text_more, text_end}
use Rattle.text_patterns.proofs.pattern_reader.load_patterns.Goals as goal

pub returns-in_err-patterns : goal.returns-in_err-patterns
returns-in_err-patterns c = c.from_residual.ensures ∙ text_none c.args.s.now c.in_err-patterns.ensures

pub returns-then-ne : goal.returns-then-ne
returns-then-ne c =
    let a = c.in_ok-patterns in
    let e : c.step-t.result.kind ≡ End → ⊥ = search rules in
    text_more c.args.s.now a.patterns a.behind a.ensures c.step-t.result c.step-t.ensures e

pub returns : goal.returns
returns c =
    let a = c.in_ok-patterns in
    let e : c.step-t.result.kind ≡ End = search rules in
    text_end c.args.s.now a.patterns a.behind a.ensures c.step-t.result c.step-t.ensures e
