-- `notation::patterns::read_patterns` meets its contract: by the length of the text, by its
-- spelling, by the tests of what it spells.
-- Assumes nothing.
use Rattle.std.proofs.Common.{◌≡◌, ◌≤◌, ◌∙◌, refl, sym, ap, length, arith, rules}
use Rattle.std.specs.Prelude.{Some, None, Err}
use Rattle.word.specs.Ceilings.{PATTERN_TEXT}
use Rattle.word.specs.declared.refusal.Refused.{Refused}
use Rattle.forms.specs.SchemeMemory.{Fault}
use Rattle.notation.specs.PatternAnswers.{PatternsRead, read_or}
use Rattle.notation.proofs.PatternAnswerLaws.{answer_misspelt, answer_tested, answered}
use Rattle.notation.proofs.patterns.read_patterns.Goals as goal

abbrev refusal : Refused → PatternsRead
refusal e = Err e

pub returns-in_default : goal.returns-in_default
returns-in_default c =
    let s = c.args.text.now in
    answered s _ (ap refusal c.at-in_default.ensures ∙ answer_misspelt s None (omega arith) c.in_default.ensures refl)

pub returns-in_err-patterns_fault : goal.returns-in_err-patterns_fault
returns-in_err-patterns_fault c =
    let s = c.args.text.now in
    let m = c.in-Some.patterns in
    let short : length s ≤ PATTERN_TEXT = omega arith in
    let r : c.from_residual.result ≡ Err c.in_err-patterns_fault.field-0.0 = search rules in
    answered s _ (r ∙ ap (λ (x : Fault). read_or x m) (sym c.in_err-patterns_fault.was ∙ c.patterns_fault.ensures)
    ∙ answer_tested s (Some m) short c.in-Some.ensures m refl)

pub returns : goal.returns
returns c =
    let s = c.args.text.now in
    let m = c.in-Some.patterns in
    let short : length s ≤ PATTERN_TEXT = omega arith in
    answered s _ (ap (λ (x : Fault). read_or x m) (sym c.in_ok-patterns_fault.was ∙ c.patterns_fault.ensures)
    ∙ answer_tested s (Some m) short c.in-Some.ensures m refl)
