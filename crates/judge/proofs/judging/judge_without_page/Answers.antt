-- `judge::judging::judge_without_page` meets its contract: the verdict by its parts, and the
-- theorem on it.
-- Assumes nothing.
use mathlib.Core.Path.{◌≡◌, sym, ap, ◌∙◌}
use mathlib.Core.Bool.{true}
use borrow.Author.Rules.{rules}
use Rattle.std.specs.Prelude.{Ok, Err}
use Rattle.verdict.specs.Verdict.{answered}
use Rattle.forms.specs.SchemeMemory.{Fault, faulty, patterns_in, scheme_in}
use Rattle.judge.proofs.JudgementLaws.{judges_without}
use Rattle.judge.proofs.JudgeLaws.{verdict_refused, formed_well, verdict_claims}
use Rattle.judge.proofs.judging.judge_without_page.Goals as goal

pub returns-in_err-formed_fault : goal.returns-in_err-formed_fault
returns-in_err-formed_fault c =
    let P = patterns_in c.args.patterns in
    let E = scheme_in c.args.scheme in
    let f = c.formed_fault in
    let fault : faulty f.result ≡ true = ap faulty c.in_err-formed_fault.was in
    let stopped : c.from_residual.result ≡ Err c.in_err-formed_fault.field-0.0 = search rules in
    judges_without P E c.from_residual.result
    (stopped ∙ sym (ap (λ (x : Fault). answered x 0) c.in_err-formed_fault.was) ∙ verdict_refused P E f.result f.ensures fault)

pub judge_claims-requires : goal.judge_claims-requires
judge_claims-requires c =
    let f = c.formed_fault in
    let passed : f.result ≡ Ok (tt {0}) = search rules in
    formed_well (patterns_in c.args.patterns) (scheme_in c.args.scheme) f.result f.ensures (ap faulty passed)

pub returns : goal.returns
returns c =
    let P = patterns_in c.args.patterns in
    let E = scheme_in c.args.scheme in
    let f = c.formed_fault in
    let passed : f.result ≡ Ok (tt {0}) = search rules in
    judges_without P E c.judge_claims.result.verdict
    (c.judge_claims.ensures.verdict ∙ verdict_claims P E f.result f.ensures (ap faulty passed))
