-- `counting::plainly::count_plainly` meets its contract: judging, then n, then the evaluation.
-- Assumes nothing.
use mathlib.Core.Path.{◌≡◌, refl, sym}
use borrow.Author.Rules.{rules}
use Rattle.std.specs.Prelude.{Ok, Err}
use Rattle.word.specs.Finding.{first_fault}
use Rattle.forms.specs.SchemeMemory.{patterns_in, scheme_in, fault_of}
use Rattle.verdict.specs.Verdict.{judge_tests}
use Rattle.count_answer.proofs.CountLaws.{verdict_fault, length_good, plain_refused, plain_long, plain_done}
use Rattle.counting.proofs.plainly.count_plainly.Goals as goal
use Rattle.counting.proofs.plainly.count_plainly.Goals.{In_ok-judge_without_page}

-- judging found nothing
judged : (c : In_ok-judge_without_page) →
    Ok tt ≡ fault_of (first_fault (judge_tests (patterns_in c.args.patterns) (scheme_in c.args.scheme)))
judged c =
    verdict_fault (patterns_in c.args.patterns) (scheme_in c.args.scheme) _ c.in_ok-judge_without_page.ensures.verdict

pub returns-in_err-judge_without_page : goal.returns-in_err-judge_without_page
returns-in_err-judge_without_page c =
    let a = c.args in
    let P = patterns_in a.patterns in
    let E = scheme_in a.scheme in
    let j = c.in_err-judge_without_page in
    let e : c.from_residual.result ≡ Err j.field-0.0 = search rules in
    plain_refused P E a.n (Err j.field-0.0) (verdict_fault P E _ j.ensures.verdict) refl _ e

pub returns-in_err-length_fault : goal.returns-in_err-length_fault
returns-in_err-length_fault c =
    let a = c.args in
    let is = judged (goal.at.returns-in_err-length_fault c).In_ok-judge_without_page in
    let g = c.in_err-length_fault in
    let e : c.from_residual-in_err-length_fault.result ≡ Err g.field-0.0 = search rules in
    plain_long (patterns_in a.patterns) (scheme_in a.scheme) a.n (Ok tt) is refl
    (Err g.field-0.0) g.ensures refl _ e

pub evaluated-value-requires : goal.evaluated-value-requires
evaluated-value-requires c =
    let so = c.in_ok-judge_without_page.ensures.exactly.0 refl in
    (length_good c.args.n (sym c.in_ok-length_fault.ensures), so.0, so.1)

pub returns : goal.returns
returns c =
    let a = c.args in
    let is = judged (goal.at.returns c).In_ok-judge_without_page in
    plain_done (patterns_in a.patterns) (scheme_in a.scheme) a.n (Ok tt) is refl (Ok tt) c.in_ok-length_fault.ensures
    c.evaluated-value.result _ c.evaluated-value.ensures refl
