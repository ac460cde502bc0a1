-- `counting::by_table::count` meets its contract: judging, then n, then the table, then the count.
-- Assumes nothing.
use mathlib.Core.Path.{◌≡◌, refl, ap, ◌∙◌}
use borrow.Author.Rules.{rules}
use Rattle.std.specs.Prelude.{Ok, Err}
use Rattle.word.specs.Finding.{first_fault}
use Rattle.forms.specs.SchemeMemory.{patterns_in, scheme_in, fault_of}
use Rattle.scheme.specs.ProperLaws.{proper}
use Rattle.verdict.specs.Verdict.{judge_tests}
use Rattle.verdict.specs.Value.{count_of}
use Rattle.count_plan.specs.Layout.{need_of}
use Rattle.count_rows.specs.Run.{cleared}
use Rattle.count_answer.proofs.CountLaws.{verdict_fault, refused_judging, refused_n_or_table, served, done}
use Rattle.count_answer.proofs.MeasureLaws.{given_of, last_is}
use Rattle.counting.proofs.by_table.count.Goals as goal
use Rattle.counting.proofs.by_table.count.Goals.{In_ok-judge_without_page}

-- judging found nothing
judged : (c : In_ok-judge_without_page) →
    Ok tt ≡ fault_of (first_fault (judge_tests (patterns_in c.args.patterns) (scheme_in c.args.scheme)))
judged c =
    verdict_fault (patterns_in c.args.patterns) (scheme_in c.args.scheme) _ c.in_ok-judge_without_page.ensures.verdict

pub returns-in_err-judge_without_page : goal.returns-in_err-judge_without_page
returns-in_err-judge_without_page c =
    let a = c.args in
    let P = patterns_in a.patterns in
    let E = scheme_in a.scheme in
    let j = c.in_err-judge_without_page in
    let e : c.from_residual.result ≡ Err j.field-0.0 = search rules in
    refused_judging P E a.n a.table.now (Err j.field-0.0) (verdict_fault P E _ j.ensures.verdict) refl _ e

pub measured-requires : goal.measured-requires
measured-requires c =
    (proper (scheme_in c.args.scheme) (c.in_ok-judge_without_page.ensures.exactly.0 refl).0.scheme, c.binomials-b.ensures)

pub returns-in_err-m : goal.returns-in_err-m
returns-in_err-m c =
    let a = c.args in
    let is = judged (goal.at.returns-in_err-m c).In_ok-judge_without_page in
    let m = c.in_err-m in
    let e : c.from_residual-in_err-m.result ≡ Err m.field-0.0 = search rules in
    refused_n_or_table (patterns_in a.patterns) (scheme_in a.scheme) a.n a.table.now (Ok tt) is refl
    (Err m.field-0.0) m.ensures refl _ e

pub last_count-last-requires : goal.last_count-last-requires
last_count-last-requires c =
    let a = c.args in
    let is = judged (goal.at.last_count-last-requires c).In_ok-judge_without_page in
    let m = c.in_ok-m in
    let good = served (patterns_in a.patterns) (scheme_in a.scheme) a.n a.table.now (Ok tt) is refl (Ok tt) m.ensures.0 refl in
    let so = c.in_ok-judge_without_page.ensures.exactly.0 refl in
    (given_of a.patterns a.scheme a.n m.m a.table.now m.ensures.1 so.0 so.1 good.0 good.1, c.binomials-b.ensures)

pub returns : goal.returns
returns c =
    let a = c.args in
    let E = scheme_in a.scheme in
    let is = judged (goal.at.returns c).In_ok-judge_without_page in
    let m = c.in_ok-m in
    let x = c.last_count-last in
    let n = last_is a.scheme a.n m.m m.ensures.1 in
    done (patterns_in a.patterns) E a.n a.table.now (Ok tt) is refl (Ok tt) m.ensures.0 refl _ x.result _
    (x.ensures.table ∙ ap (λ k. cleared (need_of k E) a.table.now) n) (x.ensures.count ∙ ap (count_of (patterns_in a.patterns) E) n) refl
