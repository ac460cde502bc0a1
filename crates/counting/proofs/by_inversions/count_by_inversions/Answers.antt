-- `counting::by_inversions::count_by_inversions` meets its contract: judging, then n, then the
-- table, then the results, then the figures.
-- Assumes nothing.
use native.Mathlib.Omega.{arith}
use Prim.Native.Nat.{◌+◌, ◌≤◌}
use mathlib.Core.Path.{◌≡◌, refl, ap, ◌∙◌}
use borrow.Author.Rules.{rules}
use Rattle.std.specs.Prelude.{Ok, Err}
use lib.ListN.{length}
use Rattle.word.specs.Ceilings.{REFINED}
use Rattle.word.specs.Finding.{first_fault}
use Rattle.word.specs.Inversions.{figure_count, figures}
use Rattle.text_page.specs.Page.{overlay}
use Rattle.text_page.specs.PageLaws.{page_after_lem}
use Rattle.forms.specs.SchemeMemory.{patterns_in, scheme_in, fault_of}
use Rattle.scheme.specs.ProperLaws.{proper}
use Rattle.verdict.specs.Verdict.{judge_tests}
use Rattle.count_rows.specs.Run.{cleared}
use Rattle.count_answer.proofs.CountLaws.{verdict_fault}
use Rattle.count_answer.proofs.MeasureLaws.{last_is}
use Rattle.count_figure_answer.specs.FigureCounting.{figure_need}
use Rattle.count_figure_answer.proofs.FigureCountLaws.{figures_length, refused_judging, refused_slices, served, done}
use Rattle.count_figure_answer.proofs.FigureMeasureLaws.{given_of}
use Rattle.counting.proofs.by_inversions.count_by_inversions.Goals as goal
use Rattle.counting.proofs.by_inversions.count_by_inversions.Goals.{In_ok-judge_without_page, In_ok-m}

-- judging found nothing
judged : (c : In_ok-judge_without_page) →
    Ok tt ≡ fault_of (first_fault (judge_tests (patterns_in c.args.patterns) (scheme_in c.args.scheme)))
judged c =
    verdict_fault (patterns_in c.args.patterns) (scheme_in c.args.scheme) _ c.in_ok-judge_without_page.ensures.verdict

-- n is in range, and both slices are long enough
good : (c : In_ok-m) → Ok tt ≡ fault_of (first_fault (judge_tests (patterns_in c.args.patterns) (scheme_in c.args.scheme))) →
    let a = c.args in
    (a.n ≤ REFINED) × (figure_need a.n (scheme_in a.scheme) ≤ length a.table.now) × (figure_count a.n ≤ length a.results.now)
good c is =
    let a = c.args in
    served (patterns_in a.patterns) (scheme_in a.scheme) a.n a.table.now a.results.now (Ok tt) is refl (Ok tt) c.in_ok-m.ensures.0 refl

pub returns-in_err-judge_without_page : goal.returns-in_err-judge_without_page
returns-in_err-judge_without_page c =
    let a = c.args in
    let P = patterns_in a.patterns in
    let E = scheme_in a.scheme in
    let j = c.in_err-judge_without_page in
    let e : c.from_residual.result ≡ Err j.field-0.0 = search rules in
    refused_judging P E a.n a.table.now a.results.now (Err j.field-0.0) (verdict_fault P E _ j.ensures.verdict) refl _ e

pub measured-requires : goal.measured-requires
measured-requires c =
    (proper (scheme_in c.args.scheme) (c.in_ok-judge_without_page.ensures.exactly.0 refl).0.scheme, c.binomials-b.ensures)

pub returns-in_err-m : goal.returns-in_err-m
returns-in_err-m c =
    let a = c.args in
    let is = judged (goal.at.returns-in_err-m c).In_ok-judge_without_page in
    let m = c.in_err-m in
    let e : c.from_residual-in_err-m.result ≡ Err m.field-0.0 = search rules in
    refused_slices (patterns_in a.patterns) (scheme_in a.scheme) a.n a.table.now a.results.now (Ok tt) is refl
    (Err m.field-0.0) m.ensures refl _ e

pub write_figures-requires : goal.write_figures-requires
write_figures-requires c =
    let a = c.args in
    let is = judged (goal.at.write_figures-requires c).In_ok-judge_without_page in
    let m = c.in_ok-m in
    let g = good (goal.at.write_figures-requires c).In_ok-m is in
    let so = c.in_ok-judge_without_page.ensures.exactly.0 refl in
    (given_of a.patterns a.scheme a.n m.m a.table.now a.results.now m.ensures.1 so.0 so.1 g.0 g.1 g.2, c.binomials-b.ensures)

pub figure_count-requires : goal.figure_count-requires
figure_count-requires c =
    let g = good (goal.at.figure_count-requires c).In_ok-m (judged (goal.at.figure_count-requires c).In_ok-judge_without_page) in
    omega (arith, g.0)

pub returns : goal.returns
returns c =
    let a = c.args in
    let P = patterns_in a.patterns in
    let E = scheme_in a.scheme in
    let is = judged (goal.at.returns c).In_ok-judge_without_page in
    let m = c.in_ok-m in
    let wrote = c.write_figures in
    let g = good (goal.at.returns c).In_ok-m is in
    let last = last_is a.scheme a.n m.m m.ensures.1 in
    done P E a.n a.table.now a.results.now (Ok tt) is refl (Ok tt) m.ensures.0 refl _ _ c.figure_count.result _
    (wrote.ensures.table ∙ ap (λ k. cleared (figure_need k E) a.table.now) last)
    (wrote.ensures.results ∙ ap (λ k. overlay 0 (figures P k) a.results.now) last ∙
    page_after_lem {xs = figures P a.n} {t = a.results.now} {u = overlay 0 (figures P a.n) a.results.now}
    {next = 0 + length (figures P a.n)} (record { moved = refl; page = refl })
    (omega (arith, figures_length P a.n, g.2)))
    c.figure_count.ensures refl
