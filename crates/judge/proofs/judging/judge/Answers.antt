-- `judge::judging::judge` meets its contract: a short page first, then the verdict by its parts,
-- and the witness where test 11 finds an entry.
-- Assumes nothing.
use mathlib.Core.Path.{◌≡◌, sym, ap, ◌∙◌}
use mathlib.Core.Bool.{true, false}
use borrow.Author.Rules.{rules}
use Rattle.std.specs.Prelude.{Ok, Err}
use native.Mathlib.Omega.{arith}
use Rattle.word.specs.Finding.{first_fault}
use Rattle.forms.specs.SchemeMemory.{Fault, faulty, patterns_in, scheme_in, fault_of}
use Rattle.text_page.specs.Page.{overlay}
use Rattle.verdict.specs.Verdict.{claim_tests, answered}
use Rattle.verdict.specs.Truth.{WellFormed}
use Rattle.verdict.specs.Witness.{word_shown, bytes_shown}
use Rattle.judge.proofs.WitnessPageLaws.{judges_short, judges_long}
use Rattle.judge.proofs.LossLaws.{shows_short}
use Rattle.judge.proofs.JudgeLaws.{verdict_refused, formed_well, verdict_claims, page_formed, found_claims}
use Rattle.judge.proofs.judging.judge.Goals as goal
use Rattle.judge.proofs.judging.judge.Goals.{In_ok-formed_fault}

pub returns-then-page-lt-PAGE : goal.returns-then-page-lt-PAGE
returns-then-page-lt-PAGE c =
    let a = c.args in
    rw c.at.ensures (judges_short (patterns_in a.patterns) (scheme_in a.scheme) a.page.now (omega arith))

-- the tests 2 to 9 find nothing
clean : (c : In_ok-formed_fault) → faulty c.formed_fault.result ≡ false
clean c =
    let passed : c.formed_fault.result ≡ Ok (tt {0}) = search rules in
    ap faulty passed

formed : (c : In_ok-formed_fault) → WellFormed (patterns_in c.args.patterns) (scheme_in c.args.scheme)
formed c =
    let f = c.formed_fault in
    formed_well (patterns_in c.args.patterns) (scheme_in c.args.scheme) f.result f.ensures (clean c)

pub returns-in_err-formed_fault : goal.returns-in_err-formed_fault
returns-in_err-formed_fault c =
    let P = patterns_in c.args.patterns in
    let E = scheme_in c.args.scheme in
    let f = c.formed_fault in
    let fault : faulty f.result ≡ true = ap faulty c.in_err-formed_fault.was in
    let stopped : c.from_residual.result ≡ Err c.in_err-formed_fault.field-0.0 = search rules in
    judges_long P E c.args.page.now c.args.page.now c.from_residual.result (omega arith)
    (stopped ∙ sym (ap (λ (x : Fault). answered x 0) c.in_err-formed_fault.was) ∙ verdict_refused P E f.result f.ensures fault)
    (page_formed P E f.result f.ensures fault c.args.page.now)

pub judge_claims-judged-requires : goal.judge_claims-judged-requires
judge_claims-judged-requires c = formed c

pub show_lost-requires : goal.show_lost-requires
show_lost-requires c =
    let P = patterns_in c.args.patterns in
    let E = scheme_in c.args.scheme in
    let judged = c.judge_claims-judged in (
      (formed (goal.at.show_lost-requires c).In_ok-formed_fault).patterns,
      shows_short (word_shown P E (fault_of (first_fault (claim_tests P E)))) judged.result.word judged.ensures.shows,
    )

pub returns : goal.returns
returns c =
    let P = patterns_in c.args.patterns in
    let E = scheme_in c.args.scheme in
    let f = c.formed_fault in
    let h = clean (goal.at.returns c).In_ok-formed_fault in
    let judged = c.judge_claims-judged.ensures in
    judges_long P E c.args.page.now _ c.judge_claims-judged.result.verdict (omega arith)
    (judged.verdict ∙ verdict_claims P E f.result f.ensures h)
    ((c.show_lost.ensures (word_shown P E (fault_of (first_fault (claim_tests P E)))) judged.shows).page ∙
    ap (λ (x : Fault). overlay 0 (bytes_shown P E x) c.args.page.now) (sym (found_claims P E f.result f.ensures h)))
