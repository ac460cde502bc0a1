-- `judge_texts::judge_texts` meets its contract: a short page first, then what reading
-- found, and then the claims, with the witness where test 11 finds an entry.
-- Assumes nothing.
use Prim.Native.Nat.{ℕ, ◌≤◌}
use mathlib.Core.Path.{◌≡◌, refl, sym, ap, ap₂, ◌∙◌}
use mathlib.Core.Bool.{true, false}
use mathlib.Core.List.{List}
use native.Mathlib.Omega.{arith}
use lib.ListN.{length}
use Rattle.word.specs.Ceilings.{PAGE}
use Rattle.word.specs.Finding.{first_fault}
use Rattle.forms.specs.SchemeMemory.{Fault, patterns_in, scheme_in, fault_of, or_else, faulty}
use Rattle.notation.specs.Answers.{read_fault, read_list}
use Rattle.notation.specs.PatternAnswers.{PatternsRead, patterns_answer, ReadsPatterns}
use Rattle.notation.specs.SchemeAnswers.{SchemeRead, scheme_answer, ReadsScheme}
use Rattle.text_page.specs.Page.{overlay}
use Rattle.verdict.specs.Verdict.{Verdict, claim_tests, compared_cells, answered}
use Rattle.verdict.specs.Truth.{WellFormed}
use Rattle.verdict.specs.Witness.{word_shown, bytes_shown}
use Rattle.judge_texts.specs.TextJudgement.{JudgesTexts}
use Rattle.judge_texts.specs.TextVerdictLaws.{read_well}
use Rattle.judge_texts.specs.TextPageLaws.{texts_short, texts_refused, texts_judged}
use Rattle.judge.proofs.LossLaws.{shows_short}
use Rattle.std.specs.Prelude.{Ok, Err}
use Rattle.std.proofs.lemmas.Result.{err_from_is_err_and}
use Rattle.judge_texts.proofs.judge_texts.Goals as goal
use Rattle.judge_texts.proofs.judge_texts.Goals.{In_ok-list}

-- the answers of reading are those of the definition
refused_by : (s t : List ℕ) (p : PatternsRead) (q : SchemeRead) → (p ≡ patterns_answer s) × ReadsPatterns s p →
    (q ≡ scheme_answer t) × ReadsScheme t q → (f : Fault) → f ≡ or_else (read_fault p) (read_fault q) → faulty f ≡ true →
    (page : List ℕ) (r : Verdict) → PAGE ≤ length page → r ≡ answered f 0 → JudgesTexts s t page page r
refused_by s t p q (is, reading) (is_scheme, reading-scheme) f found h page r long e =
    let same : f ≡ or_else (read_fault (patterns_answer s)) (read_fault (scheme_answer t)) =
    found ∙ ap₂ (λ (x : PatternsRead) (y : SchemeRead). or_else (read_fault x) (read_fault y)) is is_scheme in
    texts_refused s t (rw is at reading) (rw is_scheme at reading-scheme) page r long (ap faulty (sym same) ∙ h)
    (e ∙ ap (λ (x : Fault). answered x 0) same)

judged-by : (s t : List ℕ) (p : PatternsRead) (q : SchemeRead) → (p ≡ patterns_answer s) × ReadsPatterns s p →
    (q ≡ scheme_answer t) × ReadsScheme t q → (f : Fault) → f ≡ or_else (read_fault p) (read_fault q) → faulty f ≡ false →
    (before after : List ℕ) (r : Verdict) → PAGE ≤ length before →
    r ≡ answered (fault_of (first_fault (claim_tests (read_list patterns_in p) (read_list scheme_in q))))
    (compared_cells (read_list patterns_in p) (read_list scheme_in q)) →
    after ≡ overlay 0 (bytes_shown (read_list patterns_in p) (read_list scheme_in q)
    (fault_of (first_fault (claim_tests (read_list patterns_in p) (read_list scheme_in q))))) before →
    JudgesTexts s t before after r
judged-by s t p q (is, reading) (is_scheme, reading-scheme) f found h before after r long e k =
    let same : f ≡ or_else (read_fault (patterns_answer s)) (read_fault (scheme_answer t)) =
    found ∙ ap₂ (λ (x : PatternsRead) (y : SchemeRead). or_else (read_fault x) (read_fault y)) is is_scheme in
    texts_judged s t (rw is at reading) (rw is_scheme at reading-scheme) before after r long (ap faulty (sym same) ∙ h)
    (e ∙ ap₂ (λ (x : PatternsRead) (y : SchemeRead). answered
    (fault_of (first_fault (claim_tests (read_list patterns_in x) (read_list scheme_in y))))
    (compared_cells (read_list patterns_in x) (read_list scheme_in y))) is is_scheme)
    (k ∙ ap₂ (λ (x : PatternsRead) (y : SchemeRead). overlay 0 (bytes_shown (read_list patterns_in x) (read_list scheme_in y)
    (fault_of (first_fault (claim_tests (read_list patterns_in x) (read_list scheme_in y))))) before) is is_scheme)

pub returns-then-page-lt-PAGE : goal.returns-then-page-lt-PAGE
returns-then-page-lt-PAGE c =
    let a = c.args in
    rw c.at.ensures (texts_short a.patterns.now a.scheme.now a.page.now (omega arith))

pub returns-in_err-set : goal.returns-in_err-set
returns-in_err-set c =
    let q = c.read_scheme-s in
    let p = c.read_patterns-p in
    let a = c.args in
    let x = err_from_is_err_and c.from_residual.result c.from_residual.ensures.1 in
    let f = or_else (read_fault p.result) (read_fault q.result) in
    let e : f ≡ Err c.in_err-set.field-0.0 = rw c.in_err-set.was refl in
    refused_by a.patterns.now a.scheme.now p.result q.result p.ensures q.ensures f refl (ap faulty e)
    a.page.now c.from_residual.result (omega (arith, c.if-page-lt-PAGE.false)) (rw (x.1, x.2, e) refl)

pub returns-in_err-list : goal.returns-in_err-list
returns-in_err-list c =
    let q = c.read_scheme-s in
    let p = c.read_patterns-p in
    let a = c.args in
    let x = err_from_is_err_and c.from_residual-in_err-list.result c.from_residual-in_err-list.ensures.1 in
    let f = or_else (read_fault p.result) (read_fault q.result) in
    let e : f ≡ Err c.in_err-list.field-0.0 = rw (c.in_ok-set.was, c.in_err-list.was) refl in
    refused_by a.patterns.now a.scheme.now p.result q.result p.ensures q.ensures f refl (ap faulty e)
    a.page.now c.from_residual-in_err-list.result (omega (arith, c.if-page-lt-PAGE.false)) (rw (x.1, x.2, e) refl)

-- the lists that were read are well-formed
formed : (c : In_ok-list) → WellFormed (patterns_in c.in_ok-set.set) (scheme_in c.in_ok-list.list)
formed c =
    let q = c.read_scheme-s in
    let p = c.read_patterns-p in
    rw (c.in_ok-set.was, c.in_ok-list.was) at (read_well _ _ p.result p.ensures.0 p.ensures.1 q.result q.ensures.0 q.ensures.1)

pub judge_claims-judged-requires : goal.judge_claims-judged-requires
judge_claims-judged-requires c = formed c

pub show_lost-requires : goal.show_lost-requires
show_lost-requires c =
    let P = patterns_in c.in_ok-set.set in
    let E = scheme_in c.in_ok-list.list in (
      (formed (goal.at.show_lost-requires c).In_ok-list).patterns,
      shows_short (word_shown P E (fault_of (first_fault (claim_tests P E)))) c.judge_claims-judged.result.word
          c.judge_claims-judged.ensures.shows,
    )

pub returns : goal.returns
returns c =
    let q = c.read_scheme-s in
    let p = c.read_patterns-p in
    let a = c.args in
    let P = patterns_in c.in_ok-set.set in
    let E = scheme_in c.in_ok-list.list in
    let judged = c.judge_claims-judged.ensures in
    let f = or_else (read_fault p.result) (read_fault q.result) in
    let e : f ≡ Ok tt = rw (c.in_ok-set.was, c.in_ok-list.was) refl in
    judged-by a.patterns.now a.scheme.now p.result q.result p.ensures q.ensures f refl (ap faulty e) a.page.now _
    c.judge_claims-judged.result.verdict (omega (arith, c.if-page-lt-PAGE.false))
    (rw (c.in_ok-set.was, c.in_ok-list.was) judged.verdict)
    (rw (c.in_ok-set.was, c.in_ok-list.was)
    (c.show_lost.ensures (word_shown P E (fault_of (first_fault (claim_tests P E)))) judged.shows).page)
