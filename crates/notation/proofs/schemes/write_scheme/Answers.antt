-- `notation::schemes::write_scheme` meets its contract: by the tests of the scheme, then by
-- the length of the page.
-- Assumes nothing.
use Rattle.std.proofs.Common.{◌≡◌, ◌∙◌, sym, ap, arith, rules}
use Rattle.word.specs.Finding.{clean, first_fault}
use Rattle.scheme.specs.WellFormed.{scheme_tests}
use Rattle.scheme.specs.FindingLaws.{clean_finding}
use Rattle.forms.specs.SchemeMemory.{Fault, scheme_in, faulty}
use Rattle.std.specs.Prelude.{Err}
use Rattle.notation.specs.Written.{written_or}
use Rattle.text_writer.proofs.SchemeFitLaws.{scheme_fit}
use Rattle.notation.proofs.SchemeWritingLaws.{scheme_refused, scheme_done}
use Rattle.notation.proofs.schemes.write_scheme.Goals as goal
use Rattle.notation.proofs.schemes.write_scheme.Goals.{In_ok-scheme_fault}

-- the tests found nothing
passed : (c : In_ok-scheme_fault) → first_fault (scheme_tests (scheme_in c.args.s)) ≡ clean
passed c =
    clean_finding (first_fault (scheme_tests (scheme_in c.args.s))) c.scheme_fault.result c.scheme_fault.ensures
    (ap faulty c.in_ok-scheme_fault.was)

pub put_scheme-length-requires : goal.put_scheme-length-requires
put_scheme-length-requires c = (scheme_fit c.args.s (passed (goal.at.put_scheme-length-requires c).In_ok-scheme_fault), omega arith)

pub put_scheme-requires : goal.put_scheme-requires
put_scheme-requires c = (scheme_fit c.args.s (passed (goal.at.put_scheme-requires c).In_ok-scheme_fault), omega arith)

pub returns : goal.returns
returns c =
    let a = c.args in
    let put = c.put_scheme-length in
    scheme_done (scheme_in a.s) a.page.now (passed (goal.at.returns c).In_ok-scheme_fault) _ put.result put.ensures
    (search rules) _ _ c.put_scheme.ensures

pub returns-in_err-scheme_fault : goal.returns-in_err-scheme_fault
returns-in_err-scheme_fault c =
    let w = c.in_err-scheme_fault.was in
    let r : c.from_residual.result ≡ Err c.in_err-scheme_fault.field-0.0 = search rules in
    scheme_refused (scheme_in c.args.s) c.args.page.now c.from_residual.result c.scheme_fault.result c.scheme_fault.ensures (ap faulty w)
    (r ∙ sym (ap (λ (x : Fault). written_or x 0) w))
