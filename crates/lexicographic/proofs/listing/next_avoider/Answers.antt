-- `lexicographic::listing::next_avoider` meets its contract: the call is refused, or what
-- was found is put on the page.
-- Assumes nothing.
use mathlib.Core.Path.{refl}
use lib.ListN.{length}
use Rattle.std.specs.Prelude.{Ok, Err}
use Rattle.std.proofs.lemmas.Result.{err_from_is_err_and}
use Rattle.word.specs.Finding.{first_fault}
use Rattle.forms.specs.SchemeMemory.{patterns_in}
use Rattle.scheme.specs.FindingLaws.{clean_finding}
use Rattle.lexicographic.specs.Answers.{next_tests}
use Rattle.lexicographic.proofs.TestLaws.{next_refused, next_put}
use Rattle.lexicographic.proofs.listing.next_avoider.Goals as goal

pub returns-in_err-next_fault : goal.returns-in_err-next_fault
returns-in_err-next_fault c =
    let a = c.args in
    let p = err_from_is_err_and c.from_residual.result c.from_residual.ensures.1 in
    rw (p.1, p.2) (next_refused (patterns_in a.patterns) a.permutation.now a.page.now (Err c.in_err-next_fault.field-0.0) _
    c.in_err-next_fault.ensures refl refl)

pub returns : goal.returns
returns c =
    let a = c.args in
    let put = c.put_listed in
    next_put (patterns_in a.patterns) a.permutation.now a.page.now _ _ (Ok put.result)
    (clean_finding (first_fault (next_tests (patterns_in a.patterns) a.permutation.now (length a.page.now))) _
    c.in_ok-next_fault.ensures refl)
    c.next_listed-answer.ensures put.ensures
