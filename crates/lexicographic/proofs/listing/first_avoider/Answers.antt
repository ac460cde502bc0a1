-- `lexicographic::listing::first_avoider` meets its contract: the call is refused, or what
-- was found is put on the page.
-- Assumes nothing.
use mathlib.Core.Path.{refl}
use lib.ListN.{length}
use Rattle.std.specs.Prelude.{Ok}
use Rattle.word.specs.Finding.{first_fault}
use Rattle.forms.specs.SchemeMemory.{patterns_in}
use Rattle.scheme.specs.FindingLaws.{clean_finding}
use Rattle.lexicographic.specs.Answers.{first_tests}
use Rattle.lexicographic.proofs.TestLaws.{first_put}
use Rattle.lexicographic.proofs.listing.first_avoider.Goals as goal

pub returns : goal.returns
returns c =
    let a = c.args in
    let put = c.put_listed in
    first_put (patterns_in a.patterns) a.n a.page.now _ _ (Ok put.result)
    (clean_finding (first_fault (first_tests (patterns_in a.patterns) a.n (length a.page.now))) _ c.in_ok-first_fault.ensures refl)
    c.first_listed-answer.ensures put.ensures
