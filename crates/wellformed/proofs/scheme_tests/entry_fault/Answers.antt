-- `wellformed::scheme_tests::entry_fault` meets its contract: the findings in their order.
-- Assumes nothing.
use mathlib.Core.Path.{◌≡◌, sym, ◌∙◌}
use borrow.Author.Rules.{rules}
use Rattle.std.specs.Prelude.{Ok}
use Rattle.scheme.specs.FindingLaws.{goes}
use Rattle.wellformed.proofs.scheme_tests.entry_fault.Goals as goal

pub returns : goal.returns
returns c =
    let f = c.args.found in
    let none : f.none ≡ Ok (tt {0}) = search rules in
    let twin : f.twin ≡ Ok (tt {0}) = search rules in
    let root : c.root_fault.result ≡ Ok (tt {0}) = search rules in
    let width : f.width ≡ Ok (tt {0}) = search rules in
    λ ps w.
    sym (goes _ _ none ∙ goes _ _ twin ∙ goes _ _ (sym (c.root_fault.ensures ps w) ∙ root) ∙ goes _ _ width)
