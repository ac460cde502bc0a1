-- `basis::is_basic` meets its contract: each pattern of the set leaves the pattern in the basis.
-- Assumes nothing.
use mathlib.Core.Path.{◌∙◌}
use mathlib.Core.Bool.{not, ◌||◌}
use Rattle.std.proofs.Common.{rules, tests}
use Rattle.std.proofs.lemmas.Iterator.{YieldsList-from_slice}
use Rattle.std.proofs.lemmas.Iterator.Search.{all_from_yields_List}
use Rattle.word.specs.Word.{contains}
use Rattle.cell.specs.Basis.{same}
use Rattle.forms.specs.SetMemory.{held}
use Rattle.basis.proofs.BasisWalk.{basic_held}
use Rattle.basis.proofs.is_basic.Goals as goal

pub returns : goal.returns
returns c =
    let a = c.args in
    let β = held a.q.now in
    all_from_yields_List (λ p. same (held p) β || not (contains (held p) β)) _ _ c.all.result c.all.ensures.ran
    (YieldsList-from_slice a.patterns.now cc) (λ x b q k. search (rules, tests)) ∙ basic_held a.patterns.now β
