-- `containment::stands_in` meets its contract: a first copy is found exactly if there is a copy.
-- Assumes nothing.
use mathlib.Core.Path.{◌∙◌}
use Rattle.forms.specs.SetMemory.{held}
use Rattle.copy_search.specs.ShownLaws.{found_contains}
use Rattle.containment.proofs.SetSearch.{short_copy}
use Rattle.containment.proofs.stands_in.Goals as goal

pub returns : goal.returns
returns c =
    let a = c.args in
    c.is_some.ensures ∙ found_contains (held a.p.now) a.w.now c.first_copy.result
    (short_copy a.p.now c.as_slice.result.now a.w.now c.first_copy.result c.first_copy.ensures c.as_slice.ensures)
