-- `count_step::filling::fill_one` meets its contract.
-- Assumes nothing.
use mathlib.Core.Path.{ap, ◌∙◌}
use lib.ListN.{set}
use Rattle.count_step.proofs.filling.fill_one.Goals as goal

pub returns : goal.returns
returns c =
    let a = c.args in
    c.store.ensures ∙ ap (set a.table.now a.at) c.value_at-x.ensures
