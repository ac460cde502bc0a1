-- `wellformed::entry_pass::is_twin` meets its contract.
-- Assumes nothing.
use mathlib.Core.Path.{sym, ◌∙◌}
use Rattle.wellformed.proofs.entry_pass.is_twin.Goals as goal

pub returns-then-stands_before : goal.returns-then-stands_before
returns-then-stands_before c = rw (sym c.stands_before.ensures ∙ c.if-stands_before.true) c.if-stands_before.true

pub returns-else-stands_before : goal.returns-else-stands_before
returns-else-stands_before c = rw (sym c.stands_before.ensures ∙ c.if-stands_before.false) c.has_twin_gaps.ensures
