-- `wellformed::entry_pass::root_fault` meets its contract: ε is looked up.
-- Assumes nothing.
use mathlib.Core.Path.{refl, sym, ap, ◌∙◌}
use Rattle.std.specs.Prelude.{Err}
use Rattle.wellformed.proofs.entry_pass.root_fault.Goals as goal

pub returns-then-has_entry : goal.returns-then-has_entry
returns-then-has_entry c = λ ps w. rw (sym (c.has_entry.ensures ps w) ∙ c.if-has_entry.true) refl

pub returns : goal.returns
returns c = λ ps w. rw (sym (c.has_entry.ensures ps w) ∙ c.if-has_entry.false) (ap Err c.at.ensures)
