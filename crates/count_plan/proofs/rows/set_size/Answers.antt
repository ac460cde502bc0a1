-- `count_plan::rows::set_size` meets its contract.
-- Assumes nothing.
use mathlib.Core.Path.{sym, ap, ◌∙◌}
use Rattle.forms.specs.SchemeMemory.{six_of, does_of}
use Rattle.forms.specs.MemoryLaws.{length_padded}
use Rattle.forms.specs.declared.memory.Rule.{Rule}
use Rattle.count_plan.specs.Layout.{deleted_by}
use Rattle.count_plan.proofs.rows.set_size.Goals as goal

pub returns-in-Delete : goal.returns-in-Delete
returns-in-Delete c =
    let d = c.in-Delete.d in
    c.from.ensures ∙ sym (length_padded d.count (six_of d)) ∙ sym (ap (λ (r : Rule). deleted_by (does_of r)) c.in-Delete.is)
