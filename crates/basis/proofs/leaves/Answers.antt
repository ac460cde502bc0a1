-- `basis::leaves` meets its contract: the two digits are the same, or the first do not stand in the
-- second.
-- Assumes nothing.
use Rattle.std.proofs.Common.{◌≡◌, sym, ap, ap₂, ◌∙◌}
use Rattle.std.specs.Prelude.{not}
use Rattle.word.specs.Word.{contains}
use Rattle.cell.specs.Basis.{same}
use Rattle.forms.specs.SetMemory.{held}
use Rattle.forms.specs.MemoryLaws.{same_pointwise}
use Rattle.basis.proofs.leaves.Goals as goal
use Rattle.basis.proofs.leaves.Goals.{After-eq}

-- whether the digits are the same
told : (c : After-eq) → same (held c.args.p.now) (held c.args.q.now) ≡ c.eq.result
told c =
    sym (c.eq.ensures ∙ sym (same_pointwise c.as_slice.result.now c.as_slice-2.result.now) ∙
    ap₂ same c.as_slice.ensures c.as_slice-2.ensures)

pub returns-then-eq : goal.returns-then-eq
returns-then-eq c =
    let yes = told (goal.at.returns-then-eq c).After-eq ∙ c.if-eq.true in
    rw yes c.if-eq.true

pub returns-else-eq : goal.returns-else-eq
returns-else-eq c =
    let no = told (goal.at.returns-else-eq c).After-eq ∙ c.if-eq.false in
    rw no (ap not (c.stands_in.ensures ∙ ap (contains (held c.args.p.now)) c.as_slice-else-eq.ensures))
