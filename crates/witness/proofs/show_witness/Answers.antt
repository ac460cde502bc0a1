-- `witness::show_witness` meets its contract: the two halves one after the other are the witness.
-- Assumes nothing.
use Rattle.std.proofs.Common.{arith, ℕ, List, ◌++◌, ap, sym, ◌∙◌}
use lib.ListN.{take}
use Rattle.forms.specs.SetMemory.{held_in}
use Rattle.text_page.specs.PageLaws.{writes_join, writes_as}
use Rattle.verdict.specs.Witness.{half}
use Rattle.witness.proofs.ShownLaws.{shown_positions, none_positions}
use Rattle.witness.proofs.show_witness.Goals as goal

pub returns-in-Some : goal.returns-in-Some
returns-in-Some c =
    let w = c.args.w.now in
    let r = c.in-Some.copy in
    writes_as (writes_join c.put_half-next.ensures c.put_half.ensures)
    (ap (λ (u : List ℕ). half w ++ half u)
    (ap (take r.length) c.bytes_of-positions.ensures ∙
    shown_positions (held_in c.args.patterns.now) w r (sym c.in-Some.is ∙ c.earliest_in-copy.ensures) (omega (arith, c.requires))))

pub returns-in-None : goal.returns-in-None
returns-in-None c =
    let w = c.args.w.now in
    writes_as (writes_join c.put_half-next.ensures c.put_half-in-None.ensures)
    (ap (λ (u : List ℕ). half w ++ half u)
    (sym (none_positions (held_in c.args.patterns.now) w (sym c.in-None.is ∙ c.earliest_in-copy.ensures))))
