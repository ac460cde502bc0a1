-- `text_gaps::gap_reader::parts_at` meets its contract: what is read in all is what is read from
-- the place on.
-- Assumes nothing.
use Rattle.std.proofs.Common.{◌≡◌, ap, false, rules}
use Rattle.text_grammar.specs.declared.cursor.Kind.TheVariants.{Right, Byte}
use Rattle.text_grammar.proofs.TextItemLaws.{turn_vector_other}
use Rattle.text_gaps.specs.GapReading.{turn_after}
use Rattle.text_gaps.proofs.GapTextLaws.{parts_start, numbers_none, numbers_more, numbers_done, numbers_wrong}
use Rattle.text_gaps.proofs.gap_reader.parts_at.Goals as goal

pub loop-n-init : goal.loop-n-init
loop-n-init c = parts_start false c.args.s.now c.args.c.at c.requires c.no_gap-gap.result c.no_gap-gap.ensures

pub returns-in_err-n : goal.returns-in_err-n
returns-in_err-n c =
    let l = c.loop-n in
    rw c.from_residual.ensures (numbers_none false c.args.s.now c.args.c.at l.gap l.next.at l.invariant c.in_err-n.ensures)

pub returns-then-eq : goal.returns-then-eq
returns-then-eq c =
    let l = c.loop-n in
    let n = c.in_ok-n in
    let e : c.step-t.result.kind ≡ Right = search rules in
    numbers_done false c.args.s.now c.args.c.at l.gap l.next.at l.invariant n.n n.behind n.ensures c.step-t.result
    c.step-t.ensures c.stored_part-gap.result c.stored_part-gap.ensures (ap (turn_after false) e)

pub returns-then-ne : goal.returns-then-ne
returns-then-ne c =
    let l = c.loop-n in
    let n = c.in_ok-n in
    let e : c.step-t.result.kind ≡ Right → ⊥ = search rules in
    let f : c.step-t.result.kind ≡ Byte 0x2C → ⊥ = search rules in
    numbers_wrong false c.args.s.now c.args.c.at l.gap l.next.at l.invariant n.n n.behind n.ensures c.step-t.result
    c.step-t.ensures (turn_vector_other c.step-t.result.kind e f)

pub loop-n-preserved : goal.loop-n-preserved
loop-n-preserved c =
    let l = c.loop-n in
    let n = c.in_ok-n in
    let e : c.step-t.result.kind ≡ Byte 0x2C = search rules in
    numbers_more false c.args.s.now c.args.c.at l.gap l.next.at l.invariant n.n n.behind n.ensures c.step-t.result
    c.step-t.ensures c.stored_part-gap.result c.stored_part-gap.ensures (ap (turn_after false) e)
