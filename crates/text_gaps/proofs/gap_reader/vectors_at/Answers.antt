-- `text_gaps::gap_reader::vectors_at` meets its contract: what is read in all is what is read from
-- the place on.
-- Assumes nothing.
use Rattle.std.proofs.Common.{◌≡◌, rules}
use Rattle.text_grammar.specs.declared.cursor.Kind.TheVariants.{Byte}
use Rattle.text_gaps.proofs.GapTextLaws.{vectors_start, vectors_none, vectors_more, vectors_done, vectors_wrong}
use Rattle.text_gaps.proofs.gap_reader.vectors_at.Goals as goal

pub loop-g-init : goal.loop-g-init
loop-g-init c = vectors_start c.args.s.now c.args.c.at c.requires c.no_gaps-gaps.result c.no_gaps-gaps.ensures

pub returns-in_err-g : goal.returns-in_err-g
returns-in_err-g c =
    let l = c.loop-g in
    rw c.from_residual.ensures (vectors_none c.args.s.now c.args.c.at l.gaps l.next.at l.invariant c.in_err-g.ensures)

pub returns-then-eq : goal.returns-then-eq
returns-then-eq c =
    let l = c.loop-g in
    let g = c.in_ok-g in
    let e : c.step-t.result.kind ≡ Byte 0x7D = search rules in
    vectors_done c.args.s.now c.args.c.at l.gaps l.next.at l.invariant g.g g.behind g.ensures c.step-t.result
    c.step-t.ensures c.stored_gap-gaps.result c.stored_gap-gaps.ensures e

pub returns-then-ne : goal.returns-then-ne
returns-then-ne c =
    let l = c.loop-g in
    let g = c.in_ok-g in
    let e : c.step-t.result.kind ≡ Byte 0x7D → ⊥ = search rules in
    let f : c.step-t.result.kind ≡ Byte 0x2C → ⊥ = search rules in
    vectors_wrong c.args.s.now c.args.c.at l.gaps l.next.at l.invariant g.g g.behind g.ensures c.step-t.result
    c.step-t.ensures e f

pub loop-g-preserved : goal.loop-g-preserved
loop-g-preserved c =
    let l = c.loop-g in
    let g = c.in_ok-g in
    let e : c.step-t.result.kind ≡ Byte 0x2C = search rules in
    vectors_more c.args.s.now c.args.c.at l.gaps l.next.at l.invariant g.g g.behind g.ensures c.step-t.result
    c.step-t.ensures c.stored_gap-gaps.result c.stored_gap-gaps.ensures e
