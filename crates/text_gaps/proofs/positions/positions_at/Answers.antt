-- `text_gaps::positions::positions_at` meets its contract: what is read in all is what is read from
-- the place on.
-- Assumes nothing.
use Rattle.std.proofs.Common.{◌≡◌, ◌+◌, refl, ap, true, arith, rules}
use Rattle.text_grammar.specs.declared.cursor.Kind.TheVariants.{Byte}
use Rattle.text_grammar.proofs.TextItemLaws.{turn_other}
use Rattle.text_gaps.specs.GapReading.{turn_after, stored_part}
use Rattle.text_gaps.proofs.GapTextLaws.{gap_made, part_kept, part_counted}
use Rattle.text_gaps.proofs.GapTextLaws.{parts_start, numbers_none, numbers_more, numbers_done, numbers_wrong}
use Rattle.text_gaps.proofs.positions.positions_at.Goals as goal
use Rattle.text_gaps.proofs.positions.positions_at.Goals.{After-step-t, then-width-lt-COMPONENTS, else-width-lt-COMPONENTS}

pub loop-n-init : goal.loop-n-init
loop-n-init c = parts_start true c.args.s.now c.args.c.at c.requires _ refl

pub returns-in_default : goal.returns-in_default
returns-in_default c =
    let l = c.loop-n in
    numbers_none true c.args.s.now c.args.c.at (gap_made l.parts l.width) l.next.at l.invariant c.in_default.ensures

-- what is kept with the number that was read
kept : (c : After-step-t) → gap_made c.if-width-lt-COMPONENTS.parts (c.loop-n.width + 1) ≡
    stored_part (gap_made c.loop-n.parts c.loop-n.width) c.in-Some.n
kept c =
    let l = c.loop-n in
    elim c.if-width-lt-COMPONENTS.branch [
      | then-width-lt-COMPONENTS w ↦ rw w.parts-is (part_kept (gap_made l.parts l.width) c.in-Some.n w.part.result w.part.ensures)
      | else-width-lt-COMPONENTS w ↦ rw w.parts-is (part_counted (gap_made l.parts l.width) c.in-Some.n
          (let e = l.invariant.sized in let f = w.if-width-lt-COMPONENTS.false in omega arith))
    ]

pub returns-then-eq : goal.returns-then-eq
returns-then-eq c =
    let l = c.loop-n in
    let n = c.in-Some in
    let e : c.step-t.result.kind ≡ Byte 0x7D = search rules in
    numbers_done true c.args.s.now c.args.c.at (gap_made l.parts l.width) l.next.at l.invariant n.n n.behind n.ensures
    c.step-t.result c.step-t.ensures _ (kept (goal.at.returns-then-eq c).After-step-t) (ap (turn_after true) e)

pub returns-then-ne : goal.returns-then-ne
returns-then-ne c =
    let l = c.loop-n in
    let n = c.in-Some in
    let e : c.step-t.result.kind ≡ Byte 0x7D → ⊥ = search rules in
    let f : c.step-t.result.kind ≡ Byte 0x2C → ⊥ = search rules in
    numbers_wrong true c.args.s.now c.args.c.at (gap_made l.parts l.width) l.next.at l.invariant n.n n.behind n.ensures
    c.step-t.result c.step-t.ensures (turn_other c.step-t.result.kind e f)

pub loop-n-preserved : goal.loop-n-preserved
loop-n-preserved c =
    let l = c.loop-n in
    let n = c.in-Some in
    let e : c.step-t.result.kind ≡ Byte 0x2C = search rules in
    numbers_more true c.args.s.now c.args.c.at (gap_made l.parts l.width) l.next.at l.invariant n.n n.behind n.ensures
    c.step-t.result c.step-t.ensures _ (kept (goal.at.loop-n-preserved c).After-step-t) (ap (turn_after true) e)
