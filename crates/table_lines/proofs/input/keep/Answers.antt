-- `table_lines::input::keep` meets its contract: what is kept in all is what is kept from the index
-- on.
-- Assumes nothing.
use native.Mathlib.Omega.{arith}
use mathlib.Core.Path.{refl}
use lib.ListN.{get_or, length-set}
use Rattle.table_lines.specs.KeptLaws.{turn, turn_fourth, turn_end}
use Rattle.table_lines.specs.KeptLaws.{turn_set, turn_scheme, turn_last, drop_set, drop_scheme, drop_last}
use Rattle.table_lines.proofs.input.keep.Goals as goal
use Rattle.table_lines.proofs.input.keep.Goals.{then-ends-ge-LINES, else-ends-ge-LINES+then-b-eq10}
use Rattle.table_lines.proofs.input.keep.Goals.{else-ends-ge-LINES+else-b-eq10+then-ends-eq0+then-set_at-set_room}
use Rattle.table_lines.proofs.input.keep.Goals.{else-ends-ge-LINES+else-b-eq10+then-ends-eq0+else-set_at-set_room}
use Rattle.table_lines.proofs.input.keep.Goals.{else-ends-ge-LINES+else-b-eq10+else-ends-eq0+then-ends-eq1+then-scheme_at-scheme_room}
use Rattle.table_lines.proofs.input.keep.Goals.{else-ends-ge-LINES+else-b-eq10+else-ends-eq0+then-ends-eq1+else-scheme_at-scheme_room}
use Rattle.table_lines.proofs.input.keep.Goals.{else-ends-ge-LINES+else-b-eq10+else-ends-eq0+else-ends-eq1+then-last_at-lt-LAST}
use Rattle.table_lines.proofs.input.keep.Goals.{else-ends-ge-LINES+else-b-eq10+else-ends-eq0+else-ends-eq1+else-last_at-lt-LAST}

pub loop-i-init : goal.loop-i-init
loop-i-init c =
    record {
      within = omega arith;
      set_size = refl;
      scheme_size = refl;
      set_known = c.min-set_room.ensures;
      scheme_known = c.min-scheme_room.ensures;
      rest = refl;
    }

-- the bytes of each way through the turn
pub loop-i-preserved : goal.loop-i-preserved
loop-i-preserved c =
    let l = c.loop-i in
    let b = get_or c.args.chunk.now l.i 0 in
    elim c.if-ends-ge-LINES.branch [
      | then-ends-ge-LINES w ↦ rw (w.kept-is, w.set-is, w.scheme-is)
          (turn l.invariant _ c.loop-i-test.true refl refl
          (turn_fourth l.kept l.set l.scheme b (let p = w.if-ends-ge-LINES.true in omega arith)))
      | else-ends-ge-LINES+then-b-eq10 w ↦ rw (w.kept-is, w.set-is, w.scheme-is)
          (turn l.invariant _ c.loop-i-test.true refl refl
          (turn_end l.kept l.set l.scheme b (let p = w.if-ends-ge-LINES.false in omega arith) w.if-b-eq10.true))
      | else-ends-ge-LINES+else-b-eq10+then-ends-eq0+then-set_at-set_room w ↦ rw (w.kept-is, w.set-is, w.scheme-is)
          (turn l.invariant _ c.loop-i-test.true (length-set l.set _ _) refl
          (turn_set l.kept l.set l.scheme b w.if-ends-eq0.true w.if-b-eq10.false
          (omega (arith, l.invariant.set_known, w.if-set_at-set_room.true))))
      | else-ends-ge-LINES+else-b-eq10+then-ends-eq0+else-set_at-set_room w ↦ rw (w.kept-is, w.set-is, w.scheme-is)
          (turn l.invariant _ c.loop-i-test.true refl refl
          (drop_set l.kept l.set l.scheme b w.if-ends-eq0.true w.if-b-eq10.false
          (omega (arith, l.invariant.set_known, w.if-set_at-set_room.false))))
      | else-ends-ge-LINES+else-b-eq10+else-ends-eq0+then-ends-eq1+then-scheme_at-scheme_room w ↦ rw (w.kept-is, w.set-is, w.scheme-is)
          (turn l.invariant _ c.loop-i-test.true refl (length-set l.scheme _ _)
          (turn_scheme l.kept l.set l.scheme b w.if-ends-eq1.true w.if-b-eq10.false
          (omega (arith, l.invariant.scheme_known, w.if-scheme_at-scheme_room.true))))
      | else-ends-ge-LINES+else-b-eq10+else-ends-eq0+then-ends-eq1+else-scheme_at-scheme_room w ↦ rw (w.kept-is, w.set-is, w.scheme-is)
          (turn l.invariant _ c.loop-i-test.true refl refl
          (drop_scheme l.kept l.set l.scheme b w.if-ends-eq1.true w.if-b-eq10.false
          (omega (arith, l.invariant.scheme_known, w.if-scheme_at-scheme_room.false))))
      | else-ends-ge-LINES+else-b-eq10+else-ends-eq0+else-ends-eq1+then-last_at-lt-LAST w ↦ rw (w.kept-is, w.set-is, w.scheme-is)
          (turn l.invariant _ c.loop-i-test.true refl refl
          (turn_last l.kept l.set l.scheme b (let p = w.if-ends-eq1.false in let q = w.if-ends-eq0.false in let r =
          w.if-ends-ge-LINES.false in omega arith) w.if-b-eq10.false w.if-last_at-lt-LAST.true))
      | else-ends-ge-LINES+else-b-eq10+else-ends-eq0+else-ends-eq1+else-last_at-lt-LAST w ↦ rw (w.kept-is, w.set-is, w.scheme-is)
          (turn l.invariant _ c.loop-i-test.true refl refl
          (drop_last l.kept l.set l.scheme b (let p = w.if-ends-eq1.false in let q = w.if-ends-eq0.false in let r =
          w.if-ends-ge-LINES.false in omega arith) w.if-b-eq10.false w.if-last_at-lt-LAST.false))
    ]
