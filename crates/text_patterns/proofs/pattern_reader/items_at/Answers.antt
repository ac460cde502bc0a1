-- `text_patterns::pattern_reader::items_at` meets its contract: what is read in all is what is read
-- from the place on.
-- Assumes nothing.
use Rattle.std.proofs.Common.{◌≡◌, ◌+◌, rules}
use Rattle.text_grammar.specs.declared.cursor.Kind.TheVariants.{Byte}
use Rattle.text_patterns.specs.PatternReading.{stored_in}
use Rattle.text_patterns.proofs.PatternTextLaws.{made, start_read, no_pattern_at, pattern_kept, pattern_counted}
use Rattle.text_patterns.proofs.PatternTextLaws.{patterns_more, patterns_done, patterns_wrong}
use Rattle.text_patterns.proofs.pattern_reader.items_at.Goals as goal
use Rattle.text_patterns.proofs.pattern_reader.items_at.Goals.{After-step-t, then-count-lt-PATTERNS, else-count-lt-PATTERNS}

pub loop-pattern-init : goal.loop-pattern-init
loop-pattern-init c = start_read c.args.s.now c.args.c.at c.requires c.no_patterns-none.result c.no_patterns-none.ensures

pub returns-in_err-pattern : goal.returns-in_err-pattern
returns-in_err-pattern c =
    let l = c.loop-pattern in
    rw c.from_residual.ensures
    (no_pattern_at c.args.s.now c.args.c.at (made l.items l.count) l.next.at l.invariant c.in_err-pattern.ensures)

-- what is kept with the pattern that was read
kept : (c : After-step-t) → made c.if-count-lt-PATTERNS.items (c.loop-pattern.count + 1) ≡
    stored_in (made c.loop-pattern.items c.loop-pattern.count) c.in_ok-pattern.pattern
kept c =
    let l = c.loop-pattern in
    let p = c.in_ok-pattern in
    elim c.if-count-lt-PATTERNS.branch [
      | then-count-lt-PATTERNS w ↦ pattern_kept c.args.s.now c.args.c.at (made l.items l.count) l.next.at l.invariant p.pattern p.behind
          p.ensures c.step-t.result c.step-t.ensures _ w.items-is
      | else-count-lt-PATTERNS w ↦ pattern_counted c.args.s.now c.args.c.at (made l.items l.count) l.next.at l.invariant p.pattern p.behind
          p.ensures c.step-t.result c.step-t.ensures _ w.items-is w.if-count-lt-PATTERNS.false
    ]

pub returns-then-eq : goal.returns-then-eq
returns-then-eq c =
    let l = c.loop-pattern in
    let p = c.in_ok-pattern in
    let e : c.step-t.result.kind ≡ Byte 0x7D = search rules in
    patterns_done c.args.s.now c.args.c.at (made l.items l.count) l.next.at l.invariant p.pattern p.behind
    p.ensures c.step-t.result c.step-t.ensures _ (kept (goal.at.returns-then-eq c).After-step-t) e

pub returns-then-ne : goal.returns-then-ne
returns-then-ne c =
    let l = c.loop-pattern in
    let p = c.in_ok-pattern in
    let e : c.step-t.result.kind ≡ Byte 0x7D → ⊥ = search rules in
    let f : c.step-t.result.kind ≡ Byte 0x2C → ⊥ = search rules in
    patterns_wrong c.args.s.now c.args.c.at (made l.items l.count) l.next.at l.invariant p.pattern p.behind
    p.ensures c.step-t.result c.step-t.ensures e f

pub loop-pattern-preserved : goal.loop-pattern-preserved
loop-pattern-preserved c =
    let l = c.loop-pattern in
    let p = c.in_ok-pattern in
    let f : c.step-t.result.kind ≡ Byte 0x2C = search rules in
    patterns_more c.args.s.now c.args.c.at (made l.items l.count) l.next.at l.invariant p.pattern p.behind
    p.ensures c.step-t.result c.step-t.ensures _ (kept (goal.at.loop-pattern-preserved c).After-step-t) f
