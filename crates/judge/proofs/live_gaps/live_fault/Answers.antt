-- `judge::live_gaps::live_fault` meets its contract: the first entry at fault is the first one from
-- the index on.
-- Assumes nothing.
use mathlib.Core.Path.{sym, ap, ◌∙◌}
use native.Mathlib.Omega.{arith}
use Rattle.std.specs.Prelude.{Err}
use Rattle.word.specs.declared.refusal.Refusal.TheVariants.{LiveGap}
use Rattle.forms.specs.SchemeMemory.{fault_of, entry_at}
use Rattle.forms.specs.SetMemory.{held_in}
use Rattle.scheme.specs.TestLaws.{first_start, first_here, first_later, first_end}
use Rattle.scheme.specs.ProperLaws.{proper_count, proper_at}
use Rattle.judge.proofs.EntryWalkLaws.{live_entry}
use Rattle.judge.proofs.live_gaps.live_fault.Goals as goal

pub loop-i-init : goal.loop-i-init
loop-i-init c =
    let a = c.args in
    (proper_count a.s c.requires, first_start LiveGap (live_entry (held_in a.patterns.now)) (entry_at a.s) a.s.count)

pub has_live_gap-requires : goal.has_live_gap-requires
has_live_gap-requires c = proper_at c.args.s c.requires c.loop-i.i (omega arith)

pub returns-then-has_live_gap : goal.returns-then-has_live_gap
returns-then-has_live_gap c =
    let a = c.args in
    let l = c.loop-i in
    ap Err c.at.ensures ∙
    sym (ap fault_of (l.invariant.1 ∙ first_here LiveGap (live_entry (held_in a.patterns.now)) (entry_at a.s) a.s.count l.i
    (omega arith) (sym c.has_live_gap.ensures ∙ c.if-has_live_gap.true)))

pub loop-i-preserved : goal.loop-i-preserved
loop-i-preserved c =
    let a = c.args in
    let l = c.loop-i in (
      l.invariant.0,
      l.invariant.1 ∙ first_later LiveGap (live_entry (held_in a.patterns.now)) (entry_at a.s) a.s.count l.i
          (omega arith) (sym c.has_live_gap.ensures ∙ c.if-has_live_gap.false),
    )

pub returns : goal.returns
returns c =
    let a = c.args in
    let l = c.loop-i in
    sym (ap fault_of (l.invariant.1 ∙ first_end LiveGap (live_entry (held_in a.patterns.now)) (entry_at a.s) a.s.count l.i (omega arith)))
