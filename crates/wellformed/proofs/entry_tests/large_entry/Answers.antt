-- `wellformed::entry_tests::large_entry` meets its contract: the entry passes a ceiling if a vector
-- from the index on does.
-- Assumes nothing.
use mathlib.Core.Path.{◌≡◌, sym, ap, ◌∙◌}
use native.Mathlib.Omega.{arith}
use Rattle.scheme.specs.WellFormed.{large_gap}
use Rattle.scheme.specs.TestLaws.{any_here, any_later, any_end}
use Rattle.forms.specs.SchemeMemory.{gap_in, gap_at}
use Rattle.forms.specs.declared.memory.Gap.{Gap}
use Rattle.wellformed.proofs.EntryTestLaws.{entry_long, entry_many, entry_by_gaps}
use Rattle.wellformed.proofs.entry_tests.large_entry.Goals as goal
use Rattle.wellformed.proofs.entry_tests.large_entry.Goals.{After-large_gap}

pub returns-then-k-gt-PREFIX : goal.returns-then-k-gt-PREFIX
returns-then-k-gt-PREFIX c = sym (entry_long c.args.e c.if-k-gt-PREFIX.true)

pub returns-then-n-gt-GAPS : goal.returns-then-n-gt-GAPS
returns-then-n-gt-GAPS c = sym (entry_many c.args.e c.if-k-gt-PREFIX.false c.if-n-gt-GAPS.true)

-- whether the vector with the index passes a ceiling
told : (c : After-large_gap) → c.large_gap.result ≡ large_gap (gap_at c.args.e c.loop-j.j)
told c = c.large_gap.ensures ∙ ap (λ (g : Gap). large_gap (gap_in g)) c.entry_gap-b.ensures

pub loop-j-init : goal.loop-j-init
loop-j-init c = (c.if-n-gt-GAPS.false, entry_by_gaps c.args.e c.if-k-gt-PREFIX.false c.if-n-gt-GAPS.false)

pub returns-then-large_gap : goal.returns-then-large_gap
returns-then-large_gap c =
    let e = c.args.e in
    let l = c.loop-j in
    sym (l.invariant.1 ∙ any_here large_gap (gap_at e) e.gap_count l.j (omega arith)
    (sym (told (goal.at.returns-then-large_gap c).After-large_gap) ∙ c.if-large_gap.true))

pub loop-j-preserved : goal.loop-j-preserved
loop-j-preserved c =
    let e = c.args.e in
    let l = c.loop-j in (
      l.invariant.0,
      l.invariant.1 ∙ any_later large_gap (gap_at e) e.gap_count l.j (omega arith)
          (sym (told (goal.at.loop-j-preserved c).After-large_gap) ∙ c.if-large_gap.false),
    )

pub returns : goal.returns
returns c =
    let e = c.args.e in
    let l = c.loop-j in
    sym (l.invariant.1 ∙ any_end large_gap (gap_at e) e.gap_count l.j (omega arith))
