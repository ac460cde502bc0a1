-- `wellformed::entry_tests::stands_from` meets its contract: the vector stands from `start` on if
-- it stands from the index on.
-- Assumes nothing.
use mathlib.Core.Path.{◌≡◌, sym, ap, ◌∙◌}
use native.Mathlib.Omega.{arith}
use Rattle.forms.specs.SchemeMemory.{gap_in}
use Rattle.word.specs.Lists.{any}
use Rattle.cell.specs.Basis.{same}
use Rattle.scheme.specs.TestLaws.{from_at, any_here, any_later, any_end}
use Rattle.forms.specs.SchemeMemory.{gap_at}
use Rattle.forms.specs.declared.memory.Gap.{Gap}
use Rattle.wellformed.proofs.entry_tests.stands_from.Goals as goal
use Rattle.wellformed.proofs.entry_tests.stands_from.Goals.{After-same_gap}

-- whether the vector with the index is b
told : (c : After-same_gap) → c.same_gap.result ≡ same (gap_in c.args.b) (gap_at c.args.e c.loop-j.j)
told c = c.same_gap.ensures ∙ ap (λ (g : Gap). same (gap_in c.args.b) (gap_in g)) c.entry_gap-d.ensures

pub same_gap-requires : goal.same_gap-requires
same_gap-requires c =
    let l = c.loop-j in
    let width = ap (λ (g : Gap). g.width) c.entry_gap-d.ensures in
    (c.requires.2, omega (arith, width, c.requires.0.narrow l.j (omega arith)))

pub returns-then-same_gap : goal.returns-then-same_gap
returns-then-same_gap c =
    let e = c.args.e in
    let b = c.args.b in
    let l = c.loop-j in
    let here = any_here (same (gap_in b)) (gap_at e) e.gap_count l.j (omega arith)
    (sym (told (goal.at.returns-then-same_gap c).After-same_gap) ∙ c.if-same_gap.true) in
    sym (ap (any (same (gap_in b))) (from_at (gap_at e) e.gap_count c.args.start) ∙ l.invariant ∙ here)

pub loop-j-preserved : goal.loop-j-preserved
loop-j-preserved c =
    let e = c.args.e in
    let b = c.args.b in
    let l = c.loop-j in
    l.invariant ∙ any_later (same (gap_in b)) (gap_at e) e.gap_count l.j (omega arith)
    (sym (told (goal.at.loop-j-preserved c).After-same_gap) ∙ c.if-same_gap.false)

pub returns : goal.returns
returns c =
    let e = c.args.e in
    let b = c.args.b in
    let l = c.loop-j in
    sym (ap (any (same (gap_in b))) (from_at (gap_at e) e.gap_count c.args.start) ∙
    l.invariant ∙ any_end (same (gap_in b)) (gap_at e) e.gap_count l.j (omega arith))
