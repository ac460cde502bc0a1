-- `wellformed::entry_tests::has_twin_gaps` meets its contract: a vector stands twice if one from
-- the index on does.
-- Assumes nothing.
use Prim.Native.Nat.{◌+◌, ◌-◌}
use mathlib.Core.Path.{◌≡◌, sym, ap, ◌∙◌}
use mathlib.Core.List.{map}
use native.Mathlib.Omega.{arith}
use Rattle.scheme.specs.WellFormed.{listed}
use Rattle.word.specs.Lists.{any, row}
use Rattle.cell.specs.Basis.{same}
use Rattle.scheme.specs.TestLaws.{from, from_at, repeats_start, repeats_here, repeats_later, repeats_end}
use Rattle.forms.specs.SchemeMemory.{gap_in, gap_at}
use Rattle.forms.specs.declared.memory.Gap.{Gap}
use Rattle.wellformed.proofs.entry_tests.has_twin_gaps.Goals as goal
use Rattle.wellformed.proofs.entry_tests.has_twin_gaps.Goals.{After-stands_from}

-- whether the vector with the index stands again behind it
told : (c : After-stands_from) →
    c.stands_from.result ≡ any (same (gap_at c.args.e c.loop-j.j)) (from (gap_at c.args.e) c.args.e.gap_count (c.loop-j.j + 1))
told c =
    let e = c.args.e in
    let j = c.loop-j.j in
    c.stands_from.ensures ∙ ap (λ (g : Gap). listed (map (gap_at e) (row (j + 1) (e.gap_count - (j + 1)))) (gap_in g))
    c.entry_gap-b.ensures ∙
    ap (any (same (gap_at e j))) (from_at (gap_at e) e.gap_count (j + 1))

pub loop-j-init : goal.loop-j-init
loop-j-init c = repeats_start (gap_at c.args.e) c.args.e.gap_count

pub stands_from-requires : goal.stands_from-requires
stands_from-requires c =
    let l = c.loop-j in
    let width = ap (λ (g : Gap). g.width) c.entry_gap-b.ensures in
    (c.requires, omega arith, omega (arith, width, c.requires.narrow l.j (omega arith)))

pub returns-then-stands_from : goal.returns-then-stands_from
returns-then-stands_from c =
    let e = c.args.e in
    let l = c.loop-j in
    sym (l.invariant ∙ repeats_here (gap_at e) e.gap_count l.j (omega arith)
    (sym (told (goal.at.returns-then-stands_from c).After-stands_from) ∙ c.if-stands_from.true))

pub loop-j-preserved : goal.loop-j-preserved
loop-j-preserved c =
    let e = c.args.e in
    let l = c.loop-j in
    l.invariant ∙ repeats_later (gap_at e) e.gap_count l.j (omega arith)
    (sym (told (goal.at.loop-j-preserved c).After-stands_from) ∙ c.if-stands_from.false)

pub returns : goal.returns
returns c =
    let e = c.args.e in
    let l = c.loop-j in
    sym (l.invariant ∙ repeats_end (gap_at e) e.gap_count l.j (omega arith))
