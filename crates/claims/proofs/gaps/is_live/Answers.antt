-- `claims::gaps::is_live` meets its contract: a smaller vector shows that the cell is empty, or its
-- own first entries decide.
-- Assumes nothing.
use Prim.Native.Nat.{ℕ, ◌+◌}
use mathlib.Core.Path.{sym, ap, ◌∙◌}
use mathlib.Core.Bool.{not}
use mathlib.Core.List.{List}
use lib.ListN.{take}
use Rattle.cell.specs.Cell.{cell}
use Rattle.forms.specs.SchemeMemory.{gap_in}
use Rattle.verdict.specs.Verdict.{is_empty}
use Rattle.verdict.specs.VerdictLaws.{empty_in}
use Rattle.claims.proofs.GapClaimLaws.{gap_is, below_empty}
use Rattle.forms.specs.SetMemory.{held_in}
use Rattle.claims.proofs.gaps.is_live.Goals as goal

pub has_empty_below-requires : goal.has_empty_below-requires
has_empty_below-requires c =
    let a = c.args in
    let q = c.requires in
    let o = c.parts_of-parts in
    let same = gap_is a.b a.k o.result q.2 o.ensures.0 o.ensures.1 q.0 in
    (q.0, q.1, rw (← same) q.3)

pub returns-then-has_empty_below : goal.returns-then-has_empty_below
returns-then-has_empty_below c =
    let a = c.args in
    let q = c.requires in
    let o = c.parts_of-parts in
    let same = gap_is a.b a.k o.result q.2 o.ensures.0 o.ensures.1 q.0 in
    let P = held_in a.patterns.now in
    let p = take a.k a.prefix in
    sym (empty_in (cell P p (gap_in a.b)) (ap (cell P p) same ∙ below_empty P p (take (a.k + 1) o.result)
    a.k q.1 (sym c.has_empty_below.ensures ∙ c.if-has_empty_below.true)))

pub is_live_at-requires : goal.is_live_at-requires
is_live_at-requires c =
    let a = c.args in
    let q = c.requires in
    let o = c.parts_of-parts in
    let same = gap_is a.b a.k o.result q.2 o.ensures.0 o.ensures.1 q.0 in
    (q.0, q.1, rw (← same) q.3)

pub returns : goal.returns
returns c =
    let a = c.args in
    let q = c.requires in
    let o = c.parts_of-parts in
    let same = gap_is a.b a.k o.result q.2 o.ensures.0 o.ensures.1 q.0 in
    let P = held_in a.patterns.now in
    c.is_live_at.ensures ∙ ap (λ (v : List ℕ). not (is_empty (cell P (take a.k a.prefix) v))) (sym same)
