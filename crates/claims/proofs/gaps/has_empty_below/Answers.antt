-- `claims::gaps::has_empty_below` meets its contract: by rising total.
-- Assumes nothing.
use Prim.Native.Nat.{suc, ◌+◌}
use mathlib.Core.Path.{sym, ap, ◌∙◌}
use native.Mathlib.Omega.{arith}
use lib.ListN.{take}
use borrow.Author.Tests.{leb-true, leb-false}
use Rattle.word.specs.Lists.{each, row}
use Rattle.word.specs.CopyLaws.{found, first_found}
use Rattle.cell.specs.Cell.{total, vectors}
use Rattle.candidate.proofs.CandidateWalk.{totals_start, totals_end, seen_here, seen_later}
use Rattle.claims.proofs.GapClaimLaws.{shows}
use Rattle.forms.specs.SetMemory.{held_in}
use Rattle.claims.proofs.gaps.has_empty_below.Goals as goal

pub loop-t-init : goal.loop-t-init
loop-t-init c =
    let a = c.args in
    let f = shows (held_in a.patterns.now) a.prefix a.k a.parts in
    let m = total (take (a.k + 1) a.parts) in
    sym (first_found f (each (vectors (suc a.k)) (row 0 m))) ∙ ap found (totals_start f a.k m)

pub is_at_most-requires : goal.is_at_most-requires
is_at_most-requires c = c.requires.0

pub returns-then-is_at_most : goal.returns-then-is_at_most
returns-then-is_at_most c =
    let a = c.args in
    let l = c.loop-t in
    let m = total (take (a.k + 1) a.parts) in
    sym (l.invariant ∙
    ap found (totals_end (shows (held_in a.patterns.now) a.prefix a.k a.parts) a.k m l.t
    (leb-true m l.t (sym c.is_at_most.ensures ∙ c.if-is_at_most.true))))

pub has_empty-requires : goal.has_empty-requires
has_empty-requires c = (c.requires.0, c.requires.1, omega (arith, c.loop-t-test.true))

pub returns-then-has_empty : goal.returns-then-has_empty
returns-then-has_empty c =
    let a = c.args in
    let l = c.loop-t in
    let m = total (take (a.k + 1) a.parts) in
    sym (l.invariant ∙
    seen_here (shows (held_in a.patterns.now) a.prefix a.k a.parts) a.k m l.t
    (leb-false m l.t (sym c.is_at_most.ensures ∙ c.if-is_at_most.false))
    (sym c.has_empty.ensures ∙ c.if-has_empty.true))

pub loop-t-preserved : goal.loop-t-preserved
loop-t-preserved c =
    let a = c.args in
    let l = c.loop-t in
    let m = total (take (a.k + 1) a.parts) in
    l.invariant ∙
    seen_later (shows (held_in a.patterns.now) a.prefix a.k a.parts) a.k m l.t
    (leb-false m l.t (sym c.is_at_most.ensures ∙ c.if-is_at_most.false))
    (sym c.has_empty.ensures ∙ c.if-has_empty.false)

pub returns : goal.returns
returns c =
    let a = c.args in
    let l = c.loop-t in
    let m = total (take (a.k + 1) a.parts) in
    sym (l.invariant ∙
    ap found (totals_end (shows (held_in a.patterns.now) a.prefix a.k a.parts) a.k m l.t
    (omega (arith, c.requires.2))))
