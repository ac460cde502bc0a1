-- The proof of the cycle of calls {cell, next_sum}.
-- Assumes nothing.
use borrow.Author.Rules.{rules}
use native.Mathlib.Omega.{arith}
use Prim.Native.Nat.{ℕ, ◌+◌, ◌-◌, ◌<◌, ◌≤◌}
use mathlib.Core.Path.{◌≡◌, sym, ◌∙◌, subst}
use mathlib.Core.Bool.{true, false}
use lib.ListN.{length, take}
use Rattle.word.specs.Ceilings.{COMPONENTS}
use Rattle.cell.specs.Cell.{free}
use Rattle.count_step.specs.Step.{LARGEST, capped}
use Rattle.count_plan.specs.SheetSizes.{FIELDS}
use Rattle.count_plan.specs.SheetRows.{field_of, gaps_at}
use Rattle.count_plain.specs.Reading.{CellAt, Evaluates}
use Rattle.count_plain.proofs.CellLaws.{measure_of, index_small, few, length_small, total_is}
use Rattle.count_plain.proofs.CellLaws.{target_at, target_falls}
use Rattle.count_plain.proofs.CellLaws.{target_evaluates, covered_value, alone_value, sum_value}
use Rattle.count_plain.proofs.CellLaws.{length_less, child_at_lem, child_falls, child_evaluates}
use Rattle.count_plain.proofs.CellLaws.{sum_start, sum_more, sum_end}
use Rattle.count_plain.proofs.evaluation.+cell_next_sum.Goals as goal

-- a sum with the cap is a number of 64 bits
cap_high : (y x : ℕ) → y ≡ capped x → y ≤ LARGEST
cap_high y x e = omega arith

pub cell-field-k-requires : goal.cell-field-k-requires
cell-field-k-requires t c =
    let a = c.args in
    let q = c.requires in
    (index_small a.sheet.now a.e a.g a.t q, omega arith, q.of.long)

pub cell-is_free_at-requires : goal.cell-is_free_at-requires
cell-is_free_at-requires t c =
    let a = c.args in
    let q = c.requires in (
      index_small a.sheet.now a.e a.g a.t q,
      omega (arith, c.field-k.ensures, length_small a.sheet.now a.e a.g a.t q),
      q.of.long,
      few a.sheet.now a.e a.g a.t q,
    )

pub cell-returns-then-not-is_free_at : goal.cell-returns-then-not-is_free_at
cell-returns-then-not-is_free_at t c =
    let a = c.args in
    let k = c.field-k.result in
    let f : free (gaps_at a.sheet.now a.e k) (take (k + 1) a.g) ≡ false =
    sym c.is_free_at.ensures ∙ c.if-not-is_free_at.true in
    λ o v solved. covered_value a.sheet.now a.e a.g a.t o k c.field-k.ensures v solved f

pub cell-field-n-requires : goal.cell-field-n-requires
cell-field-n-requires t c =
    let a = c.args in
    let q = c.requires in
    (index_small a.sheet.now a.e a.g a.t q, omega arith, q.of.long)

pub cell-field-target-requires : goal.cell-field-target-requires
cell-field-target-requires t c =
    let a = c.args in
    let q = c.requires in
    (index_small a.sheet.now a.e a.g a.t q, omega arith, q.of.long)

pub cell-gone_of-gone-requires : goal.cell-gone_of-gone-requires
cell-gone_of-gone-requires t c =
    let a = c.args in
    let q = c.requires in
    (index_small a.sheet.now a.e a.g a.t q, q.of.long)

pub cell-merged_spacing-h-requires : goal.cell-merged_spacing-h-requires
cell-merged_spacing-h-requires t c =
    let a = c.args in
    let q = c.requires in (
      omega (arith, c.field-k.ensures, length_small a.sheet.now a.e a.g a.t q),
      omega (arith, total_is a.sheet.now a.e a.g a.t q c.field-k.result c.field-k.ensures, q.fits),
    )

pub cell-cell-requires : goal.cell-cell-requires
cell-cell-requires t c =
    let a = c.args in
    let q = c.requires in
    let h = c.merged_spacing-h in
    let seven : length h.result ≡ COMPONENTS = search rules in
    let fall = target_falls a.sheet.now a.e a.g a.t q c.field-k.result c.field-k.ensures c.field-n.result
    c.field-n.ensures c.if-n-ne0.true c.gone_of-gone.result c.gone_of-gone.ensures h.result seven h.ensures in
    let at = target_at a.sheet.now a.e a.g a.t q c.field-k.result c.field-k.ensures c.field-n.result
    c.field-n.ensures c.if-n-ne0.true c.gone_of-gone.result c.gone_of-gone.ensures h.result seven h.ensures in
    subst (λ (d : ℕ). (measure_of a.sheet.now d a.t < t) × CellAt a.sheet.now d h.result a.t) (sym c.field-target.ensures)
    (subst (λ (m : ℕ). measure_of a.sheet.now (field_of a.sheet.now a.e FIELDS) a.t < m) c.decreases fall, at)

pub cell-returns-then-n-ne0 : goal.cell-returns-then-n-ne0
cell-returns-then-n-ne0 t c =
    let a = c.args in
    let k = c.field-k.result in
    let h = c.merged_spacing-h in
    let seven : length h.result ≡ COMPONENTS = search rules in
    let f : free (gaps_at a.sheet.now a.e k) (take (k + 1) a.g) ≡ true =
    sym c.is_free_at.ensures ∙ c.if-not-is_free_at.false in
    let ev : Evaluates a.sheet.now (field_of a.sheet.now a.e FIELDS) h.result a.t c.cell.result =
    subst (λ (d : ℕ). Evaluates a.sheet.now d h.result a.t c.cell.result) c.field-target.ensures c.cell.ensures in
    λ o v solved. target_evaluates a.sheet.now a.e a.g a.t o k c.field-k.ensures c.field-n.result c.field-n.ensures
    c.if-n-ne0.true c.gone_of-gone.result c.gone_of-gone.ensures h.result seven h.ensures v solved f c.cell.result ev

pub cell-field-requires : goal.cell-field-requires
cell-field-requires t c =
    let a = c.args in
    let q = c.requires in
    (index_small a.sheet.now a.e a.g a.t q, omega arith, q.of.long)

pub cell-returns-then-t-eq0 : goal.cell-returns-then-t-eq0
cell-returns-then-t-eq0 t c =
    let a = c.args in
    let k = c.field-k.result in
    let f : free (gaps_at a.sheet.now a.e k) (take (k + 1) a.g) ≡ true =
    sym c.is_free_at.ensures ∙ c.if-not-is_free_at.false in
    λ o v solved. alone_value a.sheet.now a.e a.g a.t o k c.field-k.ensures v solved
    (sym c.field-n.ensures ∙ c.if-n-ne0.false) f c.field.result c.field.ensures c.if-t-eq0.true

pub cell-returns : goal.cell-returns
cell-returns t c =
    let a = c.args in
    let k = c.field-k.result in
    let f : free (gaps_at a.sheet.now a.e k) (take (k + 1) a.g) ≡ true =
    sym c.is_free_at.ensures ∙ c.if-not-is_free_at.false in
    let z : field_of a.sheet.now a.e 1 ≡ 0 = sym c.field-n.ensures ∙ c.if-n-ne0.false in
    λ o v solved. sum_value a.sheet.now a.e a.g a.t o k c.field-k.ensures v solved z f c.next_sum.result
    c.if-t-eq0.false (c.next_sum.ensures o v solved z)

pub next_sum-loop-q-init : goal.next_sum-loop-q-init
next_sum-loop-q-init t c =
    let a = c.args in
    let p = c.requires in
    (omega arith, sum_start a.sheet.now a.e a.g a.t)

pub next_sum-held-at-requires : goal.next_sum-held-at-requires
next_sum-held-at-requires t c =
    let a = c.args in
    let q = c.requires.0 in
    let p = c.requires in
    let l = c.loop-q in (
      omega (arith, p.1, length_small a.sheet.now a.e a.g a.t q),
      (omega arith),
      omega (arith, total_is a.sheet.now a.e a.g a.t q a.k p.1),
    )

pub next_sum-split_spacing-h-requires : goal.next_sum-split_spacing-h-requires
next_sum-split_spacing-h-requires t c =
    let a = c.args in
    let q = c.requires.0 in
    let p = c.requires in
    let l = c.loop-q in
    let at = c.held-at in (
      length_less a.sheet.now a.e a.g a.t q a.k p.1 p.2 l.q at.result.index at.result.left (omega arith) (omega arith)
          at.ensures,
      at.ensures.reach,
      at.ensures.low,
      at.ensures.high,
      omega (arith, total_is a.sheet.now a.e a.g a.t q a.k p.1, q.fits),
    )

pub next_sum-overflow_add-at : goal.next_sum-overflow_add-at
next_sum-overflow_add-at t c =
    let a = c.args in
    let p = c.requires in
    omega (arith, c.held-at.ensures.reach, p.1, length_small a.sheet.now a.e a.g a.t p.0)

pub next_sum-field-child-requires : goal.next_sum-field-child-requires
next_sum-field-child-requires t c =
    let a = c.args in
    let q = c.requires.0 in
    let p = c.requires in (
      index_small a.sheet.now a.e a.g a.t q,
      omega (arith, c.held-at.ensures.reach, p.1, length_small a.sheet.now a.e a.g a.t q),
      q.of.long,
    )

pub next_sum-cell-x-requires : goal.next_sum-cell-x-requires
next_sum-cell-x-requires t c =
    let a = c.args in
    let q = c.requires.0 in
    let p = c.requires in
    let l = c.loop-q in
    let at = c.held-at in
    let h = c.split_spacing-h in
    let seven : length h.result ≡ COMPONENTS = search rules in
    let fall = child_falls a.sheet.now a.e a.g a.t q a.k p.1 p.2 l.q at.result.index at.result.left (omega arith)
    (omega arith) at.ensures h.result seven h.ensures in
    let given = child_at_lem a.sheet.now a.e a.g a.t q a.k p.1 p.2 l.q at.result.index at.result.left (omega arith)
    (omega arith) at.ensures h.result seven h.ensures in
    subst (λ (d : ℕ). (measure_of a.sheet.now d (a.t - 1) < t) × CellAt a.sheet.now d h.result (a.t - 1))
    (sym c.field-child.ensures) (
      subst (λ (m : ℕ). measure_of a.sheet.now (field_of a.sheet.now a.e (FIELDS + at.result.index)) (a.t - 1) < m)
          c.decreases fall,
      given,
    )

pub next_sum-loop-q-preserved : goal.next_sum-loop-q-preserved
next_sum-loop-q-preserved t c =
    let a = c.args in
    let p = c.requires in
    let l = c.loop-q in
    let at = c.held-at in
    let h = c.split_spacing-h in
    let x = c.cell-x in
    let sum = c.capped_sum-sum in
    let seven : length h.result ≡ COMPONENTS = search rules in
    let ev : Evaluates a.sheet.now (field_of a.sheet.now a.e (FIELDS + at.result.index)) h.result (a.t - 1) x.result =
    subst (λ (d : ℕ). Evaluates a.sheet.now d h.result (a.t - 1) x.result) c.field-child.ensures x.ensures in
    let low : l.q ≤ a.t = omega arith in (
      cap_high sum.result (l.sum + x.result) sum.ensures,
      sum_more a.sheet.now a.e a.g a.t l.q l.sum sum.result x.result low l.invariant.1 sum.ensures
          (λ o v solved z. child_evaluates a.sheet.now a.e a.g a.t o a.k p.1 z l.q at.result.index at.result.left
          (omega arith) low at.ensures h.result seven h.ensures v solved x.result ev),
    )

pub next_sum-returns : goal.next_sum-returns
next_sum-returns t c =
    let a = c.args in
    let l = c.loop-q in
    sum_end a.sheet.now a.e a.g a.t l.q l.sum (omega arith) l.invariant.0 l.invariant.1
