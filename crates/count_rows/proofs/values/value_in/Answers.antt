-- `count_rows::values::value_in` meets its contract.
-- Assumes nothing.
use native.Mathlib.Omega.{arith}
use Prim.Native.Nat.{◌+◌, ◌-◌, ◌*◌, ◌%◌}
use mathlib.Core.Path.{◌≡◌, ap, ap₂, ◌∙◌}
use lib.ListN.{take}
use Rattle.cell.specs.Cell.{total}
use Rattle.spacing.specs.Rank.{rank_after, rank_of}
use Rattle.count_step.specs.Step.{held}
use Rattle.count_plan.specs.LayoutLaws.{count_few, entry_short}
use Rattle.count_entry.proofs.FrameLaws.{framed_fits, block_is}
use Rattle.count_rows.proofs.values.value_in.Goals as goal

pub field-k-requires : goal.field-k-requires
field-k-requires c =
    let q = c.requires.0 in
    let o = q.framed.of in
    (omega (arith, q.cell.inside, count_few o.s o.proper), omega arith, o.long)

pub rank_after-rank-requires : goal.rank_after-rank-requires
rank_after-rank-requires c =
    let a = c.args in
    let q = c.requires.0 in
    let o = q.framed.of in
    let k = c.field-k.ensures ∙ (o.rows a.c.entry q.cell.inside).size in (
      omega (arith, k, entry_short o.s o.proper a.c.entry q.cell.inside),
      omega arith,
      omega (arith, ap (λ m. m + total (take (m + 1) a.c.spacing)) k, q.cell.whole, q.cell.low, q.framed.small),
      c.requires.1,
    )

pub block_of-requires : goal.block_of-requires
block_of-requires c =
    let a = c.args in
    (framed_fits a.sheet.now a.places.now a.f c.requires.0.framed, omega arith)

pub overflow_add-at : goal.overflow_add-at
overflow_add-at c =
    omega (arith, c.block_of.ensures.1, c.place_at.ensures, c.requires.0.framed.placed.near c.args.c.entry)

pub overflow_add-at-2 : goal.overflow_add-at-2
overflow_add-at-2 c =
    omega (
      arith,
      c.block_of.ensures.1,
      c.place_at.ensures,
      c.requires.0.framed.placed.near c.args.c.entry,
      c.rank_after-rank.ensures.1,
    )

pub returns : goal.returns
unfolding rank_of
returns c =
    let a = c.args in
    λ q.
    let o = q.framed.of in
    let k = c.field-k.ensures ∙ (o.rows a.c.entry q.cell.inside).size in
    let z : a.c.row - 0 ≡ a.c.row = omega arith in
    c.read.ensures ∙
    ap (held a.table.now)
    (ap₂ ◌+◌
    (ap₂ ◌+◌
    (c.block_of.ensures.0 ∙ ap (λ x. x % a.f.rows * a.f.width) z ∙
    block_is a.sheet.now a.places.now a.f q.framed a.c.row)
    (c.place_at.ensures ∙ q.framed.placed.at a.c.entry (omega (arith, q.cell.inside))))
    (c.rank_after-rank.ensures.0 ∙ ap (λ m. rank_after 0 0 (take (m + 1) a.c.spacing)) k))
