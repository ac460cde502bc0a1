-- `count_entry::entry::work_of` meets its contract.
-- Assumes nothing.
use native.Mathlib.Omega.{arith}
use Prim.Native.Nat.{◌+◌, ◌-◌, ◌*◌, ◌%◌}
use mathlib.Core.Path.{◌≡◌, ap, ap₂, ◌∙◌}
use Rattle.count_step.specs.declared.cells.Task.{Task}
use Rattle.count_plan.specs.LayoutLaws.{entry_short}
use Rattle.count_entry.proofs.FrameLaws.{size, framed_fits}
use Rattle.count_entry.proofs.entry.work_of.Goals as goal

pub block_of-requires : goal.block_of-requires
block_of-requires c =
    let a = c.args in
    (framed_fits a.sheet.now a.places.now a.f c.requires.0.framed, omega arith)

pub overflow_add-at : goal.overflow_add-at
overflow_add-at c =
    omega (arith, c.block_of.ensures.1, c.place_at.ensures, c.requires.0.framed.placed.near c.args.c.entry)

pub choose-size-requires : goal.choose-size-requires
choose-size-requires c =
    let a = c.args in
    let q = c.requires.0 in (
      omega (arith, q.low, q.framed.small),
      omega (
        arith,
        ap (λ (t : Task). t.length) c.task_of-task.ensures,
        size a.sheet.now a.places.now a.f a.c q,
        entry_short q.framed.of.s q.framed.of.proper a.c.entry q.at.cell.inside,
      ),
      c.requires.1,
    )

pub returns : goal.returns
returns c =
    let a = c.args in
    let z : a.c.row - 0 ≡ a.c.row = omega arith in
    record {
      at = ap₂ ◌+◌ (c.block_of.ensures.0 ∙ ap (λ x. x % a.f.rows * a.f.width) z) c.place_at.ensures;
      size = c.choose-size.ensures;
      task = c.task_of-task.ensures;
    }
