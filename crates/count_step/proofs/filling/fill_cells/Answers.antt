-- `count_step::filling::fill_cells` meets its contract.
-- Assumes nothing.
use borrow.Author.Rules.{rules}
use native.Mathlib.Omega.{arith}
use Prim.Native.Nat.{◌+◌}
use mathlib.Core.Path.{◌≡◌, ◌∙◌}
use lib.ListN.{length, set, length-set}
use Rattle.word.specs.Ceilings.{COMPONENTS}
use Rattle.spacing.specs.PascalLaws.{binomial_small}
use Rattle.count_step.specs.Task.{spacing_in, task_step}
use Rattle.count_step.proofs.FillLaws.{filling_start, filling_more, filling_end}
use Rattle.count_step.proofs.filling.fill_cells.Goals as goal

pub loop-p-init : goal.loop-p-init
loop-p-init c =
    let a = c.args in
    let t = a.task in
    let seven : length c.first_spacing-next.result ≡ COMPONENTS = search rules in (
      filling_start set length-set (task_step t a.gaps.now) t.length t.total a.at a.size c.requires.2
          a.table.now (spacing_in t.length c.first_spacing-next.result)
          c.first_spacing-next.ensures,
      seven,
    )

pub next_cell-requires : goal.next_cell-requires
next_cell-requires c =
    let l = c.loop-p in
    (c.requires.0.short, l.invariant.1, omega (arith, l.invariant.0.whole, c.requires.0.sum))

pub overflow_add-at : goal.overflow_add-at
overflow_add-at c =
    let t = c.args.task in
    omega (
      arith,
      c.requires.2,
      c.requires.3,
      binomial_small (t.length + t.total) t.length c.requires.0.sum,
      c.loop-p.invariant.0.reach,
    )

pub loop-p-preserved : goal.loop-p-preserved
loop-p-preserved c =
    let filled = c.fill_one in
    let a = c.args in
    let t = a.task in
    let l = c.loop-p in
    let next = c.next_cell in
    let seven : length next.new.g ≡ length l.next = search rules in (
      filling_more set length-set (task_step t a.gaps.now) t.length t.total a.at a.size c.requires.2 a.table.now
          l.p l.table
          (spacing_in t.length l.next) l.invariant.0 (omega arith) filled.new.table (spacing_in t.length next.new.g)
          filled.ensures next.ensures,
      seven ∙ l.invariant.1,
    )

pub shape_of-table : goal.shape_of-table
shape_of-table c = c.loop-p.invariant.0.size

pub returns : goal.returns
returns c =
    let a = c.args in
    let t = a.task in
    let l = c.loop-p in
    filling_end set length-set (task_step t a.gaps.now) t.length t.total a.at a.size c.requires.2 a.table.now
    l.p l.table
    (spacing_in t.length l.next) l.invariant.0 (omega arith)
