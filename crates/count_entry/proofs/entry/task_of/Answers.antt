-- `count_entry::entry::task_of` meets its contract.
-- Assumes nothing.
use native.Mathlib.Omega.{arith}
use Prim.Native.Nat.{ℕ, ◌+◌, ◌-◌, ◌*◌, ◌%◌}
use mathlib.Core.Path.{◌≡◌, refl, ap, ◌∙◌}
use mathlib.Core.List.{List, map}
use Rattle.count_step.specs.declared.cells.Task.{Task}
use Rattle.count_plan.specs.Plan.{Item}
use Rattle.count_plan.specs.SheetRows.{field_of, flags_at, links_at, item_of}
use Rattle.count_entry.specs.Frames.{offset_of, task_of}
use Rattle.count_entry.specs.declared.frame.Frame.{Frame}
use Rattle.count_entry.proofs.FrameLaws.{index_small, framed_fits, back_low, links_near, reach}
use Rattle.count_entry.proofs.entry.task_of.Goals as goal

task-made : (f : Frame) (t : Item) (flags : List ℕ) (n j k d : ℕ) (gone : List ℕ) (a m : ℕ) (links : List ℕ) → k ≡ t.length →
    d ≡ t.deleted → gone ≡ flags → a ≡ t.alone → m ≡ n → links ≡ map (λ x. offset_of f t j + x) t.links →
    ◌≡◌ {A = Task} (record { length = k; total = j - k; deleted = d; gone = gone; alone = a; links = links; gap_count = m })
    (task_of f t flags n j)
task-made f t flags n j k d gone a m links p q g r s u = rw (p, q, g, r, s, u) refl

pub field-k-requires : goal.field-k-requires
field-k-requires c =
    (index_small _ _ _ _ c.requires, omega arith, c.requires.framed.of.long)

pub field-deleted-requires : goal.field-deleted-requires
field-deleted-requires c =
    (index_small _ _ _ _ c.requires, omega arith, c.requires.framed.of.long)

pub gone_of-gone-requires : goal.gone_of-gone-requires
gone_of-gone-requires c =
    (index_small _ _ _ _ c.requires, c.requires.framed.of.long)

pub field-alone-requires : goal.field-alone-requires
field-alone-requires c =
    (index_small _ _ _ _ c.requires, omega arith, c.requires.framed.of.long)

pub field-count-requires : goal.field-count-requires
field-count-requires c =
    (index_small _ _ _ _ c.requires, omega arith, c.requires.framed.of.long)

pub block_of-offset-requires : goal.block_of-offset-requires
block_of-offset-requires c =
    let a = c.args in
    let q = c.requires in (
      framed_fits a.sheet.now a.places.now a.f q.framed,
      omega (arith, c.field-deleted.ensures, back_low a.sheet.now a.places.now a.f a.c q),
    )

pub links_from-links-requires : goal.links_from-links-requires
links_from-links-requires c =
    let a = c.args in
    let q = c.requires in
    (index_small _ _ _ _ q, q.framed.of.long, c.block_of-offset.ensures.1, links_near _ _ _ _ q)

pub overflow_sub-result : goal.overflow_sub-result
overflow_sub-result c =
    let a = c.args in
    omega (arith, c.field-k.ensures, reach a.sheet.now a.places.now a.f a.c c.requires)

pub returns : goal.returns
returns c =
    let a = c.args in
    let sheet = a.sheet.now in
    let places = a.places.now in
    let offset : c.block_of-offset.result ≡ offset_of a.f (item_of a.sheet.now a.places.now a.c.entry) a.c.row =
    c.block_of-offset.ensures.0 ∙ ap (λ m. (a.c.row - m) % a.f.rows * a.f.width) c.field-deleted.ensures in
    task-made a.f (item_of sheet places a.c.entry) (flags_at sheet a.c.entry) (field_of sheet a.c.entry 3) a.c.row
    c.field-k.result c.field-deleted.result c.gone_of-gone.result c.field-alone.result
    c.field-count.result c.links_from-links.result c.field-k.ensures c.field-deleted.ensures
    c.gone_of-gone.ensures c.field-alone.ensures c.field-count.ensures
    (c.links_from-links.ensures ∙ ap (λ o. map (λ x. o + x) (links_at sheet places a.c.entry)) offset)
