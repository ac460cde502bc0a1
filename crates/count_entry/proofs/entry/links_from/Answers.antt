-- `count_entry::entry::links_from` meets its contract.
-- Assumes nothing.
use native.Mathlib.Omega.{arith}
use Prim.Native.Nat.{ℕ, ◌+◌, ◌<◌}
use mathlib.Core.Path.{◌≡◌, refl, ap, ◌∙◌}
use lib.ListN.{get_or, length-set}
use Rattle.word.specs.Ceilings.{LINKS}
use Rattle.forms.specs.MemoryLaws.{rows_more}
use Rattle.count_plan.specs.SheetRows.{link_at}
use Rattle.count_plan.proofs.SheetRowLaws.{link_at_lem}
use Rattle.count_entry.proofs.FrameLaws.{links_counted}
use Rattle.count_entry.proofs.entry.links_from.Goals as goal

pub loop-a-init : goal.loop-a-init
loop-a-init c = (refl, λ (d : ℕ) (h : d < 0). absurd (omega arith))

pub overflow_add-from : goal.overflow_add-from
overflow_add-from c =
    let a = c.args in
    let l = c.loop-a in
    omega (
      arith,
      c.place_at-place.ensures ∙ ap (λ n. get_or a.places.now n 0) c.field.ensures,
      link_at_lem a.sheet.now a.places.now a.e l.a (omega arith),
      c.requires.3 l.a,
      c.requires.2,
    )

pub loop-a-preserved : goal.loop-a-preserved
loop-a-preserved c =
    let a = c.args in
    let l = c.loop-a in
    let e = c.place_at-place.ensures ∙ ap (λ n. get_or a.places.now n 0) c.field.ensures in (
      length-set l.from l.a (a.offset + c.place_at-place.result) ∙ l.invariant.0,
      rows_more (λ (j x : ℕ). x ≡ a.offset + link_at a.sheet.now a.places.now a.e j) l.from 0 l.a
          (a.offset + c.place_at-place.result)
          (omega (arith, l.invariant.0)) (ap (λ n. a.offset + n) e) l.invariant.1,
    )

pub returns : goal.returns
returns c =
    let a = c.args in
    let l = c.loop-a in
    links_counted a.sheet.now a.places.now a.e a.offset l.from l.invariant.0
    (λ (d : ℕ) (h : d < LINKS). l.invariant.1 d (omega arith))
