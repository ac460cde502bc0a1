-- `count_figures::adding::put_figures` meets its contract.
-- Assumes nothing.
use borrow.Author.Rules.{rules}
use native.Mathlib.Omega.{arith}
use Prim.Native.Nat.{ℕ}
use mathlib.Core.Path.{◌≡◌, refl, ap, ◌∙◌}
use lib.ListN.{length, take}
use Rattle.text_page.specs.Page.{overlay}
use Rattle.count_figures.proofs.AddLaws.{put_none, put_more}
use Rattle.count_figures.proofs.adding.put_figures.Goals as goal

pub loop-i-init : goal.loop-i-init
loop-i-init c =
    let a = c.args in
    (refl, put_none a.at a.figures.now a.table.now)

pub offset_bounds-figures-i : goal.offset_bounds-figures-i
offset_bounds-figures-i c = omega (arith, c.requires)

pub bounds-figures-i : goal.bounds-figures-i
bounds-figures-i c = omega (arith, c.requires)

pub overflow_add-at : goal.overflow_add-at
overflow_add-at c = omega (arith, c.requires)

pub loop-i-preserved : goal.loop-i-preserved
loop-i-preserved c =
    let a = c.args in
    let l = c.loop-i in
    let len : length c.store.new.table ≡ length l.table = search rules in (
      len ∙ l.invariant.0,
      c.store.ensures ∙
          put_more a.at l.i _ a.figures.now a.table.now l.table (omega (arith, c.requires)) refl l.invariant.1,
    )

pub shape_of-table : goal.shape_of-table
shape_of-table c = c.loop-i.invariant.0

pub returns : goal.returns
returns c =
    let a = c.args in
    let l = c.loop-i in
    let e : l.i ≡ a.n = omega arith in
    l.invariant.1 ∙ ap (λ (m : ℕ). overlay a.at (take m a.figures.now) a.table.now) e
