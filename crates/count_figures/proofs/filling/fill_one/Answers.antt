-- `count_figures::filling::fill_one` meets its contract.
-- Assumes nothing.
use borrow.Author.Rules.{rules}
use native.Mathlib.Omega.{arith}
use native.Mathlib.Nat.{mul-le-mul_right}
use Prim.Native.Nat.{ℕ, ◌*◌, ◌≤◌}
use mathlib.Core.Path.{◌≡◌, sym, ap, ◌∙◌}
use mathlib.Core.List.{List}
use lib.ListN.{length, take, length-take, length-replicate}
use lib.Seq.{take_all}
use Rattle.word.specs.Ceilings.{FIGURES}
use Rattle.word.specs.ListLaws.{get_or_zeros}
use Rattle.text_page.specs.Page.{overlay}
use Rattle.count_figures.proofs.filling.fill_one.Goals as goal

pub add_figures-requires : goal.add_figures-requires
add_figures-requires c =
    let p = c.requires in
    (p.0, p.1, p.2, p.3, length-replicate {A = ℕ} FIGURES 0, get_or_zeros FIGURES)

pub overflow_mul-work : goal.overflow_mul-work
overflow_mul-work c =
    let a = c.args in
    omega (arith, mul-le-mul_right {m = a.work.numbers} {n = FIGURES} a.at c.requires.0.few, c.requires.4)

pub put_figures-requires : goal.put_figures-requires
put_figures-requires c =
    let a = c.args in
    let p = c.requires in
    let len : length c.add_figures.new.figures ≡ FIGURES = search rules in (
      omega (arith, len, p.0.room, p.0.few),
      omega (arith, p.0.room, p.0.few),
      omega (arith, mul-le-mul_right {m = a.work.numbers} {n = FIGURES} a.at p.0.few, p.4),
    )

pub returns : goal.returns
returns c =
    let a = c.args in
    let made = c.add_figures in
    let few : length (take a.work.figures made.new.figures) ≤ a.work.numbers =
    omega (arith, length-take a.work.figures made.new.figures, c.requires.0.room) in
    c.put_figures.ensures ∙
    ap (λ (x : List ℕ). overlay (a.work.numbers * a.at) x a.table.now)
    (sym (take_all a.work.numbers (take a.work.figures made.new.figures) few) ∙ ap (take a.work.numbers) made.ensures)
