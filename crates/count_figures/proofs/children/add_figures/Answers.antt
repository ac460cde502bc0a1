-- `count_figures::children::add_figures` meets its contract.
-- Assumes nothing.
use native.Mathlib.Omega.{arith}
use native.Mathlib.Nat.{mul-le-mul_right}
use Prim.Native.Nat.{ℕ, ◌+◌, ◌-◌, ◌≤◌}
use mathlib.Core.Path.{◌≡◌, refl, sym, ◌∙◌}
use mathlib.Core.Bool.{true}
use mathlib.Core.List.{List}
use lib.ListN.{length, get_or, take}
use Rattle.word.specs.Ceilings.{FIGURES}
use Rattle.cell.specs.Cell.{free}
use Rattle.forms.specs.GapRows.{gaps_of}
use Rattle.spacing.specs.Sizes.{RANKS, FAR}
use Rattle.count_figures.specs.declared.children.FigureTask.{FigureTask}
use Rattle.count_figures.specs.declared.children.Shape.{Shape}
use Rattle.count_figures.proofs.CaseLaws.{enough_figures, child_room, case_covered, case_alone, case_deletes, case_children}
use borrow.Author.Rules.{rules}
use Rattle.count_figures.proofs.children.add_figures.Goals as goal

-- the cells of its children have one value less behind the prefix
abbrev shape : FigureTask → Shape
shape w = record { numbers = w.numbers; figures = w.figures - (w.task.total - 1) }

pub returns-then-not-is_free : goal.returns-then-not-is_free
returns-then-not-is_free c =
    let spacing : List ℕ =
    take (c.args.work.task.length + 1) c.args.g in
    let a = c.args in
    let p = c.requires in
    case_covered a.work p.0 a.gaps.now a.table.now (spacing) p.2 a.figures.now p.4 p.5
    (sym c.is_free.ensures ∙ c.if-not-is_free.true)

pub overflow_add-links : goal.overflow_add-links
overflow_add-links c = omega (arith, c.rank_without-rank.ensures.1, c.requires.0.fits.near 0)

pub overflow_mul-work : goal.overflow_mul-work
overflow_mul-work c =
    let a = c.args in
    let cell : ℕ = get_or a.work.task.links 0 0 + c.rank_without-rank.result in
    let low : cell ≤ FAR + RANKS = omega (arith, c.rank_without-rank.ensures.1, c.requires.0.fits.near 0) in
    omega (arith, mul-le-mul_right {m = a.work.numbers} {n = FIGURES} cell c.requires.0.few, low)

pub add_moved-requires : goal.add_moved-requires
add_moved-requires c =
    let p = c.requires in
    omega (arith, p.0.room, p.0.few, p.4)

pub returns-then-task-ne0 : goal.returns-then-task-ne0
returns-then-task-ne0 c =
    let spacing : List ℕ =
    take (c.args.work.task.length + 1) c.args.g in
    let uncovered : let a = c.args in let t = a.work.task in free (gaps_of a.gaps.now (t.length + 1) t.gap_count) (spacing) ≡ true =
    sym c.is_free.ensures ∙ c.if-not-is_free.false in
    let a = c.args in
    let p = c.requires in
    let len : length c.add_moved.new.figures ≡ length a.figures.now = search rules in
    case_deletes a.work p.0 a.gaps.now a.table.now (spacing) p.2 a.figures.now p.4 p.5
    c.rank_without-rank.result (uncovered)
    c.if-task-ne0.true c.rank_without-rank.ensures.0 c.add_moved.new.figures len c.add_moved.ensures

pub returns-then-task-eq0 : goal.returns-then-task-eq0
returns-then-task-eq0 c =
    let spacing : List ℕ =
    take (c.args.work.task.length + 1) c.args.g in
    let uncovered : let a = c.args in let t = a.work.task in free (gaps_of a.gaps.now (t.length + 1) t.gap_count) (spacing) ≡ true =
    sym c.is_free.ensures ∙ c.if-not-is_free.false in
    let a = c.args in
    let p = c.requires in
    case_alone a.work p.0 a.gaps.now a.table.now (spacing) p.2 a.figures.now p.4 p.5
    (uncovered) c.if-task-ne0.false (p.2 ∙ c.if-task-eq0.true)

pub overflow_sub-shape : goal.overflow_sub-shape
overflow_sub-shape c = omega arith

pub overflow_sub-shape-2 : goal.overflow_sub-shape-2
overflow_sub-shape-2 c =
    let spacing : List ℕ =
    take (c.args.work.task.length + 1) c.args.g in
    let a = c.args in
    let p = c.requires in
    enough_figures a.work p.0 a.gaps.now a.table.now (spacing) p.2 a.figures.now p.4 p.5
    c.if-task-eq0.false

pub add_children-requires : goal.add_children-requires
add_children-requires c =
    let spacing : List ℕ =
    take (c.args.work.task.length + 1) c.args.g in
    let a = c.args in
    let p = c.requires in (
      record {
        fits = p.0.fits;
        whole = p.2;
        few = p.0.few;
        room = child_room a.work p.0 a.gaps.now a.table.now (spacing) p.2 a.figures.now p.4 p.5
            (λ e. c.if-task-eq0.false (sym p.2 ∙ e)) (shape a.work) refl refl;
      },
      p.3,
    )

pub returns : goal.returns
returns c =
    let spacing : List ℕ =
    take (c.args.work.task.length + 1) c.args.g in
    let uncovered : let a = c.args in let t = a.work.task in free (gaps_of a.gaps.now (t.length + 1) t.gap_count) (spacing) ≡ true =
    sym c.is_free.ensures ∙ c.if-not-is_free.false in
    let a = c.args in
    let p = c.requires in
    let len : length c.add_children.new.figures ≡ length a.figures.now = search rules in
    case_children a.work p.0 a.gaps.now a.table.now (spacing) p.2 a.figures.now p.4 p.5
    (λ e. c.if-task-eq0.false (sym p.2 ∙ e)) (shape a.work) refl refl (uncovered) c.if-task-ne0.false
    c.add_children.new.figures len
    c.add_children.ensures
