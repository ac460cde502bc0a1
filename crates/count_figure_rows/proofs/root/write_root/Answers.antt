-- `count_figure_rows::root::write_root` meets its contract.
-- Assumes nothing.
use native.Mathlib.Omega.{arith}
use native.Mathlib.Nat.{mul-le-mul_right}
use Prim.Native.Nat.{ℕ, ◌+◌, ◌*◌, ◌-◌, ◌%◌, ◌≤◌}
use mathlib.Core.Path.{◌≡◌, ap, ap₂, ◌∙◌}
use mathlib.Core.List.{List}
use lib.ListN.{length, get_or, take, drop, length-take, length-drop}
use lib.Seq.{take-take}
use Rattle.word.specs.Ceilings.{FIGURES}
use Rattle.word.specs.Inversions.{figure_count}
use Rattle.text_page.specs.Page.{overlay}
use Rattle.spacing.specs.Sizes.{FAR}
use Rattle.count_plan.specs.ApartLaws.{numbers_apart}
use Rattle.count_entry.specs.declared.frame.Frame.{Frame}
use Rattle.count_entry.proofs.FrameLaws.{blocks_small}
use Rattle.count_figures.specs.FigureSizeLaws.{count_most}
use Rattle.count_figure_rows.specs.FigureRows.{RootRead, root_cell}
use Rattle.count_figure_rows.proofs.root.write_root.Goals as goal

-- the cell is that of ε in the last row
cell_is : (places : List ℕ) (f : Frame) (root x y : ℕ) → x ≡ (f.last - 0) % f.rows * f.width → y ≡ get_or places root 0 →
    x + y ≡ root_cell places f root
cell_is places f root x y e p =
    let z : f.last - 0 ≡ f.last = omega arith in
    ap₂ ◌+◌ (e ∙ ap (λ j. j % f.rows * f.width) z) p

-- where the cell begins, and that it ends within the table
module _
    (places T : List ℕ)
    (f : Frame)
    (root m cell : ℕ)
    (q : RootRead places f root T)
    (number : m ≡ figure_count f.last)
    (is : cell ≡ root_cell places f root)
  where
    cell_low : cell ≤ FAR
    cell_low = omega (arith, is, q.inside, blocks_small f q.fits)

    few : m ≤ FIGURES
    few = omega (arith, number, count_most f.last q.small)

    -- a product of the two is small
    product : m * cell ≤ FIGURES * FAR
    product = omega (arith, mul-le-mul_right {m = m} {n = FIGURES} cell few, cell_low)

    ends : m * cell + m ≤ length T
    ends =
        omega (
          arith,
          ap₂ ◌*◌ number is,
          number,
          numbers_apart (figure_count f.last) (root_cell places f root) (f.rows * f.width) q.inside,
          q.room,
        )

pub figure_count-n-requires : goal.figure_count-n-requires
figure_count-n-requires c = omega (arith, c.requires.small)

pub block_of-requires : goal.block_of-requires
block_of-requires c = (c.requires.fits, omega arith)

pub overflow_add-cell : goal.overflow_add-cell
overflow_add-cell c =
    let a = c.args in
    let is = cell_is a.places.now a.f a.root c.block_of.result c.place_at.result c.block_of.ensures.0 c.place_at.ensures in
    omega (arith, cell_low a.places.now a.table.now a.f a.root c.figure_count-n.result _ c.requires c.figure_count-n.ensures is)

pub overflow_mul-at : goal.overflow_mul-at
overflow_mul-at c =
    let a = c.args in
    let is = cell_is a.places.now a.f a.root c.block_of.result c.place_at.result c.block_of.ensures.0 c.place_at.ensures in
    omega (arith, product a.places.now a.table.now a.f a.root c.figure_count-n.result _ c.requires c.figure_count-n.ensures is)

pub offset_bounds-table-at : goal.offset_bounds-table-at
offset_bounds-table-at c =
    let a = c.args in
    let is = cell_is a.places.now a.f a.root c.block_of.result c.place_at.result c.block_of.ensures.0 c.place_at.ensures in
    omega (arith, product a.places.now a.table.now a.f a.root c.figure_count-n.result _ c.requires c.figure_count-n.ensures is)

pub slice_bounds-put_figures-count : goal.slice_bounds-put_figures-count
slice_bounds-put_figures-count c =
    let a = c.args in
    let is = cell_is a.places.now a.f a.root c.block_of.result c.place_at.result c.block_of.ensures.0 c.place_at.ensures in
    omega (arith, ends a.places.now a.table.now a.f a.root c.figure_count-n.result _ c.requires c.figure_count-n.ensures is)

pub slice_bounds-put_figures-start : goal.slice_bounds-put_figures-start
slice_bounds-put_figures-start c =
    let a = c.args in
    let is = cell_is a.places.now a.f a.root c.block_of.result c.place_at.result c.block_of.ensures.0 c.place_at.ensures in
    omega (arith, ends a.places.now a.table.now a.f a.root c.figure_count-n.result _ c.requires c.figure_count-n.ensures is)

pub slice_bounds-put_figures-end : goal.slice_bounds-put_figures-end
slice_bounds-put_figures-end c =
    let a = c.args in
    let is = cell_is a.places.now a.f a.root c.block_of.result c.place_at.result c.block_of.ensures.0 c.place_at.ensures in
    omega (arith, ends a.places.now a.table.now a.f a.root c.figure_count-n.result _ c.requires c.figure_count-n.ensures is)

pub put_figures-requires : goal.put_figures-requires
put_figures-requires c =
    let a = c.args in
    let m = c.figure_count-n.result in
    let is = cell_is a.places.now a.f a.root c.block_of.result c.place_at.result c.block_of.ensures.0 c.place_at.ensures in
    let T = a.table.now in
    let at = m * (c.block_of.result + c.place_at.result) in (
      omega (
        arith,
        ends a.places.now T a.f a.root m _ c.requires c.figure_count-n.ensures is,
        length-take (length T - at) (drop at T),
        length-drop at T,
      ),
      few a.places.now T a.f a.root m _ c.requires c.figure_count-n.ensures is,
      omega arith,
    )

pub returns : goal.returns
returns c =
    let a = c.args in
    let m = c.figure_count-n.result in
    let is = cell_is a.places.now a.f a.root c.block_of.result c.place_at.result c.block_of.ensures.0 c.place_at.ensures in
    let T = a.table.now in
    let at = m * (c.block_of.result + c.place_at.result) in
    let room : m ≤ length T - at =
    omega (arith, ends a.places.now T a.f a.root m _ c.requires c.figure_count-n.ensures is) in
    c.put_figures.ensures ∙
    ap (λ (x : List ℕ). overlay 0 x a.results.now)
    (take-take m (length T - at) (drop at T) room ∙
    ap₂ (λ (n i : ℕ). take n (drop (n * i) T)) c.figure_count-n.ensures is)
