-- `count_rows::rows::fill_row` meets its contract.
-- Assumes nothing.
use native.Mathlib.Omega.{arith}
use Prim.Native.Nat.{◌≤◌}
use mathlib.Core.Path.{◌≡◌, refl, ◌∙◌}
use lib.ListN.{length}
use Rattle.forms.specs.SchemeMemory.{scheme_in}
use Rattle.count_plan.specs.Layout.{rows_of}
use Rattle.count_cursor.specs.RowLaws.{going_start, going_more, going_end, weight_falls}
use Rattle.count_entry.proofs.FrameLaws.{listed, cell_given, cursor_given}
use borrow.Author.Rules.{rules}
use Rattle.count_rows.proofs.rows.fill_row.Goals as goal

pub row_start-c-requires : goal.row_start-c-requires
row_start-c-requires g c =
    let a = c.args in
    let o = c.requires.0 in
    (listed a.sheet.now a.places.now a.f o, omega (arith, c.requires.2, o.small))

pub loop-c-init : goal.loop-c-init
loop-c-init g c =
    let a = c.args in (
      refl,
      λ o. going_start (g.P.Pass.content a.f.last) (g.met.P.Pass.sound a.f.last) (g.P.Pass.makes o.of.P)
          (rows_of (scheme_in o.of.s)) a.f.last o.of.s a.j
          a.table.now c.row_start-c.result (c.row_start-c.ensures (listed a.sheet.now a.places.now a.f o)),
    )

pub fill_entry-requires : goal.fill_entry-requires
fill_entry-requires g c =
    let low : let a = c.args in c.loop-c.c.row ≡ a.j → c.loop-c.c.row ≤ a.f.last =
    λ here. omega (arith, c.requires.2) in
    let a = c.args in
    let l = c.loop-c in
    let o = c.requires.0 in
    (cell_given a.sheet.now a.places.now a.f o l.c (l.invariant.1 o).at (low (omega arith)), c.requires.1, c.requires.3)

pub next_entry-next-requires : goal.next_entry-next-requires
next_entry-next-requires g c =
    let low : let a = c.args in c.loop-c.c.row ≡ a.j → c.loop-c.c.row ≤ a.f.last =
    λ here. omega (arith, c.requires.2) in
    let a = c.args in
    let l = c.loop-c in
    let o = c.requires.0 in
    cursor_given a.sheet.now a.places.now a.f o l.c (l.invariant.1 o).at (low (omega arith))

pub loop-c-smaller : goal.loop-c-smaller
loop-c-smaller g c =
    let low : let a = c.args in c.loop-c.c.row ≡ a.j → c.loop-c.c.row ≤ a.f.last =
    λ here. omega (arith, c.requires.2) in
    let a = c.args in
    let l = c.loop-c in
    let o = c.requires.0 in
    weight_falls a.sheet.now o.of a.j l.c c.next_entry-next.result (l.invariant.1 o).at (omega arith)
    (c.next_entry-next.ensures
    (cursor_given a.sheet.now a.places.now a.f o l.c (l.invariant.1 o).at (low (omega arith))))

pub loop-c-preserved : goal.loop-c-preserved
loop-c-preserved g c =
    let low : let a = c.args in c.loop-c.c.row ≡ a.j → c.loop-c.c.row ≤ a.f.last =
    λ here. omega (arith, c.requires.2) in
    let a = c.args in
    let l = c.loop-c in
    let next = c.fill_entry.new.table in
    let len : length next ≡ length l.table = search rules in
    let here : l.c.row ≡ a.j = omega arith in (
      len ∙ l.invariant.0,
      λ o. going_more (g.P.Pass.content a.f.last) (g.met.P.Pass.sound a.f.last) (g.P.Pass.makes o.of.P)
          (rows_of (scheme_in o.of.s)) a.f.last o.of.s a.j
          a.table.now l.c c.next_entry-next.result l.table next (l.invariant.1 o) here
          (c.fill_entry.ensures
          (cell_given a.sheet.now a.places.now a.f o l.c (l.invariant.1 o).at (low here)))
          (c.next_entry-next.ensures
          (cursor_given a.sheet.now a.places.now a.f o l.c (l.invariant.1 o).at (low here))),
    )

pub shape_of-table : goal.shape_of-table
shape_of-table g c = c.loop-c.invariant.0

pub returns : goal.returns
returns g c =
    let a = c.args in
    let l = c.loop-c in
    λ o. going_end (g.P.Pass.content a.f.last) (g.met.P.Pass.sound a.f.last) (g.P.Pass.makes o.of.P)
    (rows_of (scheme_in o.of.s)) a.f.last o.of.s a.j
    a.table.now l.c l.table (l.invariant.1 o) c.loop-c-test.false
