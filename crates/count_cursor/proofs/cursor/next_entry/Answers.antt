-- `count_cursor::cursor::next_entry` meets its contract.
-- Assumes nothing.
use native.Mathlib.Numerals.{add-one}
use native.Mathlib.Omega.{arith}
use Prim.Native.Nat.{ℕ, suc, ◌<◌}
use mathlib.Core.Path.{◌≡◌, ◌∙◌, subst, subst₂}
use mathlib.Core.List.{List}
use Rattle.count_plan.specs.Layout.{length_at}
use Rattle.count_plan.specs.LayoutLaws.{count_few, entry_short}
use Rattle.count_plan.specs.SheetRows.{field_of}
use Rattle.count_cursor.specs.Cursor.{CursorGiven, FirstFrom, FindsFrom, FirstBelow, FindsBelow}
use Rattle.count_cursor.specs.CursorLaws.{next_same, next_less, next_row}
use Rattle.count_cursor.specs.declared.cursor.Cursor.{Cursor}
use Rattle.count_cursor.proofs.cursor.next_entry.Goals as goal

-- the length of the cursor's entry, as it stands in the sheet
size : (sheet : List ℕ) (entries : ℕ) (c : Cursor) (q : CursorGiven sheet entries c) →
    field_of sheet c.entry 0 ≡ length_at q.listed.of.s c.entry
size sheet entries c q = (q.listed.of.rows c.entry q.at.cell.inside).size

-- what was found, by the length of the cursor's entry
from-entry : (sheet : List ℕ) (entries : ℕ) (c : Cursor) (q : CursorGiven sheet entries c) (k e from : ℕ) → k ≡ field_of sheet c.entry 0 →
    from ≡ suc c.entry → FindsFrom sheet entries k from e →
    FirstFrom q.listed.of.s (length_at q.listed.of.s c.entry) (suc c.entry) e
from-entry sheet entries c q k e from is at f =
    subst₂ (λ (m i : ℕ). FirstFrom q.listed.of.s m i e) (is ∙ size sheet entries c q) at (f q.listed)

below-entry : (sheet : List ℕ) (entries : ℕ) (c : Cursor) (q : CursorGiven sheet entries c) (k e : ℕ) → k ≡ field_of sheet c.entry 0 →
    FindsBelow sheet entries k e → FirstBelow q.listed.of.s (length_at q.listed.of.s c.entry) e
below-entry sheet entries c q k e is f =
    subst (λ (m : ℕ). FirstBelow q.listed.of.s m e) (is ∙ size sheet entries c q) (f q.listed)

pub field-k-requires : goal.field-k-requires
field-k-requires c =
    let q = c.requires in
    let o = q.listed in
    (omega (arith, q.at.cell.inside, count_few o.of.s o.of.proper), omega arith, o.of.long)

pub entry_from-e-requires : goal.entry_from-e-requires
entry_from-e-requires c =
    let q = c.requires in
    let o = q.listed in
    (o, omega (arith, q.at.cell.inside, o.counted))

pub overflow_add-c : goal.overflow_add-c
overflow_add-c c =
    let q = c.requires in
    let o = q.listed in
    omega (arith, q.at.cell.inside, count_few o.of.s o.of.proper)

pub entry_start-requires : goal.entry_start-requires
entry_start-requires c =
    let a = c.args in
    let q = c.requires in
    let o = q.listed in
    let e = c.entry_from-e.result in
    let inside : e < o.of.s.count = omega (arith, o.counted) in
    let f = from-entry a.sheet.now a.entries a.c q c.field-k.result e _ c.field-k.ensures
    (add-one a.c.entry) c.entry_from-e.ensures in
    let long = (o.of.rows e inside).size in (
      omega (arith, count_few o.of.s o.of.proper),
      o.of.long,
      omega (arith, long, entry_short o.of.s o.of.proper e inside),
      omega (arith, long, f.here inside, q.at.cell.whole),
      omega (arith, q.low),
    )

pub returns-then-e-entries : goal.returns-then-e-entries
returns-then-e-entries c =
    let a = c.args in
    λ q.
    next_same a.sheet.now q.listed.of a.c q.at c.entry_from-e.result
    (from-entry a.sheet.now a.entries a.c q c.field-k.result c.entry_from-e.result _
    c.field-k.ensures (add-one a.c.entry) c.entry_from-e.ensures) c.entry_start.result
    (omega (arith, q.listed.counted)) c.entry_start.ensures

pub entry_below-d-requires : goal.entry_below-d-requires
entry_below-d-requires c =
    let a = c.args in
    let q = c.requires in
    let o = q.listed in (
      o,
      omega (
        arith,
        c.field-k.ensures,
        size a.sheet.now a.entries a.c q,
        entry_short o.of.s o.of.proper a.c.entry q.at.cell.inside,
      ),
    )

pub entry_start-requires-then-d-entries : goal.entry_start-requires-then-d-entries
entry_start-requires-then-d-entries c =
    let a = c.args in
    let q = c.requires in
    let o = q.listed in
    let d = c.entry_below-d.result in
    let inside : d < o.of.s.count = omega (arith, o.counted) in
    let b = below-entry a.sheet.now a.entries a.c q c.field-k.result d
    c.field-k.ensures
    c.entry_below-d.ensures in
    let long = (o.of.rows d inside).size in (
      omega (arith, count_few o.of.s o.of.proper),
      o.of.long,
      omega (arith, long, entry_short o.of.s o.of.proper d inside),
      omega (arith, long, b.less inside, q.at.cell.whole),
      omega (arith, q.low),
    )

pub returns-then-d-entries : goal.returns-then-d-entries
returns-then-d-entries c =
    let a = c.args in
    λ q.
    next_less a.sheet.now q.listed.of a.c q.at c.entry_from-e.result
    (from-entry a.sheet.now a.entries a.c q c.field-k.result c.entry_from-e.result _
    c.field-k.ensures (add-one a.c.entry) c.entry_from-e.ensures) (omega (arith, q.listed.counted))
    c.entry_below-d.result
    (below-entry a.sheet.now a.entries a.c q c.field-k.result c.entry_below-d.result
    c.field-k.ensures c.entry_below-d.ensures) c.entry_start-then-d-entries.result
    (omega (arith, q.listed.counted)) c.entry_start-then-d-entries.ensures

pub row_start-requires : goal.row_start-requires
row_start-requires c = (c.requires.listed, omega (arith, c.requires.low))

pub overflow_add-c-2 : goal.overflow_add-c-2
overflow_add-c-2 c = omega (arith, c.requires.low)

pub returns : goal.returns
returns c =
    let a = c.args in
    λ q.
    next_row a.sheet.now q.listed.of a.c q.at c.entry_from-e.result
    (from-entry a.sheet.now a.entries a.c q c.field-k.result c.entry_from-e.result _
    c.field-k.ensures (add-one a.c.entry) c.entry_from-e.ensures) (omega (arith, q.listed.counted))
    c.entry_below-d.result
    (below-entry a.sheet.now a.entries a.c q c.field-k.result c.entry_below-d.result
    c.field-k.ensures c.entry_below-d.ensures) c.row_start.result
    (omega (arith, q.listed.counted)) (c.row_start.ensures q.listed)
