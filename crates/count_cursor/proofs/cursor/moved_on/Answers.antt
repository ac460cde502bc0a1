-- `count_cursor::cursor::moved_on` meets its contract.
-- Assumes nothing.
use native.Mathlib.Omega.{arith}
use Prim.Native.Nat.{ℕ, ◌+◌, ◌<◌}
use mathlib.Core.Path.{◌≡◌, refl, sym, ap, ◌∙◌}
use mathlib.Core.List.{List}
use lib.ListN.{length, take}
use Rattle.spacing.specs.Sizes.{CHOICES}
use Rattle.spacing.specs.Rank.{next_of}
use Rattle.spacing.specs.RankLaws.{rank_bound}
use Rattle.spacing.specs.PascalLaws.{binomial_small}
use Rattle.cell.specs.Binomial.{binomial}
use Rattle.word.specs.Ceilings.{COMPONENTS}
use Rattle.cell.specs.Cell.{total}
use Rattle.count_plan.specs.Layout.{length_at}
use Rattle.count_plan.specs.SheetRows.{field_of}
use Rattle.count_plan.specs.LayoutLaws.{count_few, entry_short}
use Rattle.count_cursor.specs.Cursor.{spacing_of, CursorGiven}
use Rattle.count_cursor.specs.declared.cursor.Cursor.{Cursor}
use Rattle.count_cursor.specs.CursorLaws.{moves_on, moves_entry}
use borrow.Author.Rules.{rules}
use Rattle.count_cursor.proofs.cursor.moved_on.Goals as goal

pub field-k-requires : goal.field-k-requires
field-k-requires c =
    let q = c.requires.0 in
    let o = q.listed in
    (omega (arith, q.at.cell.inside, count_few o.of.s o.of.proper), omega arith, o.of.long)

-- the rank, and the length of the entry
rank-small : (sheet : List ℕ) (entries : ℕ) (c : Cursor) → CursorGiven sheet entries c → c.rank < CHOICES
rank-small sheet entries c q =
    let s = q.listed.of.s in
    omega (
      arith,
      q.at.ranked,
      rank_bound (spacing_of s c) (length_at s c.entry) c.row q.at.cell.wide q.at.cell.whole,
      binomial_small c.row (length_at s c.entry) q.low,
    )

size : (sheet : List ℕ) (entries : ℕ) (c : Cursor) (q : CursorGiven sheet entries c) (k : ℕ) → k ≡ field_of sheet c.entry 0 →
    k ≡ length_at q.listed.of.s c.entry
size sheet entries c q k e = e ∙ (q.listed.of.rows c.entry q.at.cell.inside).size

pub overflow_add-c : goal.overflow_add-c
overflow_add-c c =
    let a = c.args in
    omega (arith, rank-small a.sheet.now a.entries a.c c.requires.0)

pub choose-requires : goal.choose-requires
choose-requires c =
    let a = c.args in
    let q = c.requires.0 in
    let o = q.listed in (
      q.low,
      omega (
        arith,
        size a.sheet.now a.entries a.c q c.field-k.result c.field-k.ensures,
        entry_short o.of.s o.of.proper a.c.entry q.at.cell.inside,
      ),
      c.requires.1,
    )

pub next_cell-requires : goal.next_cell-requires
next_cell-requires c =
    let seven : length c.args.c.spacing ≡ COMPONENTS =
    search rules in
    let a = c.args in
    let q = c.requires.0 in
    let o = q.listed in
    let k = size a.sheet.now a.entries a.c q c.field-k.result c.field-k.ensures in (
      omega (arith, k, entry_short o.of.s o.of.proper a.c.entry q.at.cell.inside),
      seven,
      omega (arith, ap (λ m. total (take (m + 1) a.c.spacing)) k, q.at.cell.whole, q.low),
    )

pub returns-then-c-choose : goal.returns-then-c-choose
returns-then-c-choose c =
    let a = c.args in
    λ q.
    let k = size a.sheet.now a.entries a.c q c.field-k.result c.field-k.ensures in
    let n : c.choose.result ≡ binomial a.c.row (length_at q.listed.of.s a.c.entry) =
    c.choose.ensures ∙ ap (binomial a.c.row) k in
    moves_on q.listed.of.s a.c q.at (omega (arith, n, c.if-c-choose.true)) _ refl refl refl
    (ap (λ m. take (m + 1) c.next_cell.new.g) (sym k) ∙ c.next_cell.ensures ∙
    ap (λ m. next_of (take (m + 1) a.c.spacing)) k)

pub returns : goal.returns
returns c =
    let a = c.args in
    λ q.
    let k = size a.sheet.now a.entries a.c q c.field-k.result c.field-k.ensures in
    let n : c.choose.result ≡ binomial a.c.row (length_at q.listed.of.s a.c.entry) =
    c.choose.ensures ∙ ap (binomial a.c.row) k in
    moves_entry q.listed.of.s a.c q.at (omega (arith, n)) c.next_entry.result (c.next_entry.ensures q)
