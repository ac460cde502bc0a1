-- A scheme whose sets of positions have one member each keeps two rows, so its table is as large as
-- document 01 says.
use Rattle.std.specs.Prelude.{ℕ, zero, suc, ◌+◌, ◌*◌, ◌≤◌, ◌<◌, ◌≡◌, refl, length}
use Rattle.std.proofs.Common.{arith, sym, ap, ◌∙◌}
use mathlib.Core.List.{List, [], map, Memᴰ}
use Rattle.word.specs.Ceilings.{PREFIX}
use Rattle.cell.specs.Cell.{total}
use Rattle.cell.specs.Binomial.{binomial}
use Rattle.cell.specs.Child.{child_at}
use Rattle.cell.proofs.ChildLaws.{child_length}
use Rattle.forms.specs.SchemeList.{Does, expands, deletes, EntryList}
use Rattle.scheme.specs.WellFormed.{outside}
use Rattle.scheme.specs.PositionLaws.{positions_some}
use Rattle.scheme.specs.Proper.{Proper}
use Rattle.verdict.specs.Size.{Listed}
use Rattle.verdict.specs.ValueLaws.{entry_found, child_listed}
use Rattle.count_plan.specs.Layout.{deleted_by, largest_set, rows_of, need_of}
use Rattle.count_plan.specs.LayoutLaws.{set_at_most, sets_below}

-- each entry that deletes deletes one position
abbrev pub Single : List EntryList → Type 0
Single E = (e : EntryList) → Memᴰ e E → (R : List ℕ) → e.rule ≡ deletes R → length R ≡ 1

module _ (E : List EntryList) (proper : Proper E) where
  -- An entry deletes, or a child of it is listed, which is longer.
  at_entry : (e : EntryList) → Memᴰ e E → (rule : Does) → e.rule ≡ rule →
      (length e.prefix < PREFIX → (q : List ℕ) → Listed E q → length q ≡ suc (length e.prefix) → 1 ≤ largest_set E) → 1 ≤ largest_set E
  at_entry e m expands r next =
      next ((proper.each e m).shorter r) (child_at e.prefix 1)
      (child_listed [] E proper e m r 1 (omega arith) (omega arith)) (child_length e.prefix 1)
  at_entry e m (deletes R) r next =
      omega (
        arith,
        set_at_most E e m,
        ap deleted_by r,
        positions_some (length e.prefix) R (ap (outside (length e.prefix)) (sym r) ∙ (proper.each e m).inside),
      )

  -- No entry of length PREFIX expands, so the way up over first children ends at one that deletes.
  way_up : (m : ℕ) (p : List ℕ) → Listed E p → PREFIX ≤ length p + m → 1 ≤ largest_set E
  way_up zero p l h =
      let (e, m, f, q) = entry_found E p l in
      at_entry e m e.rule refl
      (λ (short : length e.prefix < PREFIX) (c : List ℕ) (lc : Listed E c) (size : length c ≡ suc (length e.prefix)).
      absurd (omega (arith, ap length q)))
  way_up (suc m) p l h =
      let (e, mem, f, q) = entry_found E p l in
      at_entry e mem e.rule refl
      (λ (short : length e.prefix < PREFIX) (c : List ℕ) (lc : Listed E c) (size : length c ≡ suc (length e.prefix)).
      way_up m c lc (omega (arith, ap length q)))

  -- a well-formed scheme has an entry that deletes
  pub some_deletes : 1 ≤ largest_set E
  some_deletes = way_up PREFIX [] proper.root (omega arith)

  pub single_rows : Single E → rows_of E ≡ 2
  single_rows single =
      let most : largest_set E ≤ 1 = sets_below 1 E (λ (e : EntryList) (m : Memᴰ e E). go e m e.rule refl) in
      omega (arith, some_deletes)
    where
      go : (e : EntryList) → Memᴰ e E → (rule : Does) → e.rule ≡ rule → deleted_by e.rule ≤ 1
      go e m expands r = omega (arith, ap deleted_by r)
      go e m (deletes R) r = omega (arith, ap deleted_by r, single e m R r)

  -- "It needs 2 times the sum of C(n, k) over all entries, k being the entry's length" (01)
  pub single_need : Single E → (n : ℕ) → need_of n E ≡ 2 * total (map (λ e. binomial n (length e.prefix)) E)
  single_need single n = rw (single_rows single) (omega arith)
