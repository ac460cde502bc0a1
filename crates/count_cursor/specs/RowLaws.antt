-- The cursor's way through a row, and rows one after the other, whatever the cells hold.
use Rattle.std.specs.Prelude.{ℕ, suc, ◌+◌, ◌*◌, ◌-◌, ◌≤◌, ◌<◌, ◌≡◌, ◌⊎◌}
use Rattle.std.proofs.Common.{add-one, arith, sym, ap₂, ◌∙◌, inl, inr}
use Rattle.std.proofs.Math.Path.{refl, ap}
use mathlib.Core.List.{List, append-nil}
use Rattle.word.specs.Ceilings.{ENTRIES, PREFIX}
use Rattle.forms.specs.declared.memory.Scheme.{Scheme}
use Rattle.count_plan.specs.Layout.{length_at}
use Rattle.count_plan.specs.LayoutLaws.{count_few, entry_short}
use Rattle.count_plan.specs.SheetRows.{field_of, Sheet}
use Rattle.count_walk.specs.Content.{Content, Sound}
use Rattle.count_walk.specs.Cells.{TableCell, entry_cells, row_cells, rows_from, cells_of}
use Rattle.count_walk.proofs.CellLaws.{rows_append}
use Rattle.count_walk.specs.Walk.{Makes, walked}
use Rattle.count_walk.proofs.WalkLaws.{walked_append}
use Rattle.count_cursor.specs.Cursor.{AtCell, later_of, rest_of, RowStart, Later, NextEntry}
use Rattle.count_cursor.specs.CursorLaws.{rest_none, rest_entry}
use Rattle.count_cursor.specs.declared.cursor.Cursor.{Cursor}

-- row j is filled up to the cursor: what is left gives what the whole row gives
pub record Going {A : Type 0} (C : Content A) (make : Makes A) (rows n : ℕ) (s : Scheme) (j : ℕ) (c : Cursor) (T₀ T : List ℕ) : Type 0
  where
    pub at : AtCell s c
    pub fresh : c.rank ≡ 0
    pub low : j ≤ c.row
    pub high : c.row ≤ j + 1
    pub rest : walked C make rows n s (rest_of s j c) T ≡ walked C make rows n s (row_cells s j) T₀

one_row : (s : Scheme) (j : ℕ) → rows_from s j 1 ≡ row_cells s j
unfolding rows_from
one_row s j = append-nil (row_cells s j)

module _ {A : Type 0} (C : Content A) (sound : Sound C) (make : Makes A) (rows n : ℕ) (s : Scheme) (j : ℕ) (T₀ : List ℕ) where
  pub going_start : (c : Cursor) → RowStart s j c → Going C make rows n s j c T₀ T₀
  going_start c r =
      let m : suc j - j ≡ 1 = omega arith in
      record {
        at = r.at;
        fresh = r.fresh;
        low = omega (arith, r.here);
        high = omega (arith, r.here);
        rest = ap (λ (l : List TableCell). walked C make rows n s l T₀) (r.rest j (omega arith) ∙ ap (rows_from s j) m ∙ one_row s j);
      }

  pub going_more : (c r : Cursor) (T U : List ℕ) → Going C make rows n s j c T₀ T → c.row ≡ j →
      U ≡ walked C make rows n s (entry_cells s c.row c.entry) T → NextEntry s c r → Going C make rows n s j r T₀ U
  going_more c r T U g here filled next =
      record {
        at = next.at;
        fresh = next.fresh;
        low = up next.falls;
        high = down next.falls;
        rest =
            ap (λ (l : List TableCell). walked C make rows n s l U) (sym (next.rest j (omega arith))) ∙
            ap (walked C make rows n s (later_of s j c)) filled ∙
            sym (walked_append C sound make rows n s (entry_cells s c.row c.entry) (later_of s j c) T) ∙
            ap (λ (l : List TableCell). walked C make rows n s l T) (sym (rest_entry s c g.at g.fresh j (omega arith))) ∙ g.rest;
      }
    where
      up : (r.row ≡ suc c.row) ⊎ ((r.row ≡ c.row) × Later s c.entry r.entry) → j ≤ r.row
      up (inl e) = omega arith
      up (inr (e, l)) = omega arith

      down : (r.row ≡ suc c.row) ⊎ ((r.row ≡ c.row) × Later s c.entry r.entry) → r.row ≤ j + 1
      down (inl e) = omega arith
      down (inr (e, l)) = omega arith

  pub going_end : (c : Cursor) (T : List ℕ) → Going C make rows n s j c T₀ T → (c.row ≡ j → ⊥) → T ≡ walked C make rows n s
      (row_cells s j) T₀
  unfolding walked
  going_end c T g ne =
      let past : j < c.row = omega (arith, g.low) in
      ap (λ (l : List TableCell). walked C make rows n s l T) (sym (rest_none s c j past)) ∙ g.rest

-- Each move of the cursor lowers this number.
abbrev pub weight : List ℕ → ℕ → Cursor → ℕ
weight sheet j c = (j + 1 - c.row) * ((PREFIX + 1) * (ENTRIES + 1)) + (field_of sheet c.entry 0 * (ENTRIES + 1) + (ENTRIES - c.entry))

pub weight_falls : (sheet : List ℕ) (o : Sheet sheet) (j : ℕ) (c r : Cursor) → AtCell o.s c → c.row ≡ j → NextEntry o.s c r →
    weight sheet j r < weight sheet j c
weight_falls sheet o j c r at here next = go next.falls
  where
    kc : field_of sheet c.entry 0 ≡ length_at o.s c.entry
    kc = (o.rows c.entry at.cell.inside).size

    kr : field_of sheet r.entry 0 ≡ length_at o.s r.entry
    kr = (o.rows r.entry next.at.cell.inside).size

    later : r.row ≡ c.row → Later o.s c.entry r.entry → weight sheet j r < weight sheet j c
    later e (inl l) = omega (arith, kc, kr, at.cell.inside, next.at.cell.inside, count_few o.s o.proper)
    later e (inr (q, l)) = omega (arith, kc, kr, at.cell.inside, next.at.cell.inside, count_few o.s o.proper)

    go : (r.row ≡ suc c.row) ⊎ ((r.row ≡ c.row) × Later o.s c.entry r.entry) → weight sheet j r < weight sheet j c
    go (inl e) = omega (arith, kr, entry_short o.s o.proper r.entry next.at.cell.inside)
    go (inr (e, l)) = later e l

module _ {A : Type 0} (C : Content A) (sound : Sound C) (make : Makes A) (rows n : ℕ) (s : Scheme) where
  -- one row more
  pub rows_more : (i : ℕ) (T₀ T U : List ℕ) → T ≡ walked C make rows n s (rows_from s 0 i) T₀ →
      U ≡ walked C make rows n s (row_cells s i) T → U ≡ walked C make rows n s (rows_from s 0 (i + 1)) T₀
  rows_more i T₀ T U e f =
      let z : 0 + i ≡ i = omega arith in
      f ∙ ap₂ (λ (l : List TableCell) (X : List ℕ). walked C make rows n s l X) (sym (ap (λ m. rows_from s m 1) z ∙ one_row s i)) e ∙
      sym (walked_append C sound make rows n s (rows_from s 0 i) (rows_from s (0 + i) 1) T₀) ∙
      ap (λ (l : List TableCell). walked C make rows n s l T₀) (rows_append s 0 i 1)

  pub rows_end : (i j : ℕ) (T₀ T : List ℕ) → i ≡ j + 1 →
      T ≡ walked C make rows n s (rows_from s 0 i) T₀ → T ≡ walked C make rows n s (cells_of s j) T₀
  rows_end i j T₀ T q e = e ∙ ap (λ m. walked C make rows n s (rows_from s 0 m) T₀) (q ∙ add-one j)

  pub rows_none : (T : List ℕ) → T ≡ walked C make rows n s (rows_from s 0 0) T
  unfolding rows_from walked
  rows_none T = refl
