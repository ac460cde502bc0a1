-- The cell of ε in a row.
-- Assumes nothing.
use Prim.Native.Nat.{ℕ, ◌+◌, ◌≤◌}
use mathlib.Core.Path.{◌≡◌, refl, sym, ap, ◌∙◌}
use mathlib.Core.List.{List, [], ◌∷◌}
use lib.ListN.{length, take}
use Rattle.forms.specs.SchemeMemory.{scheme_in}
use Rattle.forms.specs.declared.memory.Scheme.{Scheme}
use Rattle.count_step.specs.Step.{held}
use Rattle.count_plan.specs.Layout.{length_at, rows_of, cell_at, HasCell}
use Rattle.count_plan.specs.LayoutLaws.{prefix_length}
use Rattle.count_plan.specs.SheetRows.{Names}
use Rattle.count_walk.specs.Cells.{cells_of}
use Rattle.count_walk.specs.Walk.{count_walked}
use Rattle.count_rows.specs.Run.{root_value}
use Rattle.count_rows.specs.RunLaws.{root_cell_lem}
use Rattle.count_rows.specs.declared.values.CellAt.{CellAt}

-- The cell of ε

module _ (P : List (List ℕ)) (n : ℕ) (s : Scheme) (root j : ℕ) (names : Names s [] root) (c : CellAt) (row_is : c.row ≡ j)
    (entry-is : c.entry ≡ root) (spacing_is : take 1 c.spacing ≡ j ∷ []) where
  spacing_here : take (length_at s c.entry + 1) c.spacing ≡ j ∷ []
  spacing_here =
      let z : length_at s c.entry ≡ 0 = ap (length_at s) entry-is ∙ sym (prefix_length s root) ∙ ap length names.named in
      ap (λ m. take (m + 1) c.spacing) z ∙ spacing_is

  pub root_has : j ≤ n → HasCell n s c.row c.entry (take (length_at s c.entry + 1) c.spacing)
  root_has low = rw (row_is, spacing_here, entry-is) (root_cell_lem n s root j names low)

  pub root_read : (T₀ T : List ℕ) (x : ℕ) → T ≡ count_walked P n s (cells_of s j) T₀ →
      x ≡ held T (cell_at (rows_of (scheme_in s)) n s c.row c.entry (take (length_at s c.entry + 1) c.spacing)) →
      x ≡ root_value P n s root T₀ j
  root_read T₀ T x e q =
      q ∙ ap (λ (l : List ℕ). held l (cell_at (rows_of (scheme_in s)) n s c.row c.entry (take (length_at s c.entry + 1)
      c.spacing))) e ∙
      ap (held (count_walked P n s (cells_of s j) T₀))
      (rw (row_is, spacing_here, entry-is) refl)
