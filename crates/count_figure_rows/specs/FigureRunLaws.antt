-- After the rows up to the largest length the cell of ε holds the figures of an accepted scheme.
use Rattle.std.specs.Prelude.{ℕ, ◌+◌, ◌*◌, ◌%◌, ◌≤◌, ◌<◌, ◌≡◌, length, get_or, drop}
use native.Mathlib.Omega.{arith}
use Rattle.std.proofs.Math.Path.{refl, sym, ap, ap₂}
use Rattle.std.proofs.Common.{◌∙◌}
use mathlib.Core.List.{List, [], ◌∷◌}
use Rattle.std.proofs.Math.ListN.{take}
use Rattle.word.specs.Ceilings.{LENGTH}
use Rattle.word.specs.Inversions.{figure_count, figures}
use Rattle.cell.specs.Cell.{total}
use Rattle.spacing.specs.Rank.{rank_of}
use Rattle.forms.specs.SchemeMemory.{scheme_in}
use Rattle.forms.specs.declared.memory.Scheme.{Scheme}
use Rattle.scheme.specs.ProperLaws.{proper}
use Rattle.verdict.specs.Truth.{WellFormed, AllTrue}
use Rattle.count_plan.specs.Layout.{prefix_at, place_at, width_of, rows_of, cell_at, number_at, HasCell}
use Rattle.count_plan.specs.ApartLaws.{cell_inside}
use Rattle.count_plan.specs.SheetRows.{Names}
use Rattle.count_walk.specs.Cells.{cells_of}
use Rattle.count_walk.proofs.WalkLaws.{row_value}
use Rattle.count_entry.specs.Frames.{Framed}
use Rattle.count_entry.specs.declared.frame.Frame.{Frame}
use Rattle.count_figures.specs.Figures.{cell_figures, figures_makes, figures_held, several, figures_walked}
use Rattle.count_figures.proofs.FigureContentLaws.{several_sound, held_front}
use Rattle.count_figures.proofs.FigureSolutionLaws.{figures_solution, root_figures_lem}
use Rattle.count_rows.specs.RunLaws.{root_cell_lem}
use Rattle.count_figure_rows.specs.FigureRows.{root_cell, root_figures}

-- what any cell of a kept row holds are the figures of the cell
module _ (P : List (List ℕ)) (s : Scheme) (formed : WellFormed P (scheme_in s)) (truth : AllTrue P (scheme_in s)) (n : ℕ)
    (small : n ≤ LENGTH)
    (T : List ℕ) (room : number_at (figure_count n) (rows_of (scheme_in s) * width_of n s) ≤ length T) where
  pub figures_there : (j i d : ℕ) (g : List ℕ) → j ≤ n → HasCell n s i d g → i ≤ j → j < i + rows_of (scheme_in s) →
      figures_held (figure_count n) (total g) (figures_walked P n s (cells_of s j) T) (cell_at (rows_of (scheme_in s)) n s i d g) ≡
      cell_figures P (prefix_at s d) g
  figures_there j i d g low c here kept =
      row_value (several (figure_count n)) (several_sound (figure_count n)) (figures_makes P) (rows_of (scheme_in s)) n s (cell_figures P)
      (figures_solution P n s small formed truth) (proper (scheme_in s) formed.scheme) (omega arith) (omega arith) j low T room i d g c
      here kept

  -- the cell of ε
  module _ (sheet places : List ℕ) (f : Frame) (o : Framed sheet places f) (same : o.of.s ≡ s) (last : f.last ≡ n) (root : ℕ)
      (names : Names s [] root) where
    width_of_lem : f.width ≡ width_of n s
    width_of_lem = o.width_is ∙ ap₂ width_of last same

    rows_of_lem : f.rows ≡ rows_of (scheme_in s)
    rows_of_lem = o.rows_are ∙ ap (λ (x : Scheme). rows_of (scheme_in x)) same

    place_of : get_or places root 0 ≡ place_at n s root
    place_of =
        o.placed.at root (omega (arith, names.inside, ap (λ (x : Scheme). x.count) same)) ∙
        ap₂ (λ (m : ℕ) (x : Scheme). place_at m x root) last same

    rank_none : rank_of (n ∷ []) ≡ 0
    unfolding rank_of
    rank_none = refl

    cell_of_lem : root_cell places f root ≡ cell_at (rows_of (scheme_in s)) n s n root (n ∷ [])
    cell_of_lem =
        ap₂ ◌+◌ (ap₂ (λ (j r : ℕ). j % r * f.width) last rows_of_lem ∙ ap (λ w. n % rows_of (scheme_in s) * w) width_of_lem) place_of ∙
        omega (arith, rank_none)

    pub root_inside : root_cell places f root < f.rows * f.width
    root_inside =
        omega (
          arith,
          cell_of_lem,
          ap₂ ◌*◌ rows_of_lem width_of_lem,
          cell_inside n s (rows_of (scheme_in s)) (omega arith) n root (n ∷ []) (root_cell_lem n s root n names (omega arith)),
        )

    pub root_figured : (U : List ℕ) → U ≡ figures_walked P n s (cells_of s n) T → root_figures places f root U ≡ figures P n
    unfolding total
    root_figured U e =
        let t : n + 0 ≡ n = omega arith in
        ap₂ (λ (m i : ℕ). take (figure_count m) (drop (number_at (figure_count m) i) U)) last cell_of_lem ∙
        ap (λ (l : List ℕ). take (figure_count n) (drop (number_at (figure_count n)
        (cell_at (rows_of (scheme_in s)) n s n root (n ∷ []))) l)) e ∙
        sym (held_front (figure_count n) n (figures_walked P n s (cells_of s n) T) (cell_at (rows_of (scheme_in s)) n s n root (n ∷ []))
        (omega arith)) ∙
        ap (λ m. figures_held (figure_count n) m (figures_walked P n s (cells_of s n) T)
        (cell_at (rows_of (scheme_in s)) n s n root (n ∷ [])))
        (sym t) ∙
        figures_there n n root (n ∷ []) (omega arith) (root_cell_lem n s root n names (omega arith)) (omega arith) (omega arith) ∙
        ap (λ (p : List ℕ). cell_figures P p (n ∷ [])) names.named ∙ root_figures_lem P n
