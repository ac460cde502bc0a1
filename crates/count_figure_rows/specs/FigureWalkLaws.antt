-- A step of counting by inversions is the walk's step at its cell, so steps at the cells of an
-- entry are a part of the walk.
use Rattle.std.specs.Prelude.{ℕ, ◌-◌, ◌≤◌, ◌≡◌, refl, Bool, true, false, cond, eqb}
use Rattle.std.proofs.Common.{arith, sym, ap, ap₂, ◌∙◌}
use mathlib.Core.List.{List, map, map-map, Memᴰ}
use Rattle.word.specs.Ceilings.{REFINED}
use Rattle.word.specs.Lists.{one_to}
use Rattle.word.specs.ListLaws.{map_same, row_out}
use Rattle.word.specs.Inversions.{figure_count}
use Rattle.cell.specs.Cell.{total, free, deleted, merged}
use Rattle.cell.specs.Child.{slot, child_at, split}
use Rattle.cell.proofs.ChildLaws.{split_total}
use Rattle.cell.proofs.MergeLaws.{merged_total}
use Rattle.spacing.specs.Following.{first_vector}
use Rattle.forms.specs.SchemeList.{Does, expands, deletes, EntryList}
use Rattle.forms.specs.SchemeMemory.{scheme_in}
use Rattle.count_step.specs.Feed.{Feed, covered, alone, target, children, map_feed, CellOf, rule_feed, feed_of}
use Rattle.count_step.specs.Step.{spacings_from, stored_at}
use Rattle.count_step.specs.declared.cells.Task.{Task}
use Rattle.count_plan.specs.Layout.{entry_at, rows_of, HasCell}
use Rattle.count_plan.specs.SheetRows.{parts_at}
use Rattle.count_walk.specs.Cells.{entry_cells}
use Rattle.count_walk.specs.Walk.{place_of, step_at}
use Rattle.count_cursor.specs.declared.cursor.Cursor.{Cursor}
use Rattle.count_entry.specs.Frames.{CellGiven, task_at, WorkFor}
use Rattle.count_entry.specs.declared.entry.Work.{Work}
use Rattle.count_entry.specs.declared.frame.Frame.{Frame}
use Rattle.count_entry.proofs.FrameLaws.{entry_stored, task_reads_lem, task_alone, work_fits, work_length, work_total}
use Rattle.count_figures.specs.Figures.{added_figures, figures_makes, figures_held, put_figures, several, figures_walked}
use Rattle.count_figures.specs.FigureSizeLaws.{count_mono, count_most}
use Rattle.count_figures.specs.Steps.{read_figures, figure_step, FigureTaskFits}
use Rattle.count_figure_rows.specs.FigureRows.{figure_task}

-- what is read in the places of the cells that feed a cell is what those cells hold
feed_read : (m : ℕ) (place : CellOf → ℕ) (e : EntryList) (g T : List ℕ) →
    read_figures m (total g) T (map_feed place (feed_of e g)) ≡
    map_feed (λ (h : CellOf). figures_held m (total h.spacing) T (place h)) (feed_of e g)
unfolding feed_of
feed_read m place e g T = go (free e.gaps g) e.rule
  where
    child : ℕ → CellOf
    child q = record { prefix = child_at e.prefix (slot g q); spacing = split g q }

    held : CellOf → List ℕ
    held h = figures_held m (total h.spacing) T (place h)

    less : (q : ℕ) → Memᴰ q (one_to (total g)) → figures_held m (total g - 1) T (place (child q)) ≡ held (child q)
    less q k =
        let (low, high) = row_out 1 (total g) k in
        let t : total g - 1 ≡ total (split g q) = omega (arith, split_total g q low (omega arith)) in
        ap (λ n. figures_held m n T (place (child q))) t

    summed : (b : Bool) → read_figures m (total g) T (map_feed place (cond b alone (children (map child (one_to (total g)))))) ≡
        map_feed held (cond b alone (children (map child (one_to (total g)))))
    summed true = refl
    summed false =
        ap children (map-map (figures_held m (total g - 1) T) place (map child (one_to (total g))) ∙
        map-map (λ (h : CellOf). figures_held m (total g - 1) T (place h)) child (one_to (total g)) ∙
        map_same (λ q. figures_held m (total g - 1) T (place (child q))) (λ q. held (child q)) (one_to (total g)) less ∙
        sym (map-map held child (one_to (total g))))

    go : (b : Bool) (rule : Does) →
        read_figures m (total g) T (map_feed place (cond b (rule_feed e.prefix g rule) covered)) ≡
        map_feed held (cond b (rule_feed e.prefix g rule) covered)
    go false rule = refl
    go true expands = summed (eqb (total g) 0)
    go true (deletes R) =
        ap (λ n. target (figures_held m n T (place (record { prefix = deleted R e.prefix; spacing = merged R e.prefix g }))))
        (sym (merged_total R e.prefix g))

module _ (sheet places : List ℕ) (f : Frame) (c : Cursor) (q : CellGiven sheet places f c) (small : f.last ≤ REFINED) (w : Work)
    (is : WorkFor sheet places f c w) (parts : List ℕ) (gaps : parts ≡ parts_at sheet c.entry) where
  -- the figures of the entry's cells fit into a cell
  pub figures_fit : FigureTaskFits (figure_task w.task f.last)
  figures_fit =
      record {
        fits = work_fits sheet places f c q w is parts gaps;
        number = refl;
        room = count_mono w.task.total f.last (omega (arith, work_total sheet places f c q w is parts gaps, q.low));
        few = count_most f.last small;
      }

  steps_walk : (g : List ℕ) → HasCell f.last q.framed.of.s c.row c.entry g → (T : List ℕ) →
      figure_step (figure_task w.task f.last) parts T g ≡
      step_at (several (figure_count f.last)) (figures_makes q.framed.of.P) (rows_of (scheme_in q.framed.of.s)) f.last
      q.framed.of.s (record { row = c.row; entry = c.entry; spacing = g }) T
  steps_walk g has T =
      let place : CellOf → ℕ = place_of (rows_of (scheme_in q.framed.of.s)) f.last q.framed.of.s in
      ap₂ (λ (t : Task) (l : List ℕ). figure_step (figure_task t f.last) l T g) is.task gaps ∙
      ap (λ (F : Feed ℕ). added_figures (total g) (task_at sheet places f c).alone (read_figures (figure_count f.last) (total g) T F))
      (task_reads_lem sheet places f c q g has) ∙
      ap (added_figures (total g) (task_at sheet places f c).alone)
      (feed_read (figure_count f.last) place (entry_at q.framed.of.s c.entry) g T) ∙
      task_alone sheet places f c q (added_figures (total g)) (λ x y. refl) (λ x y z. refl) g has
      (λ (h : CellOf). figures_held (figure_count f.last) (total h.spacing) T (place h))

  -- all cells of the entry
  pub entry_figured : (T : List ℕ) →
      stored_at (put_figures (figure_count f.last)) (figure_step (figure_task w.task f.last) parts) w.at
      (spacings_from w.size (first_vector w.task.length w.task.total)) T ≡
      figures_walked q.framed.of.P f.last q.framed.of.s (entry_cells q.framed.of.s c.row c.entry) T
  entry_figured T =
      entry_stored sheet places f c q (several (figure_count f.last)) (figures_makes q.framed.of.P)
      (figure_step (figure_task w.task f.last) parts) steps_walk T w.at w.size w.task.length w.task.total is.at
      is.size (work_length sheet places f c q w is parts gaps) (work_total sheet places f c q w is parts gaps)
