-- What an entry is given in a row: links counted from a place in the table, its task, and that its
-- steps are a part of the walk.
-- Assumes nothing.
use Prim.Native.Nat.{ℕ, zero, suc, ◌+◌, ◌*◌, ◌-◌, ◌%◌, ◌≤◌, ◌<◌}
use native.Mathlib.Nat.{mod-lt, mul-le-mul_right}
use native.Mathlib.Omega.{arith}
use mathlib.Core.Path.{◌≡◌, refl, sym, ap, ap₂, ◌∙◌, subst}
use mathlib.Core.Bool.{cond}
use mathlib.Core.List.Memᴰ
use mathlib.Core.List.{List, [], ◌∷◌, map, Memᴰ}
use lib.ListN.{length, get_or, set, length-map}
use lib.Seq.{ext_get_or}
use Rattle.word.specs.Ceilings.{ENTRIES, PREFIX, COMPONENTS, GAPS, PARTS, LINKS}
use Rattle.word.specs.Word.{avoids}
use Rattle.cell.proofs.BuiltLaws.{get_d_map}
use Rattle.cell.specs.Binomial.{binomial}
use Rattle.spacing.specs.Sizes.{NEAR, BLOCKS, FAR}
use Rattle.spacing.specs.Following.{first_vector}
use Rattle.spacing.specs.SpacingOrder.{first_length, first_total}
use Rattle.forms.specs.SchemeList.{Does, expands, deletes}
use Rattle.forms.specs.SchemeMemory.{scheme_in}
use Rattle.count_step.specs.Feed.{Feed, covered, target, map_feed, CellOf, feed_of}
use Rattle.count_step.specs.Task.{TaskFits, TaskGaps, task_reads, task_step}
use Rattle.count_step.specs.Step.{spacings_from, stored_at}
use Rattle.count_step.specs.declared.cells.Task.{Task}
use Rattle.count_plan.specs.Layout.{entry_at, prefix_at, length_at, place_at, rows_of, block_of, HasCell}
use Rattle.count_plan.specs.LayoutLaws.{prefix_length, count_few, entry_short, place_small, rows_few}
use Rattle.count_plan.specs.Plan.{Planned}
use Rattle.count_plan.specs.SheetRows.{field_of, link_at, links_at, item_of, parts_at, RuleRow}
use Rattle.count_plan.proofs.SheetRowLaws.{link_at_lem, parts_long, sheet_plan}
use Rattle.count_walk.specs.Content.{Content, single}
use Rattle.count_walk.specs.Cells.{entry_cells}
use Rattle.count_walk.proofs.CellLaws.{spacings_out}
use Rattle.count_walk.specs.Walk.{place_of, Makes, step_at, walked, count_makes, count_walked}
use Rattle.count_walk.proofs.ReadLaws.{step_reads, made_alone, step_is, stored_walked}
use Rattle.count_cursor.specs.Cursor.{Listed, spacing_of, cell_of, AtCell, CursorGiven}
use Rattle.count_cursor.specs.declared.cursor.Cursor.{Cursor}
use Rattle.count_entry.specs.Frames.{FrameFits, Framed, CellGiven, begins_at, offset_of, task_at, WorkFor}
use Rattle.count_entry.specs.declared.entry.Work.{Work}
use Rattle.count_entry.specs.declared.frame.Frame.{Frame}

-- The links

-- the links that were counted from the place are all of them
pub links_counted : (sheet places : List ℕ) (e offset : ℕ) (from : List ℕ) → length from ≡ LINKS →
    ((a : ℕ) → a < LINKS → get_or from a 0 ≡ offset + link_at sheet places e a) → from ≡ map (λ x. offset + x) (links_at sheet places e)
links_counted sheet places e offset from long at =
    ext_get_or 0 from (map (λ x. offset + x) (links_at sheet places e))
    (long ∙ sym (length-map (links_at sheet places e) (λ x. offset + x)))
    (λ (a : ℕ) (h : a < length from).
    let l : a < LINKS = omega arith in
    at a l ∙ ap (λ n. offset + n) (sym (link_at_lem sheet places e a l)) ∙ sym (get_d_map (λ x. offset + x) (links_at sheet places e) a l))

shifted_near : (offset : ℕ) (links : List ℕ) → offset ≤ BLOCKS → ((a : ℕ) → get_or links a 0 ≤ NEAR) →
    (a : ℕ) → get_or (map (λ x. offset + x) links) a 0 ≤ FAR
shifted_near offset links h n a = go links a (λ (i : ℕ). n i)
  where
    go : (l : List ℕ) (a : ℕ) → ((i : ℕ) → get_or l i 0 ≤ NEAR) → get_or (map (λ x. offset + x) l) a 0 ≤ FAR
    go [] a n = omega arith
    go (x ∷ l) zero n = omega (arith, n 0)
    go (x ∷ l) (suc a) n = go l a (λ (i : ℕ). n (suc i))

-- The blocks

-- a block begins behind at most PREFIX others
pub block_small : (f : Frame) → FrameFits f → (x : ℕ) → x % f.rows * f.width ≤ BLOCKS
block_small f h x =
    let high : x % f.rows ≤ PREFIX = omega (arith, mod-lt x {m = f.rows} h.some, h.few) in
    omega (arith, mul-le-mul_right {m = x % f.rows} {n = PREFIX} f.width high, h.near)

-- all blocks together
pub blocks_small : (f : Frame) → FrameFits f → f.rows * f.width ≤ FAR
blocks_small f h = omega (arith, mul-le-mul_right {m = f.rows} {n = COMPONENTS} f.width h.few, h.near)

module _ (sheet places : List ℕ) (f : Frame) (o : Framed sheet places f) where
  pub framed_fits : FrameFits f
  framed_fits =
      record {
        some = omega (arith, o.rows_are);
        few = omega (arith, o.rows_are, rows_few o.of.s o.of.proper);
        near = omega (
          arith,
          o.width_is,
          place_small f.last o.of.s o.of.s.count o.small,
          count_few o.of.s
              o.of.proper,
        );
      }

  pub block_is : (x : ℕ) → x % f.rows * f.width ≡ block_of (rows_of (scheme_in o.of.s)) f.last o.of.s x
  block_is x = ap₂ (λ r w. x % r * w) o.rows_are o.width_is

  -- what the sheet says of an entry
  pub planned : (e : ℕ) → e < o.of.s.count → Planned f.last o.of.P o.of.s e (item_of sheet places e)
  planned e h = sheet_plan f.last sheet places o.of o.placed e h

-- What the cursor's moves and the steps at it are given, at a cell of a row that the table has
module _ (sheet places : List ℕ) (f : Frame) (o : Framed sheet places f) where
  abbrev pub listed : Listed sheet f.entries
  listed = record { of = o.of; counted = o.counted }

  abbrev pub cell_given : (c : Cursor) → AtCell o.of.s c → c.row ≤ f.last → CellGiven sheet places f c
  cell_given c at low = record { framed = o; at = at; low = low }

  abbrev pub cursor_given : (c : Cursor) → AtCell o.of.s c → c.row ≤ f.last → CursorGiven sheet f.entries c
  cursor_given c at low = record { listed = listed; at = at; low = omega (arith, o.small) }

-- An entry at the cursor

module _ (sheet places : List ℕ) (f : Frame) (c : Cursor) (q : CellGiven sheet places f c) where
  inside : c.entry < q.framed.of.s.count
  inside = q.at.cell.inside

  pub index_small : c.entry < ENTRIES
  index_small = omega (arith, inside, count_few q.framed.of.s q.framed.of.proper)

  pub size : field_of sheet c.entry 0 ≡ length_at q.framed.of.s c.entry
  size = (q.framed.of.rows c.entry inside).size

  pub few : field_of sheet c.entry 3 ≤ GAPS
  few = (q.framed.of.rows c.entry inside).few

  pub reach : field_of sheet c.entry 0 ≤ c.row
  reach = omega (arith, size, q.at.cell.whole)

  pub links_near : (a : ℕ) → get_or (links_at sheet places c.entry) a 0 ≤ NEAR
  links_near = (planned sheet places f q.framed c.entry inside).near

  deleted_high : field_of sheet c.entry 1 ≤ length_at q.framed.of.s c.entry
  deleted_high = go (entry_at q.framed.of.s c.entry).rule (q.framed.of.rows c.entry inside).rule
    where
      go : (rule : Does) → RuleRow q.framed.of.P q.framed.of.s (prefix_at q.framed.of.s c.entry) rule sheet c.entry →
          field_of sheet c.entry 1 ≤ length_at q.framed.of.s c.entry
      go expands (none, alone, short, names) = omega arith
      go (deletes R) (number, low, high, same, names) = omega (arith, prefix_length q.framed.of.s c.entry)

  -- an entry has no cells in rows that are shorter than its set of positions
  pub back_low : field_of sheet c.entry 1 ≤ c.row
  back_low = omega (arith, deleted_high, size, reach)

  pub task_fits : TaskFits (task_at sheet places f c)
  task_fits =
      record {
        short = omega (arith, size, entry_short q.framed.of.s q.framed.of.proper c.entry inside);
        sum = omega (arith, reach, q.low, q.framed.small);
        near = shifted_near (offset_of f (item_of sheet places c.entry) c.row) (links_at sheet places c.entry)
            (block_small f (framed_fits sheet places f q.framed) (c.row - field_of sheet c.entry 1)) links_near;
      }

  -- the row in which the links of the entry stand
  offset_there : offset_of f (item_of sheet places c.entry) c.row ≡
      block_of (rows_of (scheme_in q.framed.of.s)) f.last q.framed.of.s (c.row - field_of sheet c.entry 1)
  offset_there = block_is sheet places f q.framed (c.row - field_of sheet c.entry 1)

  -- where the cells of the entry begin
  begins : (at : ℕ) → at ≡ begins_at places f c →
      at ≡ block_of (rows_of (scheme_in q.framed.of.s)) f.last q.framed.of.s c.row +
      place_at f.last q.framed.of.s c.entry
  begins at e =
      e ∙ ap₂ ◌+◌ (block_is sheet places f q.framed c.row) (q.framed.placed.at c.entry (omega (arith, inside)))

  -- a spacing of the entry in this row
  abbrev Here : List ℕ → Type 0
  Here g = HasCell f.last q.framed.of.s c.row c.entry g

  -- Whatever the cells hold: steps of the entry in this row that are the walk's at their cells
  module _ {A : Type 0} (C : Content A) (make : Makes A) (step : List ℕ → List ℕ → A)
      (steps : (g : List ℕ) → Here g → (T : List ℕ) → step T g ≡ step_at C make (rows_of (scheme_in q.framed.of.s)) f.last
      q.framed.of.s (record { row = c.row; entry = c.entry; spacing = g }) T) (T : List ℕ) where
    -- all cells of the entry
    pub entry_stored : (at n k t : ℕ) → at ≡ begins_at places f c → n ≡ binomial c.row k → k ≡ field_of sheet c.entry 0 →
        t ≡ c.row - field_of sheet c.entry 0 →
        stored_at C.put step at (spacings_from n (first_vector k t)) T ≡
        walked C make (rows_of (scheme_in q.framed.of.s)) f.last q.framed.of.s
        (entry_cells q.framed.of.s c.row c.entry) T
    entry_stored at n k t begin number k_is t-is =
        let kk : k ≡ length_at q.framed.of.s c.entry = k_is ∙ size in
        let tt : t ≡ c.row - length_at q.framed.of.s c.entry = t-is ∙ ap (λ m. c.row - m) size in
        ap (λ (gs : List (List ℕ)). stored_at C.put step at gs T)
        (ap₂ (λ (m : ℕ) (g : List ℕ). spacings_from m g) (number ∙ ap (binomial c.row) kk) (ap₂ first_vector kk tt)) ∙
        stored_walked C make (rows_of (scheme_in q.framed.of.s)) f.last q.framed.of.s c.row c.entry step at
        (begins at begin)
        (spacings_from (binomial c.row (length_at q.framed.of.s c.entry))
        (first_vector (length_at q.framed.of.s c.entry) (c.row - length_at q.framed.of.s c.entry)))
        (λ g m. steps g (has g m)) T
      where
        has : (g : List ℕ) → Memᴰ g (spacings_from (binomial c.row (length_at q.framed.of.s c.entry))
            (first_vector (length_at q.framed.of.s c.entry) (c.row - length_at q.framed.of.s c.entry))) → Here g
        has g m =
            let (a, b) = spacings_out (binomial c.row (length_at q.framed.of.s c.entry))
            (first_vector (length_at q.framed.of.s c.entry) (c.row - length_at q.framed.of.s c.entry)) m in
            record {
              inside = inside;
              wide = a ∙ first_length (length_at q.framed.of.s c.entry) (c.row - length_at q.framed.of.s c.entry);
              whole = omega (
                arith,
                b,
                first_total (length_at q.framed.of.s c.entry) (c.row - length_at q.framed.of.s c.entry),
                size,
                reach,
              );
              low = q.low;
            }

    -- the cell that the cursor is at
    pub cell_stored : (at : ℕ) → at ≡ begins_at places f c + c.rank →
        C.put T at (step T (spacing_of q.framed.of.s c)) ≡
        walked C make (rows_of (scheme_in q.framed.of.s)) f.last q.framed.of.s (cell_of q.framed.of.s c ∷ []) T
    unfolding stored_at
    cell_stored at begin =
        ap (λ i. C.put T i (step T (spacing_of q.framed.of.s c)))
        (begin ∙ ap (λ r. begins_at places f c + r) (sym q.at.ranked)) ∙
        stored_walked C make (rows_of (scheme_in q.framed.of.s)) f.last q.framed.of.s c.row c.entry step
        (begins_at places f c) (begins (begins_at places f c) refl) (spacing_of q.framed.of.s c ∷ [])
        (λ g m. steps g (subst Here (sym (Memᴰ.eq_of_singleton m))
        (record { inside = inside; wide = q.at.cell.wide; whole = q.at.cell.whole; low = q.low }))) T

  -- the places that a step of the entry reads are those of the cells that feed its cell
  pub task_reads_lem : (g : List ℕ) → Here g →
      task_reads (task_at sheet places f c) (parts_at sheet c.entry) g ≡
      map_feed (place_of (rows_of (scheme_in q.framed.of.s)) f.last q.framed.of.s)
      (feed_of (entry_at q.framed.of.s c.entry) g)
  task_reads_lem g has =
      step_reads (rows_of (scheme_in q.framed.of.s)) f.last q.framed.of.P q.framed.of.s q.framed.of.proper c.entry
      (item_of sheet places c.entry) (planned sheet places f q.framed c.entry inside) c.row
      (offset_of f (item_of sheet places c.entry) c.row) offset_there g has

  -- what the entry has where no entry follows its prefix, whatever is made of it
  pub task_alone : {A B : Type 0} (make : ℕ → Feed A → B) → ((x y : ℕ) → make x covered ≡ make y covered) →
      ((x y : ℕ) (z : A) → make x (target z) ≡ make y (target z)) → (g : List ℕ) → Here g → (h : CellOf → A) →
      make (task_at sheet places f c).alone (map_feed h (feed_of (entry_at q.framed.of.s c.entry) g)) ≡
      make (cond (avoids q.framed.of.P (prefix_at q.framed.of.s c.entry)) 1 0)
      (map_feed h (feed_of (entry_at q.framed.of.s c.entry) g))
  task_alone make none one g has h =
      made_alone (rows_of (scheme_in q.framed.of.s)) f.last q.framed.of.P q.framed.of.s q.framed.of.proper c.entry
      (item_of sheet places c.entry) (planned sheet places f q.framed c.entry inside) c.row
      (offset_of f (item_of sheet places c.entry) c.row) offset_there g has make none one h

  -- a step of counting
  step_walks : (g : List ℕ) → Here g → (T : List ℕ) → task_step (task_at sheet places f c) (parts_at sheet c.entry) T g ≡
      step_at single (count_makes q.framed.of.P) (rows_of (scheme_in q.framed.of.s)) f.last q.framed.of.s
      (record { row = c.row; entry = c.entry; spacing = g }) T
  step_walks g has T =
      step_is (rows_of (scheme_in q.framed.of.s)) f.last q.framed.of.P q.framed.of.s q.framed.of.proper c.entry
      (item_of sheet places c.entry) (planned sheet places f q.framed c.entry inside) c.row
      (offset_of f (item_of sheet places c.entry) c.row) offset_there g has T

  -- What a pass over the cells of the entry is given, and the gap vectors of the entry
  module _ (w : Work) (is : WorkFor sheet places f c w) (parts : List ℕ) (gaps : parts ≡ parts_at sheet c.entry) where
    pub work_fits : TaskFits w.task
    work_fits = subst (λ (t : Task). TaskFits t) (sym is.task) task_fits

    pub work_gaps : TaskGaps w.task parts
    work_gaps =
        let long : length parts ≡ PARTS = ap length gaps ∙ parts_long sheet c.entry index_small q.framed.of.long in
        omega (arith, ap (λ (t : Task). t.gap_count) is.task, few, long)

    pub work_number : w.size ≡ binomial (w.task.length + w.task.total) w.task.length
    work_number =
        let whole : w.task.length + w.task.total ≡ c.row =
        omega (arith, ap (λ (t : Task). t.length) is.task, ap (λ (t : Task). t.total) is.task, reach) in
        is.size ∙ ap (λ n. binomial n w.task.length) (sym whole)

    pub work_low : w.at ≤ FAR
    work_low =
        omega (
          arith,
          is.at,
          block_small f (framed_fits sheet places f q.framed) c.row,
          q.framed.placed.near c.entry,
        )

    -- the length and the total of the entry's spacings
    pub work_length : w.task.length ≡ field_of sheet c.entry 0
    work_length = ap (λ (t : Task). t.length) is.task

    pub work_total : w.task.total ≡ c.row - field_of sheet c.entry 0
    work_total = ap (λ (t : Task). t.total) is.task

    given_walks : (g : List ℕ) → Here g → (U : List ℕ) → task_step w.task parts U g ≡
        step_at single (count_makes q.framed.of.P) (rows_of (scheme_in q.framed.of.s)) f.last q.framed.of.s
        (record { row = c.row; entry = c.entry; spacing = g }) U
    given_walks g has U = ap₂ (λ (u : Task) (l : List ℕ). task_step u l U g) is.task gaps ∙ step_walks g has U

    -- all cells of the entry
    pub entry_walked : (T : List ℕ) →
        stored_at set (task_step w.task parts) w.at (spacings_from w.size (first_vector w.task.length w.task.total)) T ≡
        count_walked q.framed.of.P f.last q.framed.of.s (entry_cells q.framed.of.s c.row c.entry) T
    entry_walked T =
        entry_stored single (count_makes q.framed.of.P) (task_step w.task parts) given_walks T w.at w.size w.task.length
        w.task.total is.at is.size work_length work_total

    -- the cell that the cursor is at
    pub cell_walked : (T : List ℕ) (g : List ℕ) → g ≡ spacing_of q.framed.of.s c →
        set T (w.at + c.rank) (task_step w.task parts T g) ≡
        count_walked q.framed.of.P f.last q.framed.of.s (cell_of q.framed.of.s c ∷ []) T
    cell_walked T g spacing =
        ap (λ (h : List ℕ). set T (w.at + c.rank) (task_step w.task parts T h)) spacing ∙
        cell_stored single (count_makes q.framed.of.P) (task_step w.task parts) given_walks T (w.at + c.rank)
        (ap (λ x. x + c.rank) is.at)
