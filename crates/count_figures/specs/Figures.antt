-- The figures of a cell, what they are made from, and how a table holds them. Definitions only.
-- A cell of the table is as many numbers as the largest length has figures. They are indexed by the
-- inversions of the entries behind the prefix alone: a deletion leaves those entries as they are.
use Rattle.std.specs.Prelude.{ℕ, suc, ◌+◌, ◌-◌, ◌≤◌, ◌≡◌, cond, List, [], ◌∷◌, map, length, get_or, take, drop, replicate, leb}
use Rattle.word.specs.Lists.{keep, row}
use Rattle.word.specs.Word.{avoids, perms}
use Rattle.word.specs.Inversions.{figure_count, tally}
use Rattle.cell.specs.Cell.{total}
use Rattle.cell.specs.Built.{built}
use Rattle.forms.specs.SchemeMemory.{scheme_in}
use Rattle.forms.specs.declared.memory.Scheme.{Scheme}
use Rattle.text_page.specs.Page.{overlay}
use Rattle.count_step.specs.Feed.{Feed, covered, alone, target, children}
use Rattle.count_step.specs.Step.{capped}
use Rattle.count_plan.specs.Layout.{rows_of, number_at}
use Rattle.count_walk.specs.Content.{Content}
use Rattle.count_walk.specs.Cells.{TableCell}
use Rattle.count_walk.specs.Walk.{Makes, walked}

-- the members of the cell (p; g), each by its rest, by their number of inversions behind the prefix
unfoldable pub cell_figures : List (List ℕ) → List ℕ → List ℕ → List ℕ
unfolding tally avoids built total perms
cell_figures P p g = tally (total g) (keep (λ σ. avoids P (built p g σ)) (perms (total g)))

-- what figures x that are moved up by d add to the figure for q inversions
abbrev pub moved_at : ℕ → List ℕ → ℕ → ℕ
moved_at d x q = cond (leb d q) (get_or x (q - d) 0) 0

-- what the figures of next entries add to it: a member whose next entry is the s-th unused value
-- has s - 1 smaller entries behind it, so those of the first are moved up by d, those of the second
-- by one more, and so on
unfoldable pub spread_at : ℕ → List (List ℕ) → ℕ → ℕ
spread_at d [] q = 0
spread_at d (x ∷ l) q = moved_at d x q + spread_at (suc d) l q

-- the figures that they add up to where the spacing has the total t
abbrev pub spread_over : ℕ → List (List ℕ) → List ℕ
spread_over t l = map (λ q. capped (spread_at 0 l q)) (row 0 (figure_count t))

-- The figures of a cell whose spacing has the total t, from those of the cells that feed it; `one`
-- is its only figure where no entry follows the prefix.
abbrev pub added_figures : ℕ → ℕ → Feed (List ℕ) → List ℕ
added_figures t one covered = replicate (figure_count t) 0
added_figures t one alone = one ∷ []
added_figures t one (target x) = spread_over t (x ∷ [])
added_figures t one (children l) = spread_over t l

abbrev pub figures_makes : List (List ℕ) → Makes (List ℕ)
figures_makes P e g fed = added_figures (total g) (cond (avoids P e.prefix) 1 0) fed

-- the figures that stand at the front of a cell, those of the total t, where a cell is m numbers
abbrev pub figures_held : ℕ → ℕ → List ℕ → ℕ → List ℕ
figures_held m t T i = take (figure_count t) (take m (drop (number_at m i) T))

-- the table with other figures in a cell
abbrev pub put_figures : ℕ → List ℕ → ℕ → List ℕ → List ℕ
put_figures m T i x = overlay (number_at m i) (take m x) T

-- counting by inversions: m numbers a cell, of which the figures of its total are used
abbrev pub several : ℕ → Content (List ℕ)
several m =
    record {
      numbers = m;
      fits = λ t x. (length x ≡ figure_count t) × (figure_count t ≤ m);
      holds = figures_held m;
      put = put_figures m;
    }

-- the table after the steps at the cells, in the layout of n
abbrev pub figures_walked : List (List ℕ) → ℕ → Scheme → List TableCell → List ℕ → List ℕ
figures_walked P n s cells T = walked (several (figure_count n)) (figures_makes P) (rows_of (scheme_in s)) n s cells T
