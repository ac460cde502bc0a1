-- "with no sum overflowing" (demand 3). The step and the plain evaluation add the values at next
-- entries one after the other: each sum that they make is a sum over n next entries from the q-th
-- on. In an accepted scheme it is at most the size of the cell, so at most 20!, and 20! is below 2
-- ^ 64: no sum meets its cap.
use Prim.Native.Nat.{ℕ, zero, suc, ◌+◌, ◌*◌, ◌-◌, ◌≤◌, ◌<◌}
use native.Mathlib.Omega.{arith}
use Rattle.std.specs.Prelude.{◌≡◌, refl, true, length}
use Rattle.std.proofs.Common.{sym, ◌∙◌, subst, ne_eqb, leb-true}
use Rattle.std.proofs.Math.Path.{ap}
use Rattle.std.proofs.Math.Bool.{cond}
use mathlib.Core.List.Memᴰ
use mathlib.Core.List.{List, ◌∷◌, ◌++◌, map, map-append, Memᴰ}
use Rattle.word.specs.Ceilings.{LENGTH}
use Rattle.word.specs.Lists.{row, one_to}
use Rattle.word.specs.ListLaws.{map_same, row_out}
use Rattle.word.specs.Word.{avoids}
use Rattle.word.specs.Vocabulary.{factorial}
use Rattle.cell.specs.Cell.{total, free}
use Rattle.cell.proofs.BuiltCells.{cell_at_most}
use Rattle.cell.specs.Child.{child_at, slot, split}
use Rattle.spacing.specs.TotalLaws.{total_append, row_cut}
use Rattle.forms.specs.SchemeList.{EntryList, expands}
use Rattle.forms.specs.SchemeMemory.{scheme_in}
use Rattle.forms.specs.declared.memory.Scheme.{Scheme}
use Rattle.verdict.specs.Truth.{WellFormed, AllTrue}
use Rattle.verdict.specs.Value.{rule_value, entry_value}
use Rattle.verdict.specs.Size.{size, HIGHEST, VALUES}
use Rattle.verdict.specs.ValueLaws.{at_most, stays_below, factorial_at_most, highest_fits, entry_solves}
use Rattle.scheme.specs.ProperLaws.{proper}
use Rattle.count_step.specs.Step.{LARGEST, capped, held}
use Rattle.count_step.specs.StepLaws.{below_cap}
use Rattle.count_plan.specs.Layout.{entry_at, prefix_at, rows_of, need_of, HasCell}
use Rattle.count_plan.specs.LayoutLaws.{prefix_length, entry_member, width_sum}
use Rattle.count_walk.specs.Content.{single}
use Rattle.count_walk.specs.Cells.{TableCell, cells_of}
use Rattle.count_walk.proofs.CellLaws.{rows_out}
use Rattle.count_walk.specs.Values.{sum_from}
use Rattle.count_walk.specs.Walk.{place_of, count_makes, count_walked}
use Rattle.count_walk.proofs.FeedLaws.{child_fed}
use Rattle.count_walk.proofs.WalkLaws.{fed_value}
use Rattle.count_walk.proofs.SolutionLaws.{single_sound, solution_of, sizes_solved}

-- a sum that is made for the cell at the prefix p and the spacing g
pub record SumFits (P : List (List ℕ)) (p g : List ℕ) (sum : ℕ) : Type 0 where
  pub cell : sum ≤ size P p g
  -- 20!, the number of permutations of the largest length
  pub most : sum ≤ HIGHEST
  pub fits : sum < VALUES
  -- so the sum with the cap is the sum
  pub same : capped sum ≡ sum

-- a sum over some of the numbers from 1 to t in a row is at most the sum over all of them
run_at_most : (f : ℕ → ℕ) (q n t : ℕ) → 1 ≤ q → q + n ≤ suc t → total (map f (row q n)) ≤ total (map f (one_to t))
run_at_most f q n t low high =
    let d : ℕ = q - 1 in
    let r : ℕ = suc t - (q + n) in
    let e : t ≡ d + (n + r) = omega arith in
    let o : 1 + d ≡ q = omega arith in
    let cut : row 1 t ≡ row 1 d ++ (row q n ++ row (q + n) r) =
    ap (row 1) e ∙ row_cut 1 d (n + r) ∙ ap (λ a. row 1 d ++ row a (n + r)) o ∙ ap (λ (l : List ℕ). row 1 d ++ l) (row_cut q n r) in
    let sums : total (map f (row 1 t)) ≡ total (map f (row 1 d)) + (total (map f (row q n)) + total (map f (row (q + n) r))) =
    ap (λ (l : List ℕ). total (map f l)) cut ∙ ap total (map-append f (row 1 d) (row q n ++ row (q + n) r)) ∙
    total_append (map f (row 1 d)) (map f (row q n ++ row (q + n) r)) ∙
    ap (λ m. total (map f (row 1 d)) + m) (ap total (map-append f (row q n) (row (q + n) r)) ∙ total_append
    (map f (row q n)) (map f (row (q + n) r))) in
    omega (arith, sums)

-- what is at most the size of a cell with a total of at most LENGTH
sum_fits : (P : List (List ℕ)) (p g : List ℕ) (sum : ℕ) → total g ≤ LENGTH → sum ≤ size P p g → SumFits P p g sum
unfolding size
sum_fits P p g sum h k =
    let m : sum ≤ HIGHEST =
    at_most sum (size P p g) HIGHEST k (at_most (size P p g) (factorial (total g)) HIGHEST (cell_at_most P p g)
    (factorial_at_most (total g) h)) in
    record {
      cell = k;
      most = m;
      fits = stays_below sum HIGHEST VALUES m highest_fits;
      same = below_cap sum (at_most sum HIGHEST LARGEST m (leb-true HIGHEST LARGEST refl));
    }

-- A sum over next entries of the values of an accepted scheme, as the plain evaluation makes it
module _ (P : List (List ℕ)) (E : List EntryList) (formed : WellFormed P E) (truth : AllTrue P E) (e : EntryList) (m : Memᴰ e E)
    (r : e.rule ≡ expands) (g : List ℕ) (wide : length g ≡ suc (length e.prefix)) (f : free e.gaps g ≡ true) where
  whole_sum : (total g ≡ 0 → ⊥) → size P e.prefix g ≡ sum_from (size P) e.prefix g 1 (total g)
  unfolding entry_value rule_value
  whole_sum n =
      entry_solves P E formed truth e m g wide ∙ ap (λ b. cond b (rule_value (size P) P e.prefix g e.rule) 0) f ∙
      ap (rule_value (size P) P e.prefix g) r ∙
      ap (λ b. cond b (cond (avoids P e.prefix) 1 0) (sum_from (size P) e.prefix g 1 (total g))) (ne_eqb (total g) 0 n)

  pub value_sums_fit : total g ≤ LENGTH → (q n : ℕ) → 1 ≤ q → q + n ≤ suc (total g) →
      SumFits P e.prefix g (sum_from (size P) e.prefix g q n)
  unfolding total
  value_sums_fit h q n low high = sum_fits P e.prefix g (sum_from (size P) e.prefix g q n) h (go (total g) refl)
    where
      go : (t : ℕ) → total g ≡ t → sum_from (size P) e.prefix g q n ≤ size P e.prefix g
      go zero z = let n0 : n ≡ 0 = omega arith in rw n0 (omega arith)
      go (suc t) z =
          omega (
            arith,
            whole_sum (λ (y : total g ≡ 0). omega arith),
            run_at_most (λ s. size P (child_at e.prefix (slot g s)) (split g s)) q n (total g) low high,
          )

-- A sum of what the table holds in the cells of children, as the step makes it: k are the cells
-- that are filled, and c is the cell that comes next
module _ (P : List (List ℕ)) (s : Scheme) (formed : WellFormed P (scheme_in s)) (truth : AllTrue P (scheme_in s)) (n : ℕ)
    (small : n ≤ LENGTH)
    (T : List ℕ) (room : need_of n (scheme_in s) ≤ length T) (k : List TableCell) (c : TableCell) (l : List TableCell)
    (all : k ++ (c ∷ l) ≡ cells_of s n) (rule : (entry_at s c.entry).rule ≡ expands)
    (f : free (entry_at s c.entry).gaps c.spacing ≡ true) where
  pub step_sums_fit : (q m : ℕ) → 1 ≤ q → q + m ≤ suc (total c.spacing) →
      SumFits P (prefix_at s c.entry) c.spacing
      (total (map (λ i. held (count_walked P n s k T) (place_of (rows_of (scheme_in s)) n s
      (record { prefix = child_at (prefix_at s c.entry) (slot c.spacing i); spacing = split c.spacing i }))) (row q m)))
  step_sums_fit q m low high =
      rw sums (value_sums_fit P (scheme_in s) formed truth (entry_at s c.entry) (entry_member s c.entry has.inside) rule c.spacing
      (has.wide ∙ ap suc (sym (prefix_length s c.entry))) f (omega (arith, has.whole, has.low)) q m low high)
    where
      has : HasCell n s c.row c.entry c.spacing
      has = (rows_out n s 0 (suc n) (omega arith) (subst (Memᴰ c) all (Memᴰ.append_right k (Memᴰ.head refl)))).2

      term : (i : ℕ) → Memᴰ i (row q m) →
          held (count_walked P n s k T) (place_of (rows_of (scheme_in s)) n s
          (record { prefix = child_at (prefix_at s c.entry) (slot c.spacing i); spacing = split c.spacing i })) ≡
          size P (child_at (prefix_at s c.entry) (slot c.spacing i)) (split c.spacing i)
      term i h =
          let (a, b) = row_out q m h in
          fed_value single single_sound (count_makes P) (rows_of (scheme_in s)) n s (size P)
          (solution_of (size P) P n s small (sizes_solved P s formed truth)) (proper (scheme_in s) formed.scheme) (omega arith)
          (omega arith)
          k c l all T (omega (arith, room, ap (λ w. rows_of (scheme_in s) * w) (width_sum n s)))
          (record { prefix = child_at (prefix_at s c.entry) (slot c.spacing i); spacing = split c.spacing i })
          (child_fed (entry_at s c.entry) c.spacing rule f i (omega arith) (omega arith))

      sums : total (map (λ i. held (count_walked P n s k T) (place_of (rows_of (scheme_in s)) n s
          (record { prefix = child_at (prefix_at s c.entry) (slot c.spacing i); spacing = split c.spacing i }))) (row q m)) ≡
          sum_from (size P) (prefix_at s c.entry) c.spacing q m
      sums = ap total (map_same _ (λ i. size P (child_at (prefix_at s c.entry) (slot c.spacing i)) (split c.spacing i))
          (row q m) term)
