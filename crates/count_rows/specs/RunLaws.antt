-- A pass over all rows: the values at ε are the counts of an accepted scheme, and the table
-- afterwards.
use Rattle.std.specs.Prelude.{ℕ, zero, suc, ◌+◌, ◌*◌, ◌≤◌, ◌<◌, ◌≡◌, refl, ◌⊎◌, List, [], ◌∷◌, ◌++◌, length, get_or, set, drop, replicate}
use Rattle.std.proofs.Common.{add-one, arith, sym, ap, ◌∙◌, inl, inr, length-set, length-drop, get_or-set_same, get_or-set_other}
use Rattle.std.proofs.Common.{get_or-drop, drop-cons, ext_get_or}
use Rattle.std.proofs.lemmas.List.{length-replicate, set_at}
use Rattle.word.specs.Ceilings.{LENGTH, COUNTS}
use Rattle.word.specs.ListLaws.{below_or_not, get_or_zeros}
use Rattle.cell.specs.Cell.{total}
use Rattle.forms.specs.SchemeMemory.{scheme_in}
use Rattle.forms.specs.declared.memory.Scheme.{Scheme}
use Rattle.scheme.specs.ProperLaws.{proper}
use Rattle.verdict.specs.Truth.{WellFormed, AllTrue}
use Rattle.verdict.specs.Size.{size}
use Rattle.verdict.specs.Value.{count_of}
use Rattle.verdict.specs.ValueLaws.{count_size}
use Rattle.count_plan.specs.Layout.{length_at, prefix_at, width_of, rows_of, need_of, cell_at, number_at, HasCell}
use Rattle.count_plan.specs.LayoutLaws.{prefix_length, width_sum}
use Rattle.count_plan.specs.SheetRows.{Names}
use Rattle.count_step.specs.Step.{held}
use Rattle.count_walk.specs.Content.{Content, Sound, single}
use Rattle.count_walk.specs.Cells.{cells_of}
use Rattle.count_walk.proofs.CellLaws.{rows_out}
use Rattle.count_walk.specs.Walk.{Makes, walked, count_makes, count_walked}
use Rattle.count_walk.proofs.WalkLaws.{walked_size, walked_kept, row_value}
use Rattle.count_walk.proofs.SolutionLaws.{single_sound, solution_of, sizes_solved}
use Rattle.count_rows.specs.Run.{cleared, root_value, ValuesTo, Counts}

-- the cell of ε in row j
pub root_cell_lem : (n : ℕ) (s : Scheme) (root j : ℕ) → Names s [] root → j ≤ n → HasCell n s j root (j ∷ [])
unfolding total
root_cell_lem n s root j names low =
    let zero_length : length_at s root ≡ 0 = sym (prefix_length s root) ∙ ap length names.named in
    record { inside = names.inside; wide = ap suc (sym zero_length); whole = omega (arith, zero_length); low = low }

-- "every row less than that many back is there": what any cell of a kept row holds is the size of
-- the cell
module _ (P : List (List ℕ)) (s : Scheme) (formed : WellFormed P (scheme_in s)) (truth : AllTrue P (scheme_in s)) (n : ℕ)
    (small : n ≤ LENGTH)
    (T : List ℕ) (room : need_of n (scheme_in s) ≤ length T) where
  pub value_there : (j i d : ℕ) (g : List ℕ) → j ≤ n → HasCell n s i d g → i ≤ j → j < i + rows_of (scheme_in s) →
      held (count_walked P n s (cells_of s j) T) (cell_at (rows_of (scheme_in s)) n s i d g) ≡
      size P (prefix_at s d) g
  value_there j i d g low c here kept =
      row_value single single_sound (count_makes P) (rows_of (scheme_in s)) n s (size P)
      (solution_of (size P) P n s small (sizes_solved P s formed truth)) (proper (scheme_in s) formed.scheme) (omega arith)
      (omega arith) j low T (omega (arith, room, ap (λ w. rows_of (scheme_in s) * w) (width_sum n s))) i d g c here kept

  pub root_count : (root j : ℕ) → Names s [] root → j ≤ n → root_value P n s root T j ≡ count_of P (scheme_in s) j
  root_count root j names low =
      value_there j j root (j ∷ []) low (root_cell_lem n s root j names low) (omega arith) (omega arith) ∙
      ap (λ (p : List ℕ). size P p (j ∷ [])) names.named ∙ sym (count_size P (scheme_in s) formed truth j)

  pub run_counts : (root : ℕ) (values : List ℕ) → Names s [] root → ValuesTo P n s root T (suc n) values → Counts P (scheme_in s) n values
  run_counts root values names v =
      record {
        size = v.size;
        upto = λ (j : ℕ) (h : j ≤ n). v.below j (omega arith) ∙ root_count root j names h;
        above = λ (j : ℕ) (h : n < j). v.rest j (omega arith);
      }

-- The values row by row

module _ (P : List (List ℕ)) (n : ℕ) (s : Scheme) (root : ℕ) (T : List ℕ) where
  pub values_start : ValuesTo P n s root T 0 (replicate COUNTS 0)
  values_start =
      record {
        size = length-replicate {A = ℕ} COUNTS 0;
        below = λ (i : ℕ) (h : i < 0). absurd (omega arith);
        rest = λ (i : ℕ) (h : 0 ≤ i). get_or_zeros COUNTS i;
      }

  pub values_more : (j x : ℕ) (values : List ℕ) → j < COUNTS → x ≡ root_value P n s root T j → ValuesTo P n s root T j values →
      ValuesTo P n s root T (j + 1) (set values j x)
  values_more j x values h e v =
      record {
        size = length-set values j x ∙ v.size;
        below = λ (i : ℕ) (l : i < j + 1). at i l (below_or_not i j);
        rest = λ (i : ℕ) (l : j + 1 ≤ i). get_or-set_other values j i x 0 (λ (q : i ≡ j). omega arith) ∙ v.rest i (omega arith);
      }
    where
      at : (i : ℕ) → i < j + 1 → (i < j) ⊎ (j ≤ i) → get_or (set values j x) i 0 ≡ root_value P n s root T i
      at i l (inl a) = get_or-set_other values j i x 0 (λ (q : i ≡ j). omega arith) ∙ v.below i a
      at i l (inr a) =
          let q : i ≡ j = omega arith in
          ap (λ m. get_or (set values j x) m 0) q ∙ get_or-set_same values j x 0 (omega (arith, v.size)) ∙ e ∙
          ap (root_value P n s root T) (sym q)

-- The table afterwards

zeros_snoc : (i : ℕ) (l : List ℕ) → replicate i 0 ++ (0 ∷ l) ≡ replicate (suc i) 0 ++ l
zeros_snoc zero l = refl
zeros_snoc (suc i) l = ap (λ (m : List ℕ). 0 ∷ m) (zeros_snoc i l)

-- one cell more
pub cleared_more : (i : ℕ) (T₀ T : List ℕ) → i < length T₀ → T ≡ cleared i T₀ → set T i 0 ≡ cleared (i + 1) T₀
cleared_more i T₀ T h e =
    ap (λ (l : List ℕ). set l i 0) (e ∙ ap (λ (l : List ℕ). replicate i 0 ++ l) (drop-cons T₀ i 0 h)) ∙
    set_at (replicate i 0) (get_or T₀ i 0) (drop (suc i) T₀) 0 i (length-replicate {A = ℕ} i 0) ∙ zeros_snoc i (drop (suc i) T₀) ∙
    ap (λ m. replicate m 0 ++ drop m T₀) (sym (add-one i))

-- what lies behind the blocks is untouched by the rows, whatever the cells hold
pub walked_cleared : {A : Type 0} (C : Content A) → Sound C → (make : Makes A) (rows n : ℕ) (s : Scheme) (j m : ℕ) (T : List ℕ) → 0 < rows →
    j ≤ n → m ≡ number_at C.numbers (rows * width_of n s) → cleared m (walked C make rows n s (cells_of s j) T) ≡ cleared m T
walked_cleared C sound make rows n s j m T pos low e =
    ap (λ (l : List ℕ). replicate m 0 ++ l)
    (ext_get_or 0 (drop m (walked C make rows n s (cells_of s j) T)) (drop m T)
    (omega (
      arith,
      length-drop m (walked C make rows n s (cells_of s j) T),
      length-drop m T,
      walked_size C sound make rows n s (cells_of s j) T,
    ))
    (λ (i : ℕ) (h : i < length (drop m (walked C make rows n s (cells_of s j) T))).
    get_or-drop m (walked C make rows n s (cells_of s j) T) i 0 ∙
    walked_kept C sound make rows n s pos (cells_of s j) T
    (λ c k. (rows_out n s 0 (suc j) (omega arith) k).2) (m + i) (omega (arith, e)) ∙
    sym (get_or-drop m T i 0)))
