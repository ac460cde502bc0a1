-- How many cells there are: the sum of C(j, k) over all entries and all rows.
use Prim.Native.Nat.{ℕ, zero, suc, ◌+◌, ◌-◌, ◌≤◌, ◌<◌}
use native.Mathlib.Omega.{arith}
use Rattle.std.specs.Prelude.{◌≡◌, ◌⊎◌, Bool, eqb, ltb}
use Rattle.std.proofs.Math.Path.{refl, sym, ap, ap₂, fun_ext}
use Rattle.std.proofs.Common.{◌∙◌, inl, inr}
use Rattle.std.proofs.Math.Bool.{true, false, cond}
use mathlib.Core.List.{List, [], ◌∷◌, map, map-map, Memᴰ}
use Rattle.std.proofs.Math.ListN.{length, length-append}
use Rattle.std.proofs.lemmas.List.{length-map}
use borrow.Author.Tests.{eq-eqb, ne_eqb, lt-ltb, le-ltb}
use Rattle.word.specs.Ceilings.{PREFIX}
use Rattle.word.specs.Lists.{row}
use Rattle.word.specs.ListLaws.{below_or_not, same_or_not, map_same, row_out}
use Rattle.cell.specs.Cell.{total}
use Rattle.cell.specs.Binomial.{binomial}
use Rattle.cell.proofs.EachLaws.{length_each_total}
use Rattle.spacing.specs.Following.{first_vector}
use Rattle.forms.specs.SchemeList.{EntryList}
use Rattle.forms.specs.SchemeMemory.{scheme_in}
use Rattle.forms.specs.declared.memory.Scheme.{Scheme}
use Rattle.scheme.specs.Proper.{Proper}
use Rattle.count_step.specs.Step.{spacings_from}
use Rattle.count_plan.specs.Layout.{entry_at, length_at}
use Rattle.count_plan.specs.LayoutLaws.{prefix_length, entry_short}
use Rattle.count_walk.specs.Cells.{entry_cells, cells_if, length_cells, shorter_cells, row_cells, rows_from, cells_of}
use Rattle.count_walk.proofs.CellLaws.{spacings_length}

-- sums of two functions, and of zeros
total_both : (f h : ℕ → ℕ) (l : List ℕ) → total (map f l) + total (map h l) ≡ total (map (λ x. f x + h x) l)
unfolding total
total_both f h [] = refl
total_both f h (x ∷ l) = omega (arith, total_both f h l)

total_none : (l : List ℕ) → total (map (λ x. 0) l) ≡ 0
unfolding total
total_none [] = refl
total_none (x ∷ l) = omega (arith, total_none l)

module _ (s : Scheme) (j : ℕ) where
  abbrev cells : ℕ → ℕ
  cells d = binomial j (length_at s d)

  entry_number : (d : ℕ) → length (entry_cells s j d) ≡ cells d
  entry_number d =
      length-map (spacings_from (cells d) (first_vector (length_at s d) (j - length_at s d)))
      (λ (g : List ℕ). record { row = j; entry = d; spacing = g }) ∙
      spacings_length (cells d) (first_vector (length_at s d) (j - length_at s d))

  length_number : (k : ℕ) → length (length_cells s j k 0) ≡ total (map (λ d. cond (eqb (length_at s d) k) (cells d) 0) (row 0 s.count))
  unfolding length_cells
  length_number k =
      let z : s.count - 0 ≡ s.count = omega arith in
      rw z (length_each_total (cells_if s j k) (row 0 s.count) ∙
      ap (λ (f : ℕ → ℕ). total (map f (row 0 s.count))) (fun_ext (λ d. go d (eqb (length_at s d) k))))
    where
      go : (d : ℕ) (b : Bool) → length (cond b (entry_cells s j d) []) ≡ cond b (cells d) 0
      go d true = entry_number d
      go d false = refl

  shorter_number : (k : ℕ) → length (shorter_cells s j k) ≡ total (map (λ d. cond (ltb (length_at s d) k) (cells d) 0) (row 0 s.count))
  unfolding shorter_cells
  shorter_number zero =
      sym (ap (λ (f : ℕ → ℕ). total (map f (row 0 s.count)))
      (fun_ext (λ d. ap (λ b. cond b (cells d) 0) (le-ltb (length_at s d) 0 (omega arith)))) ∙ total_none (row 0 s.count))
  shorter_number (suc k) =
      length-append (length_cells s j k 0) (shorter_cells s j k) ∙ ap₂ ◌+◌ (length_number k) (shorter_number k) ∙
      total_both (λ d. cond (eqb (length_at s d) k) (cells d) 0) (λ d. cond (ltb (length_at s d) k) (cells d) 0) (row 0 s.count) ∙
      ap (λ (f : ℕ → ℕ). total (map f (row 0 s.count))) (fun_ext (λ d. go (length_at s d) (cells d) (below_or_not (length_at s d) k)
      (same_or_not (length_at s d) k)))
    where
      go : (l b : ℕ) → (l < k) ⊎ (k ≤ l) → (l ≡ k) ⊎ (l ≡ k → ⊥) → cond (eqb l k) b 0 + cond (ltb l k) b 0 ≡ cond (ltb l (suc k)) b 0
      go l b (inl h) (inl e) = absurd (omega arith)
      go l b (inl h) (inr ne) = rw (ne_eqb l k ne, lt-ltb l k h, lt-ltb l (suc k) (omega arith)) (omega arith)
      go l b (inr h) (inl e) = rw (eq-eqb l k e, le-ltb l k h, lt-ltb l (suc k) (omega arith)) (omega arith)
      go l b (inr h) (inr ne) = rw (ne_eqb l k ne, le-ltb l k h, le-ltb l (suc k) (omega arith)) (omega arith)

  row_number : Proper (scheme_in s) → length (row_cells s j) ≡ total (map (λ e. binomial j (length e.prefix)) (scheme_in s))
  row_number proper =
      shorter_number (suc PREFIX) ∙
      ap total (map_same (λ d. cond (ltb (length_at s d) (suc PREFIX)) (cells d) 0) (λ d. binomial j (length (entry_at s d).prefix))
      (row 0 s.count) short) ∙
      ap total (sym (map-map (λ (e : EntryList). binomial j (length e.prefix)) (entry_at s) (row 0 s.count)))
    where
      short : (d : ℕ) → Memᴰ d (row 0 s.count) → cond (ltb (length_at s d) (suc PREFIX)) (cells d) 0 ≡
          binomial j (length (entry_at s d).prefix)
      short d m =
          let (low, high) = row_out 0 s.count m in
          ap (λ b. cond b (cells d) 0) (lt-ltb (length_at s d) (suc PREFIX) (omega (arith, entry_short s proper d (omega arith)))) ∙
          ap (binomial j) (sym (prefix_length s d))

-- "the sum of C(j, k) over all entries and all j from 0 to n"
pub cells_number : (s : Scheme) (n : ℕ) → Proper (scheme_in s) →
    length (cells_of s n) ≡ total (map (λ j. total (map (λ e. binomial j (length e.prefix)) (scheme_in s))) (row 0 (suc n)))
unfolding rows_from
cells_number s n proper =
    length_each_total (row_cells s) (row 0 (suc n)) ∙
    ap (λ (f : ℕ → ℕ). total (map f (row 0 (suc n)))) (fun_ext (λ j. row_number s j proper))
