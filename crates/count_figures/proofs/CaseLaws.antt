-- The cases of a step: the figures that it leaves in place of zeros.
-- Assumes nothing.
use Prim.Native.Nat.{ℕ, zero, suc, ◌+◌, ◌*◌, ◌-◌, ◌≤◌, ◌<◌}
use native.Mathlib.Nat.{zero-add, add-zero}
use native.Mathlib.Omega.{arith}
use mathlib.Core.Path.{◌≡◌, refl, sym, ap, ap₂, ◌∙◌, fun_ext}
use mathlib.Core.Bool.{true, false}
use mathlib.Core.List.{List, [], ◌∷◌, map}
use lib.ListN.{length, get_or, set, take, drop, replicate}
use borrow.Author.Tests.{eq-eqb, ne_eqb}
use Rattle.word.specs.Ceilings.{FIGURES}
use Rattle.word.specs.Lists.{row}
use Rattle.word.specs.Inversions.{figure_count}
use Rattle.cell.specs.Cell.{total, free, merge_values}
use Rattle.forms.specs.GapRows.{gaps_of}
use Rattle.spacing.specs.Flagged.{flagged}
use Rattle.spacing.specs.Rank.{rank_of}
use Rattle.count_step.specs.Feed.{reads_of}
use Rattle.count_step.specs.Step.{capped}
use Rattle.count_step.specs.Sums.{places_of}
use Rattle.count_step.specs.StepLaws.{places_are}
use Rattle.count_plan.specs.Layout.{number_at}
use Rattle.count_figures.specs.Figures.{moved_at, spread_at, spread_over, figures_held}
use Rattle.count_figures.specs.FigureSizeLaws.{count_less}
use Rattle.count_figures.proofs.FigureContentLaws.{held_front}
use Rattle.count_figures.specs.Adding.{Adds}
use Rattle.count_figures.specs.Steps.{numbers_from, FigureTaskFits, figure_step}
use Rattle.count_figures.specs.declared.children.FigureTask.{FigureTask}
use Rattle.count_figures.specs.declared.children.Shape.{Shape}

-- the first n numbers of a list, by their indices from a on
front_is : (h : ℕ → ℕ) (a n : ℕ) (l : List ℕ) → n ≤ length l → ((q : ℕ) → q < n → get_or l q 0 ≡ h (a + q)) → take n l ≡ map h (row a n)
front_is h a zero l size e = refl
front_is h a (suc n) [] size e = absurd (omega arith)
front_is h a (suc n) (x ∷ l) size e =
    ap₂ ◌∷◌ (e 0 (omega arith) ∙ ap h (add-zero a))
    (front_is h (suc a) n l (omega arith) (λ q k. e (suc q) (omega arith) ∙ ap h (let o : a + suc q ≡ suc a + q = omega arith in o)))

zeros_are : (a n : ℕ) → map (λ q. let z : ℕ = 0 in z) (row a n) ≡ replicate n 0
zeros_are a zero = refl
zeros_are a (suc n) = ap (λ (l : List ℕ). 0 ∷ l) (zeros_are (suc a) n)

-- A step at the spacing G, where the figures F are zeros
module _ (w : FigureTask) (fits : FigureTaskFits w) (parts T G : List ℕ) (whole : total G ≡ w.task.total) (F : List ℕ)
    (size : length F ≡ FIGURES) (zeros : (q : ℕ) → get_or F q 0 ≡ 0) where
  abbrev gaps : List (List ℕ)
  gaps = gaps_of parts (w.task.length + 1) w.task.gap_count

  number : w.figures ≡ figure_count (total G)
  number = fits.number ∙ ap figure_count (sym whole)

  long : w.figures ≤ length F
  long = omega (arith, fits.room, fits.few, size)

  held_at : (t i : ℕ) → t ≤ total G → figure_count t ≤ w.numbers →
      take (figure_count t) (drop (number_at w.numbers i) T) ≡ figures_held w.numbers t T i
  held_at t i low h = sym (held_front w.numbers t T i h)

  -- what was added to zeros
  added : (U : List ℕ) (f : ℕ → ℕ) → length U ≡ length F → Adds F U f → take w.figures U ≡
      map (λ q. capped (f q)) (row 0 (figure_count (total G)))
  added U f same a =
      front_is (λ q. capped (f q)) 0 w.figures U (omega (arith, long)) (λ q k.
      a q 0 (zeros q) ∙ ap capped (zero-add (f q)) ∙ ap (λ m. capped (f m)) (sym (zero-add q))) ∙
      ap (λ n. map (λ q. capped (f q)) (row 0 n)) number

  pub case_covered : free gaps G ≡ false → take w.figures F ≡ figure_step w parts T G
  unfolding reads_of
  case_covered e =
      front_is (λ q. let z : ℕ = 0 in z) 0 w.figures F long (λ q k. zeros q) ∙ zeros_are 0 w.figures ∙ rw e
      (ap (λ n. replicate n 0) number)

  pub case_alone : free gaps G ≡ true → w.task.deleted ≡ 0 → total G ≡ 0 →
      take w.figures (set F 0 w.task.alone) ≡ figure_step w parts T G
  unfolding reads_of figure_count
  case_alone e d t =
      let one : w.figures ≡ 1 = number ∙ ap figure_count t in
      rw (e, eq-eqb w.task.deleted 0 d, eq-eqb (total G) 0 t, one) (first F size)
    where
      first : (l : List ℕ) → length l ≡ FIGURES → take 1 (set l 0 w.task.alone) ≡ w.task.alone ∷ []
      first [] h = absurd (omega arith)
      first (x ∷ l) h = refl

  pub case_deletes : (rank : ℕ) → free gaps G ≡ true → (w.task.deleted ≡ 0 → ⊥) →
      rank ≡ rank_of (merge_values (flagged w.task.gone w.task.length) G) → (U : List ℕ) → length U ≡ length F →
      Adds F U (moved_at 0 (take w.figures (drop (w.numbers * (get_or w.task.links 0 0 + rank)) T))) →
      take w.figures U ≡ figure_step w parts T G
  unfolding reads_of spread_at
  case_deletes rank e d r U same a =
      added U (moved_at 0 (take w.figures (drop (w.numbers * (get_or w.task.links 0 0 + rank)) T))) same a ∙
      rw (e, ne_eqb w.task.deleted 0 d)
      (ap (λ (f : ℕ → ℕ). map (λ q. capped (f q)) (row 0 (figure_count (total G)))) (fun_ext (λ q.
      ap (λ (x : List ℕ). moved_at 0 x q) here ∙
      sym (add-zero (moved_at 0 (figures_held w.numbers (total G) T
      (get_or w.task.links 0 0 + rank_of (merge_values (flagged w.task.gone w.task.length) G))) q)))))
    where
      here : take w.figures (drop (w.numbers * (get_or w.task.links 0 0 + rank)) T) ≡
          figures_held w.numbers (total G) T
          (get_or w.task.links 0 0 + rank_of (merge_values (flagged w.task.gone w.task.length) G))
      here =
          ap₂ (λ (n m : ℕ). take n (drop (w.numbers * (get_or w.task.links 0 0 + m)) T)) number r ∙
          held_at (total G) (get_or w.task.links 0 0 + rank_of (merge_values (flagged w.task.gone w.task.length) G)) (omega arith)
          (omega (arith, number, fits.room))

  pub enough_figures : (w.task.total ≡ 0 → ⊥) → w.task.total - 1 ≤ w.figures
  enough_figures some =
      let low : 1 ≤ total G = omega arith in
      omega (arith, number, count_less (total G) low)

  module _ (some : total G ≡ 0 → ⊥) (s : Shape) (numbers : s.numbers ≡ w.numbers)
      (fewer : s.figures ≡ w.figures - (w.task.total - 1)) where
    child_number : s.figures ≡ figure_count (total G - 1)
    child_number =
        let low : 1 ≤ total G = omega arith in
        omega (arith, number, count_less (total G) low)

    pub child_room : total G + s.figures ≤ suc (length F)
    child_room =
        let low : 1 ≤ total G = omega arith in
        omega (arith, number, count_less (total G) low, child_number, long)

    pub case_children : free gaps G ≡ true → w.task.deleted ≡ 0 → (U : List ℕ) → length U ≡ length F →
        Adds F U (spread_at 0 (map (numbers_from s T) (places_of w.task.links G))) →
        take w.figures U ≡ figure_step w parts T G
    unfolding reads_of
    case_children e d U same a =
        added U (spread_at 0 (map (numbers_from s T) (places_of w.task.links G))) same a ∙
        rw (e, eq-eqb w.task.deleted 0 d, ne_eqb (total G) 0 some)
        (ap (spread_over (total G)) (ap₂ (λ (h : ℕ → List ℕ) (l : List ℕ). map h l) here (places_are w.task.links G)))
      where
        here : numbers_from s T ≡ figures_held w.numbers (total G - 1) T
        here = fun_ext (λ (i : ℕ).
            ap₂ (λ (n m : ℕ). take n (drop (number_at m i) T)) child_number numbers ∙
            held_at (total G - 1) i (omega arith)
            (let low : 1 ≤ total G = omega arith in omega (arith, number, fits.room, count_less (total G) low)))
