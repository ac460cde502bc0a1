-- Laws of the cells that hold figures: putting figures into a cell changes its numbers and no
-- other, and a cell holds its figures at its front.
use Rattle.std.specs.Prelude.{ℕ, ◌+◌, ◌≤◌, ◌<◌, ◌≡◌, ◌⊎◌, List, ◌++◌, length, get_or, take, drop}
use Rattle.std.proofs.Common.{arith, sym, ap, ◌∙◌, inl, inr, length-take, length-drop, take_all, take-take, take_at, drop_at, get_or-take}
use Rattle.std.proofs.Common.{get_or-drop, length-take-le, ext_get_or}
use Rattle.word.specs.Inversions.{figure_count}
use Rattle.word.specs.ListLaws.{below_or_not}
use Rattle.text_page.specs.Page.{overlay}
use Rattle.text_page.specs.PageLaws.{overlay_length, overlay_whole, overlay_other}
use Rattle.count_plan.specs.Layout.{number_at}
use Rattle.count_plan.specs.ApartLaws.{numbers_apart}
use Rattle.count_walk.specs.Content.{Sound}
use Rattle.count_figures.specs.Figures.{figures_held, several}

-- numbers written over a list change no part that lies before or behind them
part_other : (m at b : ℕ) (xs t : List ℕ) → (b + m ≤ at) ⊎ (at + length xs ≤ b) →
    take m (drop b (overlay at xs t)) ≡ take m (drop b t)
part_other m at b xs t h = ext_get_or 0 (take m (drop b (overlay at xs t))) (take m (drop b t)) size same
  where
    size : length (take m (drop b (overlay at xs t))) ≡ length (take m (drop b t))
    size = simp (length-take, length-drop, overlay_length)

    apart : (k : ℕ) → k < m → (b + m ≤ at) ⊎ (at + length xs ≤ b) → (b + k < at) ⊎ (at + length xs ≤ b + k)
    apart k l (inl o) = inl (omega arith)
    apart k l (inr o) = inr (omega arith)

    same : (k : ℕ) → k < length (take m (drop b (overlay at xs t))) →
        get_or (take m (drop b (overlay at xs t))) k 0 ≡ get_or (take m (drop b t)) k 0
    same k l =
        let low : k < m = omega (arith, length-take m (drop b (overlay at xs t))) in
        get_or-take m (drop b (overlay at xs t)) k 0 low ∙ get_or-drop b (overlay at xs t) k 0 ∙
        overlay_other at xs t (b + k) (apart k low h) ∙ sym (get_or-take m (drop b t) k 0 low ∙ get_or-drop b t k 0)

-- where a cell is at least as many numbers, its figures are the first numbers of it
pub held_front : (m t : ℕ) (T : List ℕ) (i : ℕ) → figure_count t ≤ m → figures_held m t T i ≡ take (figure_count t) (drop (number_at m i) T)
held_front m t T i h = take-take (figure_count t) m (drop (number_at m i) T) h

-- m numbers a cell
pub several_sound : (m : ℕ) → Sound (several m)
several_sound m =
    record {
      size = λ T i x. overlay_length (number_at m i) (take m x) T;
      same = same;
      other = λ t T i j x ne.
          ap (take (figure_count t)) (part_other m (number_at m i) (number_at m j) (take m x) T
          (apart i j x ne (below_or_not j i) (below_or_not i j)));
      kept = λ T i x k o. overlay_other (number_at m i) (take m x) T k (outside i x k o);
    }
  where
    few : (x : List ℕ) → length (take m x) ≤ m
    few x = omega (arith, length-take m x)

    outside : (i : ℕ) (x : List ℕ) (k : ℕ) → (k < number_at m i) ⊎ (number_at m i + m ≤ k) →
        (k < number_at m i) ⊎ (number_at m i + length (take m x) ≤ k)
    outside i x k (inl h) = inl h
    outside i x k (inr h) = inr (omega (arith, few x))

    apart : (i j : ℕ) (x : List ℕ) → (j ≡ i → ⊥) → (j < i) ⊎ (i ≤ j) → (i < j) ⊎ (j ≤ i) →
        (number_at m j + m ≤ number_at m i) ⊎ (number_at m i + length (take m x) ≤ number_at m j)
    apart i j x ne (inl h) k = inl (numbers_apart m j i h)
    apart i j x ne (inr h) (inl k) = inr (omega (arith, few x, numbers_apart m i j k))
    apart i j x ne (inr h) (inr k) = absurd (ne (omega arith))

    same : (t : ℕ) (T : List ℕ) (i : ℕ) (x : List ℕ) → (length x ≡ figure_count t) × (figure_count t ≤ m) →
        number_at m i + m ≤ length T → figures_held m t (overlay (number_at m i) (take m x) T) i ≡ x
    same t T i x (size, most) room =
        let written : overlay (number_at m i) (take m x) T ≡ take (number_at m i) T ++ (x ++ drop (number_at m i + length x) T) =
        ap (λ (l : List ℕ). overlay (number_at m i) l T) (take_all m x (omega arith)) ∙ overlay_whole (number_at m i) x T (omega arith) in
        held_front m t (overlay (number_at m i) (take m x) T) i most ∙
        ap (take (figure_count t)) (ap (drop (number_at m i)) written ∙
        drop_at (take (number_at m i) T) (x ++ drop (number_at m i + length x) T) (number_at m i)
        (length-take-le (number_at m i) T (omega arith))) ∙
        take_at x (drop (number_at m i + length x) T) (figure_count t) size
