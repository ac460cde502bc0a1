-- Cells are apart: in a table that keeps `rows` rows, two cells of rows that are less than that
-- many apart stand at one place only if they are the same, whatever the numbers a cell.
use Rattle.std.specs.Prelude.{ℕ, suc, ◌+◌, ◌*◌, ◌%◌, ◌/◌, ◌≤◌, ◌<◌, ◌≡◌, ◌⊎◌, List, length}
use Rattle.std.proofs.Math.Nat.{div-add-mod}
use Rattle.std.proofs.Common.{mul-le-mul_left, mul-le-mul_right, mul-suc, suc-mul, mod-lt, arith, sym, ap, ◌∙◌, inl, inr}
use Rattle.word.specs.ListLaws.{below_or_not}
use Rattle.cell.specs.Cell.{total}
use Rattle.cell.specs.Binomial.{binomial}
use Rattle.spacing.specs.Rank.{rank_of}
use Rattle.spacing.specs.RankLaws.{rank_bound, rank_injective, binomial_mono}
use Rattle.forms.specs.declared.memory.Scheme.{Scheme}
use Rattle.count_plan.specs.Layout.{length_at, place_at, width_of, block_of, cell_at, number_at, HasCell}
use Rattle.count_plan.specs.LayoutLaws.{place_apart}

-- Two numbers with the same quotient by steps of w

quotient_below : (w a b x y : ℕ) → y < w → b < a → a * w + x ≡ b * w + y → ⊥
quotient_below w a b x y h l e = omega (arith, suc-mul b w, mul-le-mul_right {m = suc b} {n = a} w (omega arith))

quotients_same : (w a b x y : ℕ) → x < w → y < w → a * w + x ≡ b * w + y → a ≡ b
quotients_same w a b x y h k e = go (below_or_not a b) (below_or_not b a)
  where
    go : (a < b) ⊎ (b ≤ a) → (b < a) ⊎ (a ≤ b) → a ≡ b
    go (inl l) q = absurd (quotient_below w b a y x h l (sym e))
    go (inr l) (inl m) = absurd (quotient_below w a b x y k m e)
    go (inr l) (inr m) = omega arith

-- rows less than `rows` apart with the same block are the same row
rows_same : (rows i j : ℕ) → 0 < rows → i ≤ j → j < i + rows → i % rows ≡ j % rows → i ≡ j
rows_same rows i j pos low high e = go (below_or_not (i / rows) (j / rows))
  where
    di : rows * (i / rows) + i % rows ≡ i
    di = div-add-mod i rows

    dj : rows * (j / rows) + j % rows ≡ j
    dj = div-add-mod j rows

    go : (i / rows < j / rows) ⊎ (j / rows ≤ i / rows) → i ≡ j
    go (inl l) =
        absurd (omega (
          arith,
          di,
          dj,
          e,
          mul-suc rows (i / rows),
          mul-le-mul_left {m = suc (i / rows)} {n = j / rows} rows (omega arith),
        ))
    go (inr l) = omega (arith, di, dj, e, mul-le-mul_left {m = j / rows} {n = i / rows} rows l)

module _ (n : ℕ) (s : Scheme) where
  -- the cells of an entry lie within the row
  pub within_row : (d : ℕ) → d < s.count → place_at n s d + binomial n (length_at s d) ≤ width_of n s
  within_row d h = place_apart n s d s.count h

  -- a rank is below the number of cells that an entry has in the longest row
  pub rank_low : (j d : ℕ) (g : List ℕ) → HasCell n s j d g → rank_of g < binomial n (length_at s d)
  rank_low j d g c = omega (arith, rank_bound g (length_at s d) j c.wide c.whole, binomial_mono j n (length_at s d) c.low)

  in_row : (j d : ℕ) (g : List ℕ) → HasCell n s j d g → place_at n s d + rank_of g < width_of n s
  in_row j d g c = omega (arith, rank_low j d g c, within_row d c.inside)

  -- two entries have their cells apart
  entries_same : (i j d e : ℕ) (g h : List ℕ) → HasCell n s i d g → HasCell n s j e h →
      place_at n s d + rank_of g ≡ place_at n s e + rank_of h →
      d ≡ e
  entries_same i j d e g h c f q = go (below_or_not d e) (below_or_not e d)
    where
      go : (d < e) ⊎ (e ≤ d) → (e < d) ⊎ (d ≤ e) → d ≡ e
      go (inl l) m = absurd (omega (arith, rank_low i d g c, place_apart n s d e l))
      go (inr l) (inl m) = absurd (omega (arith, rank_low j e h f, place_apart n s e d m))
      go (inr l) (inr m) = omega arith

  module _ (rows : ℕ) (pos : 0 < rows) where
    -- a block ends where the next begins, the last at the end of the table
    pub block_high : (j : ℕ) → block_of rows n s j + width_of n s ≤ rows * width_of n s
    block_high j =
        omega (arith, suc-mul (j % rows) (width_of n s), mul-le-mul_right {m = suc (j % rows)} {n = rows} (width_of n s) (mod-lt j pos))

    -- every cell lies within the table
    pub cell_inside : (j d : ℕ) (g : List ℕ) → HasCell n s j d g → cell_at rows n s j d g < rows * width_of n s
    cell_inside j d g c = omega (arith, in_row j d g c, block_high j)

    -- one place, one cell
    pub cells_apart : (i j d e : ℕ) (g h : List ℕ) → HasCell n s i d g → HasCell n s j e h → i ≤ j → j < i + rows →
        cell_at rows n s i d g ≡ cell_at rows n s j e h → (i ≡ j) × (d ≡ e) × (g ≡ h)
    cells_apart i j d e g h c f low high q =
        let block : i % rows ≡ j % rows =
        quotients_same (width_of n s) (i % rows) (j % rows) (place_at n s d + rank_of g) (place_at n s e + rank_of h) (in_row i d g c)
        (in_row j e h f) (omega arith) in
        let row : i ≡ j = rows_same rows i j pos low high block in
        let begin : block_of rows n s i ≡ block_of rows n s j = ap (λ m. m * width_of n s) block in
        let entry : d ≡ e = entries_same i j d e g h c f (omega arith) in
        let place : place_at n s d ≡ place_at n s e = ap (place_at n s) entry in
        let size : length_at s d ≡ length_at s e = ap (length_at s) entry in
        let wide : length g ≡ length h = c.wide ∙ ap suc size ∙ sym f.wide in
        let whole : total g ≡ total h = omega (arith, c.whole, f.whole) in
        (row, entry, rank_injective g h wide whole (omega arith))

-- the numbers of a cell end before those of a later one begin
pub numbers_apart : (numbers i j : ℕ) → i < j → number_at numbers i + numbers ≤ number_at numbers j
numbers_apart numbers i j h = omega (arith, mul-suc numbers i, mul-le-mul_left {m = suc i} {n = j} numbers h)
