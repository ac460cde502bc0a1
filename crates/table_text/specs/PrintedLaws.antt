-- Laws of the lines of a b-file, and of a page that they are printed from.
use Rattle.std.specs.Prelude.{ℕ, ◌+◌, ◌≤◌, ◌<◌, ◌≡◌, refl, List, [], ◌++◌, length, take, drop, get_or}
use Rattle.std.proofs.Common.{arith, add-one, sym, ap, ◌∙◌, drop_of_length-le, length-take-le, drop-cons, get_or-take, take_at}
use Rattle.text_page.specs.Page.{Writes}
use Rattle.text_page.specs.PageLaws.{length_after, page_after_lem}
use Rattle.table_text.specs.Printed.{count_line, count_lines}

module _ (counts : List ℕ) (n : ℕ) (inside : n < length counts) where
  taken_length : length (take (n + 1) counts) ≡ n + 1
  taken_length = length-take-le (n + 1) counts (omega arith)

  -- the line of a count, and the lines after it
  pub lines_step : (i : ℕ) → i ≤ n
      → count_lines i (drop i (take (n + 1) counts)) ≡
      count_line i (get_or counts i 0) ++ count_lines (i + 1) (drop (i + 1) (take (n + 1) counts))
  lines_step i h =
      let short : i < length (take (n + 1) counts) = omega (arith, taken_length) in
      let below : i < n + 1 = omega arith in
      ap (count_lines i) (drop-cons (take (n + 1) counts) i 0 short)
      ∙ rw (get_or-take (n + 1) counts i 0 below, add-one i) refl

  pub lines_end : (i : ℕ) → n < i → count_lines i (drop i (take (n + 1) counts)) ≡ []
  lines_end i h = ap (count_lines i) (drop_of_length-le (take (n + 1) counts) {i = i} (omega (arith, taken_length)))

-- what is printed of a page that is long enough
pub printed : {xs t u : List ℕ} {r : ℕ} → Writes xs 0 t u r → r ≤ length t → take r u ≡ xs
printed {xs} {t} {u} {r} w h =
    let n = length_after w in
    let inside : length xs ≤ length t = omega arith in
    ap (take r) (page_after_lem w inside) ∙ take_at xs (drop (length xs) t) r (sym n)
