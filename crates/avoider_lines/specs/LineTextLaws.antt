-- Laws of the line of an avoider, while it is written.
use Rattle.std.specs.Prelude.{ℕ, min, ◌+◌, ◌≤◌, ◌<◌, ◌≡◌, refl, List, [], ◌∷◌, ◌++◌, ◌⊎◌, length, take, drop, get_or}
use Rattle.std.proofs.Common.{arith, add-one, ap, ◌∙◌, inl, inr, drop_of_length-le, take_all, length-take-le, drop-cons, get_or-take}
use Rattle.word.specs.ListLaws.{below_or_not}
use Rattle.text_page.specs.Page.{Writes}
use Rattle.text_page.specs.PageLaws.{overlay_length}
use Rattle.text_page.specs.Decimal.{decimal}
use Rattle.avoider_lines.specs.LineText.{further_text, line_of}

-- writing keeps the length of the page
pub written_size : {xs t u : List ℕ} {at next : ℕ} → Writes xs at t u next → length u ≡ length t
written_size {xs} {t} {u} {at} w = ap length w.page ∙ overlay_length at xs t

-- the first n entries of a word in memory, of which there are `count`
module _ (word : List ℕ) (n count : ℕ) (few : count ≡ min n (length word)) where
  line_length : length (take n word) ≡ count
  line_length = split (below_or_not n (length word))
    where
      split : (n < length word) ⊎ (length word ≤ n) → length (take n word) ≡ count
      split (inl h) = omega (arith, length-take-le n word (omega arith))
      split (inr h) = omega (arith, ap length (take_all n word h))

  entry_taken : (i : ℕ) → i < count → get_or (take n word) i 0 ≡ get_or word i 0
  entry_taken i h = get_or-take n word i 0 (omega arith)

  pub line_none : count ≡ 0 → 0x0A ∷ [] ≡ line_of (take n word)
  line_none e = split (take n word) (omega (arith, line_length))
    where
      split : (w : List ℕ) → length w ≡ 0 → 0x0A ∷ [] ≡ line_of w
      split [] h = refl
      split (a ∷ w) h = absurd (omega arith)

  -- the first entry, and the others after it
  pub line_first : (count ≡ 0 → ⊥) → line_of (take n word) ≡ decimal (get_or word 0 0) ++ further_text (drop 1 (take n word))
  line_first some =
      let h : 0 < count = omega (arith, some) in
      split (take n word) (omega (arith, line_length)) ∙
      ap (λ (a : ℕ). decimal a ++ further_text (drop 1 (take n word))) (entry_taken 0 h)
    where
      split : (w : List ℕ) → 0 < length w → line_of w ≡ decimal (get_or w 0 0) ++ further_text (drop 1 w)
      split [] h = absurd (omega arith)
      split (a ∷ w) h = refl

  -- a further entry, and those after it
  pub line_step : (i : ℕ) → i < count → further_text (drop i (take n word)) ≡
      (0x20 ∷ decimal (get_or word i 0)) ++ further_text (drop (i + 1) (take n word))
  line_step i h =
      ap further_text (drop-cons (take n word) i 0 (omega (arith, line_length))) ∙
      rw (entry_taken i h, add-one i) refl

  pub line_end : (i : ℕ) → count ≤ i → further_text (drop i (take n word)) ≡ 0x0A ∷ []
  line_end i h = ap further_text (drop_of_length-le (take n word) {i = i} (omega (arith, line_length)))
