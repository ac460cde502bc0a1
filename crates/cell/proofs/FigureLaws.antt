-- Laws of figures: they add up to the number of words, and each is the number of words with as many
-- inversions as its place says.
use Rattle.std.specs.Prelude.{ℕ, zero, suc, ◌+◌, ◌≤◌, ◌<◌, ◌≡◌, refl, ◌⊎◌, length, get_or, eqb}
use Rattle.std.proofs.Common.{add-zero, zero-add, arith, sym, ap, ap₂, ◌∙◌, inl, inr, eq-eqb, ne_eqb}
use mathlib.Core.List.{List, [], ◌∷◌, map, Memᴰ}
use Rattle.std.proofs.Math.ListN.{get_or-eq_default}
use Rattle.word.specs.Lists.{row}
use Rattle.word.specs.Word.{avoids, perms, avoiders}
use Rattle.word.specs.Inversions.{inversions, pairs, inverted, figure_count, tally, figures}
use Rattle.word.specs.ListLaws.{below_or_not, keep_out, length_row}
use Rattle.word.specs.PermLaws.{perms_are}
use Rattle.word.proofs.InversionLaws.{inversions_at_most, tally_length}
use Rattle.cell.specs.Cell.{total}
use Rattle.cell.proofs.BuiltLaws.{get_d_map}
use Rattle.cell.proofs.BinomialLaws.{keep_shorter}

-- no words
tally_none : (a k : ℕ) → total (map (inverted []) (row a k)) ≡ 0
unfolding total inverted
tally_none a zero = refl
tally_none a (suc k) = omega (arith, tally_none (suc a) k)

-- one word more counts nowhere behind its number of inversions ..
tally_past : (w : List ℕ) (l : List (List ℕ)) (a k : ℕ) → inversions w < a →
    map (inverted (w ∷ l)) (row a k) ≡ map (inverted l) (row a k)
unfolding inverted
tally_past w l a zero h = refl
tally_past w l a (suc k) h = ap₂ ◌∷◌ (rw (ne_eqb (inversions w) a (λ (e : inversions w ≡ a). omega arith)) refl)
    (tally_past w l (suc a) k (omega arith))

-- .. and once at it
tally_more : (w : List ℕ) (l : List (List ℕ)) (a k : ℕ) → a ≤ inversions w → inversions w < a + k →
    total (map (inverted (w ∷ l)) (row a k)) ≡ suc (total (map (inverted l) (row a k)))
unfolding total inverted
tally_more w l a zero h b = absurd (omega arith)
tally_more w l a (suc k) h b = go (below_or_not a (inversions w)) (tally_more w l (suc a) k)
  where
    go : (a < inversions w) ⊎ (inversions w ≤ a) →
        (suc a ≤ inversions w → inversions w < suc a + k →
        total (map (inverted (w ∷ l)) (row (suc a) k)) ≡ suc (total (map (inverted l) (row (suc a) k)))) →
        total (map (inverted (w ∷ l)) (row a (suc k))) ≡ suc (total (map (inverted l) (row a (suc k))))
    go (inl c) later =
        rw (ne_eqb (inversions w) a (λ (e : inversions w ≡ a). omega arith)) (omega (arith, later c (omega arith)))
    go (inr c) later =
        let e : inversions w ≡ a = omega arith in
        rw (eq-eqb (inversions w) a e) (omega (arith, ap total (tally_past w l (suc a) k (omega arith))))

-- the figures add up to the number of words
pub tally_total : (n : ℕ) (l : List (List ℕ)) → ((w : List ℕ) → Memᴰ w l → inversions w ≤ pairs n) → total (tally n l) ≡ length l
unfolding tally
tally_total n [] h = tally_none 0 (figure_count n)
tally_total n (w ∷ l) h =
    let b = h w (Memᴰ.head refl) in
    tally_more w l 0 (suc (pairs n)) (omega arith) (omega arith) ∙ ap suc (tally_total n l (λ v m. h v (Memᴰ.tail m)))

-- "they add up to the plain count"
pub figures_total : (P : List (List ℕ)) (n : ℕ) → total (figures P n) ≡ length (avoiders P n)
unfolding figures
figures_total P n = tally_total n (avoiders P n) bound
  where
    bound : (w : List ℕ) → Memᴰ w (avoiders P n) → inversions w ≤ pairs n
    bound w m =
        let (p, l) = perms_are n (keep_out (avoids P) (perms n) m).0 in
        rw (← l) (inversions_at_most w)

get_or_row : (a k i : ℕ) → i < k → get_or (row a k) i 0 ≡ a + i
get_or_row a zero i h = absurd (omega arith)
get_or_row a (suc k) zero h = sym (add-zero a)
get_or_row a (suc k) (suc i) h = get_or_row (suc a) k i (omega arith) ∙ omega arith

-- the figure at a place
pub tally_at : (n : ℕ) (l : List (List ℕ)) (q : ℕ) → q < figure_count n → get_or (tally n l) q 0 ≡ inverted l q
unfolding tally
tally_at n l q h =
    get_d_map (inverted l) (row 0 (figure_count n)) q (omega (arith, length_row 0 (figure_count n))) ∙
    ap (inverted l) (get_or_row 0 (figure_count n) q h ∙ zero-add q)

pub figure_at : (P : List (List ℕ)) (n q : ℕ) → q ≤ pairs n → get_or (figures P n) q 0 ≡ inverted (avoiders P n) q
unfolding figures figure_count
figure_at P n q h = tally_at n (avoiders P n) q (omega arith)

-- no figure is above the number of words
pub tally_at_most : (n : ℕ) (l : List (List ℕ)) (q : ℕ) → get_or (tally n l) q 0 ≤ length l
unfolding inverted
tally_at_most n l q = go (below_or_not q (figure_count n))
  where
    go : (q < figure_count n) ⊎ (figure_count n ≤ q) → get_or (tally n l) q 0 ≤ length l
    go (inl h) = rw (tally_at n l q h) (keep_shorter (λ w. eqb (inversions w) q) l)
    go (inr h) = rw (get_or-eq_default (tally n l) 0 {n = q} (omega (arith, tally_length n l))) (omega arith)
