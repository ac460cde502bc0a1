-- Laws of the fronts of words in memory: what one place more makes of the first avoider with a
-- front, and one place less of the next after a word.
use Rattle.std.specs.Prelude.{ℕ, zero, suc, ◌+◌, ◌≤◌, ◌<◌, ◌≡◌, true, List, [], ◌∷◌, ◌++◌, length, get_or, take, drop}
use Rattle.std.proofs.Common.{sym, ◌∙◌, arith, add-one, length-append, take-append-drop, take-take}
use Rattle.std.proofs.Common.{take-suc, length-take-le, get_or-take, drop-cons}
use Rattle.std.proofs.Math.Path.{ap}
use Rattle.std.proofs.Math.Option.{none, some}
use Rattle.word.specs.Lists.{first}
use Rattle.word.specs.Word.{is_perm, avoiders, before}
use Rattle.word.specs.Listing.{next_avoider}
use Rattle.word.specs.ListLaws.{get_or_mem}
use Rattle.word.specs.PermLaws.{perm_bounds}
use Rattle.word.specs.AscendLaws.{avoiders_all}
use Rattle.cell.proofs.BuiltCells.{same_out}
use Rattle.completion.specs.Completion.{begins}
use Rattle.arrangement.specs.Searching.{Completes}
use Rattle.arrangement.specs.SearchingLaws.{completes_can}
use Rattle.std.specs.Prelude.{refl, Option, Some, None}
use Rattle.std.specs.Option.{unwrap_or}
use Rattle.successor.specs.Values.{NoneBetween, LeastValue, SeeksValue, Avoider, least_from, Lowers}
use Rattle.successor.specs.StepLaws.{completes_next, least_value, NoneAfter, after_none, after_less, after_found}
use Rattle.successor.specs.WordLaws.{zero_value}

-- a completion is an avoider
pub completes_avoider : (P : List (List ℕ)) (n : ℕ) (u w : List ℕ) → Completes P n u w → Avoider P n w
completes_avoider P n u w c = record { perm = c.perm; size = c.size; avoids_all = c.avoids_all }

-- its first entries are the word's
front_is : (n k : ℕ) (u w : List ℕ) → length u ≡ k → k ≤ n → begins u (take n w) ≡ true → take k w ≡ u
unfolding begins
front_is n k u w l h b =
    sym (take-take k n w h) ∙ ap (λ (m : ℕ). take m (take n w)) (sym l) ∙ same_out (take (length u) (take n w)) u b

-- a word, cut at one of its places
pub cut_at : (n i : ℕ) (w : List ℕ) → i < n → n ≤ length w → take i w ++ (get_or w i 0 ∷ drop (suc i) (take n w)) ≡ take n w
cut_at n i w h k =
    let size = length-take-le n w k in
    ap (λ (t : List ℕ). t ++ (get_or w i 0 ∷ drop (suc i) (take n w))) (sym (take-take i n w (omega arith))) ∙
    ap (λ (x : ℕ). take i (take n w) ++ (x ∷ drop (suc i) (take n w))) (sym (get_or-take n w i 0 h)) ∙
    ap (λ (t : List ℕ). take i (take n w) ++ t) (sym (drop-cons (take n w) i 0 (omega (arith, size)))) ∙
    take-append-drop i (take n w)

-- an entry of a permutation of length n is from 1 to n
pub entry_within : (n i : ℕ) (w : List ℕ) → i < n → n ≤ length w → is_perm (take n w) ≡ true → (1 ≤ get_or w i 0) × (get_or w i 0 ≤ n)
entry_within n i w h k p =
    let size = length-take-le n w k in
    let (low, high) = perm_bounds (take n w) p (get_or_mem (take n w) i 0 (omega (arith, size, h))) in
    let e = get_or-take n w i 0 h in
    (omega (arith, low, e), omega (arith, high, e, size))

module _ (P : List (List ℕ)) (n i : ℕ) (w : List ℕ) (inside : i < n) (room : n ≤ length w) where
  size : length (take i w) ≡ i
  size = length-take-le i w (omega arith)

  shorter : length (take i w) < n
  shorter = omega (arith, size)

  -- the word in hand begins with the front and the value
  value_front : (x : ℕ) (b : List ℕ) → Completes P n (take i w ++ (x ∷ [])) (take n b) → take (i + 1) b ≡ take i w ++ (x ∷ [])
  value_front x b c =
      front_is n (i + 1) (take i w ++ (x ∷ [])) b (omega (arith, length-append (take i w) (x ∷ []), size)) (omega arith) c.front

  one_more : take (i + 1) w ≡ take i w ++ (get_or w i 0 ∷ [])
  one_more = ap (λ (m : ℕ). take m w) (add-one i) ∙ take-suc w i 0 (omega arith)

  -- no value at all below x
  from_zero : (x : ℕ) → NoneBetween P n (take i w) 1 x → NoneBetween P n (take i w) 0 x
  from_zero x h zero a b = zero_value P n (take i w)
  from_zero x h (suc y) a b = h (suc y) (omega arith) b

  -- the least smaller value is taken
  pub lowers_found : (high : ℕ) (b : List ℕ) → LeastValue P n (take i w) 1 high (take n b) → Lowers P n i (i + 1) w b
  lowers_found high b v =
      let x = v.value in
      let c = v.completes in record {
        avoider = completes_avoider P n (take i w ++ (x ∷ [])) (take n b) c;
        same_least =
            least_value P n (take i w) x shorter (from_zero x v.least) (completes_can P n (take i w ++ (x ∷ [])) (take n b) c) ∙
            ap (least_from P n) (sym (value_front x b c));
      }

  -- where there is none the word itself has the least value
  pub lowers_own : Avoider P n (take n w) → NoneBetween P n (take i w) 1 (get_or w i 0) → Lowers P n i (i + 1) w w
  lowers_own g h =
      let x = get_or w i 0 in
      let m = avoiders_all P n (take n w) g.perm g.size g.avoids_all in
      let can = completes_next P n (take i w) x (drop (suc i) (take n w)) (take n w) m (cut_at n i w inside room) in record {
        avoider = g;
        same_least = least_value P n (take i w) x shorter (from_zero x h) can ∙ ap (least_from P n) (sym one_more);
      }

  -- one of the two
  pub lowers_either : (high : ℕ) (o : Option (List ℕ)) → high ≡ get_or w i 0 → Avoider P n (take n w) →
      SeeksValue P n (take i w) 1 high o → Lowers P n i (i + 1) w (unwrap_or o w)
  lowers_either high (Some b) e g v = lowers_found high b (v.yes b refl)
  lowers_either high None e g v = lowers_own g (rw e at (v.no refl))

  -- one place less: no larger value there
  pub next_less : NoneAfter P n (take n w) (take (i + 1) w) → NoneBetween P n (take i w) (get_or w i 0 + 1) (n + 1) →
      NoneAfter P n (take n w) (take i w)
  next_less a h =
      after_less P n (take n w) (take i w) (get_or w i 0) (drop (suc i) (take n w)) (cut_at n i w inside room) shorter
      (rw one_more at a) (λ (y : ℕ) low high. h y (omega (arith, low)) (omega (arith, high)))

  -- the least larger value there, and the first avoider with it
  pub next_found : (b s : List ℕ) → NoneAfter P n (take n w) (take (i + 1) w) →
      LeastValue P n (take i w) (get_or w i 0 + 1) (n + 1) (take n b) → least_from P n (take (i + 1) b) ≡ some s →
      next_avoider P (take n w) ≡ some s
  unfolding next_avoider
  next_found b s a v e =
      let x = v.value in
      let c = v.completes in
      ap (λ (m : ℕ). first (before (take n w)) (avoiders P m)) (length-take-le n w room) ∙
      after_found P n (take n w) (take i w) (get_or w i 0) (drop (suc i) (take n w)) (cut_at n i w inside room) shorter
      (rw one_more at a) x (omega (arith, v.from)) (λ (y : ℕ) low high. v.least y (omega (arith, low)) high)
      (completes_can P n (take i w ++ (x ∷ [])) (take n b) c) ∙
      ap (least_from P n) (sym (value_front x b c)) ∙
      e

-- no place is left
pub next_end : (P : List (List ℕ)) (n : ℕ) (w : List ℕ) → n ≤ length w → NoneAfter P n (take n w) [] → next_avoider P (take n w) ≡ none
unfolding next_avoider
next_end P n w room a =
    ap (λ (m : ℕ). first (before (take n w)) (avoiders P m)) (length-take-le n w room) ∙ after_none P n (take n w) a
