-- Laws of numbers that are copied from a place of a list on, or stored from a place of an array on,
-- one after the other.
-- Assumes nothing.
use Rattle.std.specs.Prelude.{ℕ, zero, suc, ◌+◌, ◌≤◌, ◌<◌, ◌≡◌, refl, List, [], ◌∷◌, ◌++◌, length, get_or, take, drop, set}
use Rattle.std.proofs.Common.{add-zero, add-suc, suc-add, add-one, arith, sym, ap, ◌∙◌, length-drop, length-set, take-suc, take-suc-set}
use Rattle.std.proofs.Common.{get_or-drop, take_all, length-take-le, take-append-drop, append_assoc}
use Rattle.std.proofs.Math.Seq.{set_out}
use Rattle.std.proofs.lemmas.List.{drop-drop, drop-set-lt}
use Rattle.std.proofs.lemmas.List.Edits.{sets}
use borrow.Rule.Slice.PartMut.{put_mid}

-- one number more, copied from place `at` of the list l on
pub copied_more : (l : List ℕ) (at i : ℕ) (b : List ℕ) → i < length b → at + i < length l → take i b ≡ take i (drop at l)
    → take (i + 1) (set b i (get_or l (at + i) 0)) ≡ take (i + 1) (drop at l)
copied_more l at i b h k e =
    let inside : i < length (drop at l) = omega (arith, length-drop at l) in
    rw (add-one i)
    (take-suc-set b i (get_or l (at + i) 0) h ∙ ap (λ (t : List ℕ). t ++ (get_or l (at + i) 0 ∷ [])) e
    ∙ ap (λ (x : ℕ). take i (drop at l) ++ (x ∷ [])) (sym (get_or-drop at l i 0)) ∙ sym (take-suc (drop at l) i 0 inside))

pub copied_all : (n i : ℕ) (b l : List ℕ) → length b ≡ n → i ≡ n → take i b ≡ take i l → b ≡ take n l
copied_all n i b l h k e = let fits : length b ≤ i = omega arith in sym (take_all i b fits) ∙ e ∙ ap (λ (m : ℕ). take m l) k

-- one number more, stored from a place on
sets_more : (t xs : List ℕ) (at x : ℕ) → set (sets t at xs) (at + length xs) x ≡ sets t at (xs ++ (x ∷ []))
sets_more t [] at x = rw (add-zero at) refl
sets_more t (y ∷ xs) at x = rw (add-suc at (length xs), ← suc-add at (length xs)) (sets_more (set t at y) xs (suc at) x)

pub stored_more : (t s : List ℕ) (at i : ℕ) (r : List ℕ) → i < length s → r ≡ sets t at (take i s)
    → set r (at + i) (get_or s i 0) ≡ sets t at (take (i + 1) s)
stored_more t s at i r h e =
    let k : i ≤ length s = omega arith in
    rw (e, add-one i, take-suc s i 0 h, ← sets_more t (take i s) at (get_or s i 0), length-take-le i s k) refl

-- behind the end of the array nothing is stored
pub sets_out : (t : List ℕ) (at : ℕ) (xs : List ℕ) → length t ≤ at → sets t at xs ≡ t
sets_out t at [] h = refl
sets_out t at (x ∷ xs) h = rw (set_out t at x h) (sets_out t (suc at) xs (omega arith))

-- what no longer fits the array may as well be left out
pub sets_front : (t : List ℕ) (at : ℕ) (u : List ℕ) (i : ℕ) → length t ≤ at + i → sets t at (take i u) ≡ sets t at u
sets_front t at u zero h = let k : length t ≤ at = omega arith in sym (sets_out t at u k)
sets_front t at [] (suc i) h = refl
sets_front t at (x ∷ u) (suc i) h =
    let k : length (set t at x) ≤ suc at + i = omega (arith, length-set t at x) in
    sets_front (set t at x) (suc at) u i k

-- numbers that are copied over a part of a list are stored there one after the other
pub sets_part : (t : List ℕ) (at k : ℕ) (xs : List ℕ) → at + k ≤ length t → k ≡ length xs → put_mid at k t xs ≡ sets t at xs
sets_part t at zero [] h e = take-append-drop at t
sets_part t at (suc k) [] h e = absurd (omega arith)
sets_part t at zero (x ∷ xs) h e = absurd (omega arith)
sets_part t at (suc k) (x ∷ xs) h e =
    let here : at < length t = omega arith in
    let next : put_mid (suc at) k (set t at x) xs ≡ sets (set t at x) (suc at) xs =
    sets_part (set t at x) (suc at) k xs (omega (arith, length-set t at x)) (omega arith) in
    rw (
      drop-drop (suc k) at t,
      add-suc at k,
      ← append_assoc (take at t) (x ∷ []) (xs ++ drop (suc (at + k)) t),
      ← take-suc-set t at x here,
      ← suc-add at k,
      ← drop-drop k (suc at) t,
      ← drop-set-lt (suc at) t at x (omega arith),
    ) next
