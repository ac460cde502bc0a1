-- Laws on lists of a fixed length that hold the front of another, and on the digits of a run.
-- Assumes nothing.
use Prim.Native.Nat.{ℕ, zero, suc, ◌+◌, ◌-◌, ◌≤◌, ◌<◌}
use native.Mathlib.Nat.{zero-add}
use native.Mathlib.Omega.{arith}
use mathlib.Core.Path.{◌≡◌, refl, sym, ap, ◌∙◌}
use mathlib.Core.Bool.{Bool, true, false, cond}
use mathlib.Core.List.{List, [], ◌∷◌, ◌++◌, map, map-append, append-nil, append_assoc}
use lib.ListN.{length, get_or, take, drop, set, length-map, length-drop}
use lib.Seq.{take_all, get_or-drop, sets}
use Rattle.forms.specs.StoredLaws.{stored_more, sets_front}
use Rattle.text_grammar.specs.Tokens.{is_digit, run}
use Rattle.text_grammar.specs.TokenLaws.{digit_value}
use Rattle.text_patterns.specs.PatternMemory.{filled}

module _ {A : Type 0} where
  pub length_filled : (n : ℕ) (z : A) (l : List A) → length (filled n z l) ≡ n
  length_filled zero z l = refl
  length_filled (suc n) z [] = ap suc (length_filled n z [])
  length_filled (suc n) z (x ∷ l) = ap suc (length_filled n z l)

  -- one element more
  pub length_more : (l : List A) (x : A) → suc (length l) ≡ length (l ++ (x ∷ []))
  length_more [] x = refl
  length_more (y ∷ l) x = ap suc (length_more l x)

  pub set_filled : (n : ℕ) (z : A) (l : List A) (a : A) → set (filled n z l) (length l) a ≡ filled n z (l ++ (a ∷ []))
  set_filled zero z l a = refl
  set_filled (suc n) z [] a = refl
  set_filled (suc n) z (x ∷ l) a = ap (λ (r : List A). x ∷ r) (set_filled n z l a)

  -- some elements more
  pub sets_filled : (n : ℕ) (z : A) (l xs : List A) → sets (filled n z l) (length l) xs ≡ filled n z (l ++ xs)
  sets_filled n z l [] = rw (append-nil l) refl
  sets_filled n z l (x ∷ xs) = rw (set_filled n z l x, length_more l x, sets_filled n z (l ++ (x ∷ [])) xs, append_assoc l (x ∷ []) xs) refl

-- the digits of a run are the values of its bytes

run_at : (t : List ℕ) (i : ℕ) → i < length (run t) → (get_or (run t) i 0 ≡ get_or t i 0 - 0x30) × (0x30 ≤ get_or t i 0) × (i < length t)
run_at [] i h = absurd (omega arith)
run_at (x ∷ t) i h = step (is_digit x) refl (run_at t) i h
  where
    step : (b : Bool) → is_digit x ≡ b →
        ((j : ℕ) → j < length (run t) → (get_or (run t) j 0 ≡ get_or t j 0 - 0x30) × (0x30 ≤ get_or t j 0) × (j < length t)) →
        (j : ℕ) → j < length (cond b ((x - 0x30) ∷ run t) []) →
        (get_or (cond b ((x - 0x30) ∷ run t) []) j 0 ≡ get_or (x ∷ t) j 0 - 0x30) × (0x30 ≤ get_or (x ∷ t) j 0) × (j < suc (length t))
    step true e below zero k = let v = digit_value x e in (refl, omega arith, omega arith)
    step true e below (suc j) k = let r = below j (omega arith) in (r.0, r.1, omega arith)
    step false e below j k = absurd (omega arith)

pub digits_in : (s : List ℕ) (from i : ℕ) → i < length (run (drop from s))
    → (get_or (run (drop from s)) i 0 ≡ get_or s (from + i) 0 - 0x30) × (0x30 ≤ get_or s (from + i) 0) × (from + i < length s)
digits_in s from i h =
    let r = run_at (drop from s) i h in
    let g : get_or (drop from s) i 0 ≡ get_or s (from + i) 0 = get_or-drop from s i 0 in
    let l : length (drop from s) ≡ length s - from = length-drop from s in
    (r.0 ∙ ap (λ (x : ℕ). x - 0x30) g, omega (arith, r.1), omega (arith, r.2))

-- one digit more, and the last
module _ (t u d : List ℕ) (i : ℕ) (e : d ≡ sets t 0 (take i u)) where
  pub digits_next : (x : ℕ) → i < length u → get_or u i 0 ≡ x → set d i x ≡ sets t 0 (take (i + 1) u)
  digits_next x h q = rw (← q, ← stored_more t u 0 i d h e, zero-add i) refl

  pub digits_all : length u ≤ i → d ≡ sets t 0 u
  digits_all h = e ∙ ap (sets t 0) (take_all i u h)

  pub digits_full : length t ≤ i → d ≡ sets t 0 u
  digits_full h = let k : length t ≤ 0 + i = omega arith in e ∙ sets_front t 0 u i k

-- one element more, of a list whose elements are put into memory
pub filled_more : {A B : Type 0} (n : ℕ) (z : B) (f : A → B) (l : List A) (x : A) →
    set (filled n z (map f l)) (length l) (f x) ≡ filled n z (map f (l ++ (x ∷ [])))
filled_more {B = B} n z f l x =
    ap (λ (i : ℕ). set (filled n z (map f l)) i (f x)) (sym (length-map l f))
    ∙ set_filled n z (map f l) (f x)
    ∙ ap (λ (r : List B). filled n z r) (sym (map-append f l (x ∷ [])))
