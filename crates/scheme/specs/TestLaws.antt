-- Tests over the items g 0 to g (n - 1), from a place on: what one item adds; the first at fault,
-- the first twin, whether one passes a test.
-- Assumes nothing.
use Prim.Native.Nat.{ℕ, zero, suc, ◌+◌, ◌-◌, ◌≤◌, ◌<◌}
use Rattle.std.specs.Prelude.{Ok, Err, ◌≡◌, Bool, true, false, ◌||◌, cond, ◌⊎◌, length}
use Rattle.std.proofs.Math.Path.{refl}
use Rattle.std.proofs.Common.{sym, ap, ◌∙◌, true≢false, inl, inr, arith}
use mathlib.Core.List.{List, [], ◌∷◌, map, Memᴰ}
use Rattle.std.proofs.Math.Nat.{sub-zero}
use Rattle.std.proofs.Math.Numerals.{add-one}
use Rattle.std.proofs.lemmas.List.{length-map}
use Rattle.word.specs.Lists.{any, row}
use Rattle.word.specs.ListLaws.{length_row, below_or_not, same_test, any_out, any_in}
use Rattle.word.specs.Finding.{Finding, clean, fault, first_fault}
use Rattle.word.specs.declared.refusal.Refusal.{Refusal}
use Rattle.word.specs.declared.refusal.Refusal.TheVariants.{Repeated}
use Rattle.scheme.specs.WellFormed.{first_at, first_twin, listed, repeats}
use Rattle.forms.specs.SchemeMemory.{Fault, fault_of, or_else, fault_if}
use Rattle.scheme.specs.TestOrder.{seen}

-- the items g i to g (n - 1)
unfoldable pub from : {A : Type 0} → (ℕ → A) → ℕ → ℕ → List A
from g n i = map g (row i (n - i))

module _ {A : Type 0} (g : ℕ → A) (n : ℕ) where
  pub from_start : map g (row 0 n) ≡ from g n 0
  unfolding from
  from_start = rw (sub-zero n) refl

  pub from_at : (i : ℕ) → map g (row i (n - i)) ≡ from g n i
  unfolding from
  from_at i = refl

  pub from_cons : (i : ℕ) → i < n → from g n i ≡ g i ∷ from g n (i + 1)
  unfolding from
  from_cons i h = rw (add-one i) (go (n - i) (n - suc i) (omega arith))
    where
      go : (m k : ℕ) → m ≡ suc k → map g (row i m) ≡ g i ∷ map g (row (suc i) k)
      go m k e = rw e refl

  pub from_end : (i : ℕ) → n ≤ i → from g n i ≡ []
  unfolding from
  from_end i h = go (n - i) (omega arith)
    where
      go : (m : ℕ) → m ≡ 0 → map g (row i m) ≡ []
      go m e = rw e refl

  pub length_items : length (map g (row 0 n)) ≡ n
  length_items = length-map (row 0 n) g ∙ length_row 0 n

-- the first item at fault, from a place on
abbrev pub first_from : {A : Type 0} → Refusal → (A → Bool) → (ℕ → A) → ℕ → ℕ → Finding
first_from r f g n i = first_at r f i (from g n i)

module _ {A : Type 0} (r : Refusal) (f : A → Bool) (g : ℕ → A) (n : ℕ) where
  pub first_start : first_at r f 0 (map g (row 0 n)) ≡ first_at r f 0 (from g n 0)
  first_start = rw (from_start g n) refl

  pub first_here : (i : ℕ) → i < n → f (g i) ≡ true → first_at r f i (from g n i) ≡ fault r i
  first_here i h e = rw (from_cons g n i h, e) refl

  pub first_later : (i : ℕ) → i < n → f (g i) ≡ false → first_at r f i (from g n i) ≡ first_at r f (i + 1) (from g n (i + 1))
  first_later i h e = rw (from_cons g n i h, e, add-one i) refl

  pub first_end : (i : ℕ) → n ≤ i → first_at r f i (from g n i) ≡ clean
  first_end i h = rw (from_end g n i h) refl

-- some item passes a test
module _ {A : Type 0} (f : A → Bool) (g : ℕ → A) (n : ℕ) where
  pub any_start : any f (map g (row 0 n)) ≡ any f (from g n 0)
  any_start = rw (from_start g n) refl

  pub any_here : (i : ℕ) → i < n → f (g i) ≡ true → any f (from g n i) ≡ true
  any_here i h e = rw (from_cons g n i h, e) refl

  pub any_later : (i : ℕ) → i < n → f (g i) ≡ false → any f (from g n i) ≡ any f (from g n (i + 1))
  any_later i h e = rw (from_cons g n i h, e) refl

  pub any_end : (i : ℕ) → n ≤ i → any f (from g n i) ≡ false
  any_end i h = rw (from_end g n i h) refl

-- the first item that equals an earlier one, from a place on
abbrev pub twin_from : {A : Type 0} → (List A → A → Bool) → (ℕ → A) → ℕ → ℕ → Finding
twin_from twin g n i = first_twin twin i (seen g i) (from g n i)

module _ {A : Type 0} (twin : List A → A → Bool) (g : ℕ → A) (n : ℕ) where
  pub twin_start : first_twin twin 0 [] (map g (row 0 n)) ≡ first_twin twin 0 (seen g 0) (from g n 0)
  twin_start = rw (from_start g n) refl

  pub twin_here : (i : ℕ) → i < n → twin (seen g i) (g i) ≡ true → first_twin twin i (seen g i) (from g n i) ≡ fault Repeated i
  twin_here i h e = rw (from_cons g n i h, e) refl

  pub twin_later : (i : ℕ) → i < n → twin (seen g i) (g i) ≡ false →
      first_twin twin i (seen g i) (from g n i) ≡ first_twin twin (i + 1) (seen g (i + 1)) (from g n (i + 1))
  twin_later i h e = rw (from_cons g n i h, e, add-one i) refl

  pub twin_end : (i : ℕ) → n ≤ i → first_twin twin i (seen g i) (from g n i) ≡ clean
  twin_end i h = rw (from_end g n i h) refl

-- a list stands twice among those from a place on
module _ (g : ℕ → List ℕ) (n : ℕ) where
  pub repeats_start : repeats (map g (row 0 n)) ≡ repeats (from g n 0)
  repeats_start = rw (from_start g n) refl

  pub repeats_here : (i : ℕ) → i < n → listed (from g n (i + 1)) (g i) ≡ true → repeats (from g n i) ≡ true
  repeats_here i h e = rw (from_cons g n i h, e) refl

  pub repeats_later : (i : ℕ) → i < n → listed (from g n (i + 1)) (g i) ≡ false → repeats (from g n i) ≡ repeats (from g n (i + 1))
  repeats_later i h e = rw (from_cons g n i h, e) refl

  pub repeats_end : (i : ℕ) → n ≤ i → repeats (from g n i) ≡ false
  repeats_end i h = rw (from_end g n i h) refl

-- what a test that finds nothing says of each item
pub or_left : (a b : Bool) → a || b ≡ false → a ≡ false
or_left true b e = e
or_left false b e = refl

pub or_right : (a b : Bool) → a || b ≡ false → b ≡ false
or_right true b e = absurd (true≢false e)
or_right false b e = e

module _ {A : Type 0} (g : ℕ → A) where
  first_passed : (r : Refusal) (f : A → Bool) (a n i m : ℕ) → first_at r f m (map g (row a n)) ≡ clean → a ≤ i → i < a + n → f (g i) ≡ false
  first_passed r f a zero i m e h k = absurd (omega arith)
  first_passed r f a (suc n) i m e h k =
      go (f (g a)) refl e (below_or_not a i)
      (λ (q : first_at r f (suc m) (map g (row (suc a) n)) ≡ clean) (p : suc a ≤ i). first_passed r f (suc a) n i (suc m) q p (omega arith))
    where
      go : (b : Bool) → f (g a) ≡ b → cond b (fault r m) (first_at r f (suc m) (map g (row (suc a) n))) ≡ clean → (a < i) ⊎ (i ≤ a) →
          (first_at r f (suc m) (map g (row (suc a) n)) ≡ clean → suc a ≤ i → f (g i) ≡ false) → f (g i) ≡ false
      go true p q w f' = let z : ◌≡◌ {A = ℕ} 0 1 = cc in absurd (omega arith)
      go false p q (inl w) f' = f' q w
      go false p q (inr w) f' = let same : i ≡ a = omega arith in rw same p

  pub first_clean : (r : Refusal) (f : A → Bool) (n i : ℕ) → first_at r f 0 (map g (row 0 n)) ≡ clean → i < n → f (g i) ≡ false
  first_clean r f n i e h = first_passed r f 0 n i 0 e (omega arith) (omega arith)

  any_passed : (f : A → Bool) (a n i : ℕ) → any f (map g (row a n)) ≡ false → a ≤ i → i < a + n → f (g i) ≡ false
  any_passed f a zero i e h k = absurd (omega arith)
  any_passed f a (suc n) i e h k =
      go (below_or_not a i) (λ (p : suc a ≤ i). any_passed f (suc a) n i
      (or_right (f (g a)) (any f (map g (row (suc a) n))) e) p (omega arith))
    where
      go : (a < i) ⊎ (i ≤ a) → (suc a ≤ i → f (g i) ≡ false) → f (g i) ≡ false
      go (inl w) f' = f' w
      go (inr w) f' = let same : i ≡ a = omega arith in rw same (or_left (f (g a)) (any f (map g (row (suc a) n))) e)

  pub any_clean : (f : A → Bool) (n i : ℕ) → any f (map g (row 0 n)) ≡ false → i < n → f (g i) ≡ false
  any_clean f n i e h = any_passed f 0 n i e (omega arith) (omega arith)

-- the places from i on

pub row_next : (n i : ℕ) → i < n → row i (n - i) ≡ i ∷ row (suc i) (n - suc i)
row_next n i h = let e : n - i ≡ suc (n - suc i) = omega arith in rw e refl

pub row_end : (n i : ℕ) → n ≤ i → row i (n - i) ≡ []
row_end n i h = let e : n - i ≡ 0 = omega arith in rw e refl

-- whether one of the places i to n - 1 passes a test

module _ (t : ℕ → Bool) (n : ℕ) where
  unfoldable pub any_from : ℕ → Bool
  any_from i = any t (row i (n - i))

  pub place_here : (i : ℕ) → i < n → t i ≡ true → any_from i ≡ true
  unfolding any_from
  place_here i h e = rw (row_next n i h, e) refl

  pub place_later : (i : ℕ) → i < n → t i ≡ false → any_from i ≡ any_from (i + 1)
  unfolding any_from
  place_later i h e = rw (row_next n i h, e, add-one i) refl

  pub place_end : (i : ℕ) → n ≤ i → any_from i ≡ false
  unfolding any_from
  place_end i h = rw (row_end n i h) refl

-- two lists with the same members
pub any_members : {A : Type 0} (t : A → Bool) (l m : List A) → ((x : A) → Memᴰ x l → Memᴰ x m) →
    ((x : A) → Memᴰ x m → Memᴰ x l) → any t l ≡ any t m
any_members t l m h k =
    same_test (any t l) (any t m) (λ (e : any t l ≡ true). let (x, i, q) = any_out t l e in any_in t (h x i) q)
    (λ (e : any t m ≡ true). let (x, i, q) = any_out t m e in any_in t (k x i) q)

-- one finding alone
pub single : (x : Finding) → first_fault (x ∷ []) ≡ x
single clean = refl
single (fault r i) = refl

-- A finding so far and what is still to come. `rest i` is what the items from place i on add: the
-- item at a place refuses, if it is at fault, or those after it decide.
module _ (r : Refusal) (t : ℕ → Bool) (n : ℕ) (rest : ℕ → Finding)
    (step : (i : ℕ) → i < n → rest i ≡ cond (t i) (fault r i) (rest (i + 1))) (whole : Fault) where
  pub noted_more : (i : ℕ) (found next : Fault) (b : Bool) → i < n → whole ≡ or_else found (fault_of (rest i)) → b ≡ t i →
      next ≡ or_else found (fault_if b r i) → whole ≡ or_else next (fault_of (rest (i + 1)))
  noted_more i found next b h w e f = rw f (w ∙ rw (step i h, ← e) (go found b))
    where
      go : (found : Fault) (b : Bool) →
          or_else found (fault_of (cond b (fault r i) (rest (i + 1)))) ≡ or_else (or_else found (fault_if b r i)) (fault_of (rest (i + 1)))
      go (Ok u) true = refl
      go (Ok u) false = refl
      go (Err d) b = refl

pub noted_end : (found whole : Fault) (x : Finding) → x ≡ clean → whole ≡ or_else found (fault_of x) → found ≡ whole
noted_end found whole x e w = sym (w ∙ rw e (go found))
  where
    go : (found : Fault) → or_else found (Ok tt) ≡ found
    go (Ok u) = refl
    go (Err d) = refl

pub noted_start : {A : Type 0} (r : Refusal) (f : A → Bool) (g : ℕ → A) (n : ℕ) →
    fault_of (first_at r f 0 (map g (row 0 n))) ≡ or_else (Ok tt) (fault_of (first_from r f g n 0))
noted_start r f g n = ap fault_of (first_start r f g n)

module _ {A : Type 0} (g : ℕ → A) (n : ℕ) where
  pub first_step : (r : Refusal) (f : A → Bool) (i : ℕ) → i < n →
      first_from r f g n i ≡ cond (f (g i)) (fault r i) (first_from r f g n (i + 1))
  first_step r f i h = rw (from_cons g n i h, add-one i) refl

  pub twin_step : (twin : List A → A → Bool) (i : ℕ) → i < n →
      twin_from twin g n i ≡ cond (twin (seen g i) (g i)) (fault Repeated i) (twin_from twin g n (i + 1))
  twin_step twin i h = rw (from_cons g n i h, add-one i) refl

-- findings without a fault
pub clean_of : (x : Finding) → fault_of x ≡ Ok tt → x ≡ clean
clean_of clean e = refl
clean_of (fault r i) e = let z : ◌≡◌ {A = ℕ} 0 1 = cc in absurd (omega arith)

pub clean_cons : (x : Finding) (l : List Finding) → first_fault (x ∷ l) ≡ clean → (x ≡ clean) × (first_fault l ≡ clean)
clean_cons clean l e = (refl, e)
clean_cons (fault r i) l e = let z : ◌≡◌ {A = ℕ} 0 1 = cc in absurd (omega arith)

-- the first fault of three findings, in memory
pub three_faults : (x y z : Finding) → fault_of (first_fault (x ∷ y ∷ z ∷ [])) ≡ or_else (fault_of x) (or_else (fault_of y) (fault_of z))
three_faults (fault r i) y z = refl
three_faults clean (fault r i) z = refl
three_faults clean clean (fault r i) = refl
three_faults clean clean clean = refl
