-- Laws of tests in a row: when none of them finds a fault, and what that says of each item.
use Rattle.std.specs.Prelude.{Ok, Err, ℕ, suc, ◌≡◌, refl, Bool, true, false, cond, ◌↔◌, ◌⊎◌}
use Rattle.std.proofs.Common.{arith, sym, ap, ap₂, ◌∙◌, inl, inr}
use mathlib.Core.List.Memᴰ
use mathlib.Core.List.{List, [], ◌∷◌, ◌++◌, Memᴰ}
use Rattle.word.specs.Lists.{any}
use Rattle.word.specs.ListLaws.{true_not_false, any_in}
use Rattle.word.specs.Finding.{Finding, clean, fault, test, first_fault}
use Rattle.word.specs.declared.refusal.Refusal.{Refusal}
use Rattle.word.specs.declared.refusal.Refused.{Refused}
use Rattle.forms.specs.SchemeMemory.{Fault, fault_of, or_else, faulty}
use Rattle.scheme.specs.WellFormed.{first_at}

-- a fault is not clean
fault_not_clean : {r : Refusal} {i : ℕ} → fault r i ≡ clean → ⊥
fault_not_clean e = let z : ◌≡◌ {A = ℕ} 0 1 = cc in absurd (omega arith)

-- a finding in memory that tells no fault
pub clean_finding : (x : Finding) (f : Fault) → f ≡ fault_of x → faulty f ≡ false → x ≡ clean
clean_finding clean f e h = refl
clean_finding (fault r i) f e h = absurd (true_not_false (sym (ap faulty e) ∙ h))

-- a finding that refuses decides, and one that does not leaves it to the next
pub stops : (a b : Fault) (e : Refused) → a ≡ Err e → or_else a b ≡ a
stops a b e h = rw h refl

pub goes : (a b : Fault) → a ≡ Ok tt → or_else a b ≡ b
goes a b h = rw h refl

-- none of the tests finds a fault
pub clean_in : {x : Finding} (l : List Finding) → Memᴰ x l → first_fault l ≡ clean → x ≡ clean
clean_in [] m e = absurd (Memᴰ.not-nil m)
clean_in {x} (clean ∷ l) m e = go (λ (n : Memᴰ x l). clean_in l n e) (Memᴰ.cases_cons m)
  where
    go : (Memᴰ x l → x ≡ clean) → (x ≡ clean) ⊎ Memᴰ x l → x ≡ clean
    go below (inl q) = q
    go below (inr n) = below n
clean_in (fault r i ∷ l) m e = absurd (fault_not_clean e)

pub clean_left : (l m : List Finding) → first_fault (l ++ m) ≡ clean → first_fault l ≡ clean
clean_left [] m e = refl
clean_left (clean ∷ l) m e = clean_left l m e
clean_left (fault r i ∷ l) m e = e

pub clean_right : (l m : List Finding) → first_fault (l ++ m) ≡ clean → first_fault m ≡ clean
clean_right [] m e = e
clean_right (clean ∷ l) m e = clean_right l m e
clean_right (fault r i ∷ l) m e = absurd (fault_not_clean e)

pub clean_append : (l m : List Finding) → first_fault l ≡ clean → first_fault (l ++ m) ≡ first_fault m
clean_append [] m e = refl
clean_append (clean ∷ l) m e = clean_append l m e
clean_append (fault r i ∷ l) m e = absurd (fault_not_clean e)

-- a fault in the first tests refuses
pub fault_append : (l m : List Finding) {r : Refusal} {i : ℕ} → first_fault l ≡ fault r i → first_fault (l ++ m) ≡ fault r i
fault_append [] m e = let z : ◌≡◌ {A = ℕ} 0 1 = cc in absurd (omega arith)
fault_append (clean ∷ l) m e = fault_append l m e
fault_append (fault r i ∷ l) m e = e

pub clean_two : (x y : Finding) → x ≡ clean → y ≡ clean → first_fault (x ∷ y ∷ []) ≡ clean
clean_two x y e f = rw (e, f) refl

-- a test of the whole input
pub clean_test : (r : Refusal) (b : Bool) → test r b ≡ clean → b ≡ false
clean_test r true e = absurd (fault_not_clean e)
clean_test r false e = refl

module _ {A : Type 0} (r : Refusal) (f : A → Bool) where
  -- a test of each item
  pub first_out : {x : A} (i : ℕ) {l : List A} → first_at r f i l ≡ clean → Memᴰ x l → f x ≡ false
  first_out {x} i e (Memᴰ.head {x = y} {xs = l} q) = ap f q ∙ go (f y) refl e
    where
      go : (b : Bool) → f y ≡ b → cond b (fault r i) (first_at r f (suc i) l) ≡ clean → f y ≡ false
      go true p h = absurd (fault_not_clean h)
      go false p h = p
  first_out {x} i e (Memᴰ.tail {x = y} {xs = l} m) = first_out (suc i) (go (f y) e) m
    where
      go : (b : Bool) → cond b (fault r i) (first_at r f (suc i) l) ≡ clean → first_at r f (suc i) l ≡ clean
      go true h = absurd (fault_not_clean h)
      go false h = h

  pub first_in : (i : ℕ) (l : List A) → ((x : A) → Memᴰ x l → f x ≡ false) → first_at r f i l ≡ clean
  first_in i [] h = refl
  first_in i (x ∷ l) h = rw (h x (Memᴰ.head refl)) (first_in (suc i) l (λ y m. h y (Memᴰ.tail m)))

-- tests that agree on the items find the same
pub first_same : {A : Type 0} (r : Refusal) (f g : A → Bool) (i : ℕ) (l : List A) →
    ((x : A) → Memᴰ x l → f x ≡ g x) → first_at r f i l ≡ first_at r g i l
first_same r f g i [] h = refl
first_same r f g i (x ∷ l) h =
    ap₂ (λ (b : Bool) (y : Finding). cond b (fault r i) y) (h x (Memᴰ.head refl))
    (first_same r f g (suc i) l (λ y m. h y (Memᴰ.tail m)))

-- no element passes
pub none_out : {A : Type 0} (f : A → Bool) {x : A} {l : List A} → any f l ≡ false → Memᴰ x l → f x ≡ false
none_out f {x} {l} e m = go (f x) refl
  where
    go : (b : Bool) → f x ≡ b → b ≡ false
    go true p = absurd (true_not_false (sym (any_in f m p) ∙ e))
    go false p = refl

pub none_in : {A : Type 0} (f : A → Bool) (l : List A) → ((x : A) → Memᴰ x l → f x ≡ false) → any f l ≡ false
none_in f [] h = refl
none_in f (x ∷ l) h = rw (h x (Memᴰ.head refl)) (none_in f l (λ y m. h y (Memᴰ.tail m)))

-- two tests that fail under the same condition are equal
pub same_failure : {X : Type 0} (a b : Bool) → (a ≡ false) ↔ X → (b ≡ false) ↔ X → a ≡ b
same_failure true true h k = refl
same_failure true false h k = h.1 (k.0 refl)
same_failure false true h k = sym (k.1 (h.0 refl))
same_failure false false h k = refl
