-- Findings that refuse, and that do not refuse with 1.
-- Assumes nothing.
use Prim.Native.Nat.{ℕ, suc}
use native.Mathlib.Omega.{arith}
use mathlib.Core.Path.{◌≡◌, refl, sym, ap, ◌∙◌}
use mathlib.Core.Bool.{Bool, true, not, cond, false, true≢false}
use mathlib.Core.List.{List, [], ◌∷◌}
use lib.Dec.{eqb}
use Rattle.word.specs.Lists.{all}
use Rattle.word.specs.ListLaws.{and_left}
use Rattle.word.specs.Refusal.{number_of}
use Rattle.word.specs.Finding.{Finding, clean, fault, test, first_fault}
use Rattle.word.specs.declared.refusal.Refusal.{Refusal}
use Rattle.word.specs.declared.refusal.Refusal.TheVariants.{Misspelt}
use Rattle.scheme.specs.WellFormed.{first_at, first_twin}
use Rattle.std.specs.Prelude.{Ok, Err}
use Rattle.word.specs.Refusal.{refused_at}
use Rattle.forms.specs.SchemeMemory.{Fault, fault_of}

-- the number of a refusal, 0 where there is none
abbrev pub number_in : Fault → ℕ
number_in (Ok u) = 0
number_in (Err e) = number_of e.refusal

abbrev pub refused : Fault → ℕ
refused (Ok u) = 0
refused (Err e) = 1

-- a finding that does not refuse with 1
abbrev pub not_one : Finding → Bool
not_one clean = true
not_one (fault r i) = not (eqb (number_of r) 1)

on_cond : (b : Bool) (x y : Finding) → not_one x ≡ true → not_one y ≡ true → not_one (cond b x y) ≡ true
on_cond true x y h k = h
on_cond false x y h k = k

module _ (r : Refusal) (h : not_one (fault r 0) ≡ true) where
  pub test_not_one : (b : Bool) → not_one (test r b) ≡ true
  test_not_one true = h
  test_not_one false = refl

  pub first_not_one : {A : Type 0} (f : A → Bool) (i : ℕ) (l : List A) → not_one (first_at r f i l) ≡ true
  first_not_one f i [] = refl
  first_not_one f i (x ∷ l) = on_cond (f x) (fault r i) (first_at r f (suc i) l) h (first_not_one f (suc i) l)

pub twin_not_one : {A : Type 0} (t : List A → A → Bool) (i : ℕ) (seen l : List A) → not_one (first_twin t i seen l) ≡ true
twin_not_one t i seen [] = refl
twin_not_one t i seen (x ∷ l) = on_cond (t seen x) _ (first_twin t (suc i) (x ∷ seen) l) refl (twin_not_one t (suc i) (x ∷ seen) l)

pub all_not_one : (l : List Finding) → all not_one l ≡ true → not_one (first_fault l) ≡ true
all_not_one [] h = refl
all_not_one (clean ∷ l) h = all_not_one l h
all_not_one (fault r i ∷ l) h = and_left (not (eqb (number_of r) 1)) (all not_one l) h

-- a fault that is none, and a refusal with 1
pub not_clean : (r : Refusal) (i : ℕ) → ◌≡◌ {A = Fault} (Err (refused_at r i)) (Ok tt) → ⊥
not_clean r i e = let z : ◌≡◌ {A = ℕ} 1 0 = ap refused e in omega (arith, z)

pub not_misspelt : (x : Finding) (i : ℕ) → not_one x ≡ true → fault_of x ≡ Err (refused_at Misspelt i) → ⊥
not_misspelt clean i h e = not_clean Misspelt i (sym e)
not_misspelt (fault r j) i h e = let z : number_of r ≡ 1 = ap number_in e in true≢false (sym h ∙ rw z refl)
