-- What the cells of a table hold. Definitions only.
use Rattle.std.specs.Prelude.{ℕ, ◌+◌, ◌≤◌, ◌<◌, ◌≡◌, ◌⊎◌, List, length, get_or, set}
use Rattle.count_step.specs.Step.{LARGEST, held}
use Rattle.count_plan.specs.Layout.{number_at}

-- How many numbers of 64 bits a cell is; what it can hold, by the total t of its spacing; what the
-- cell with index i of a table holds; and the table with something else in it.
pub record Content (A : Type 0) : Type 1 where
  pub numbers : ℕ
  pub fits : (t : ℕ) → A → Type 0
  pub holds : (t : ℕ) → List ℕ → ℕ → A
  pub put : List ℕ → ℕ → A → List ℕ

-- Putting something into a cell changes its numbers and no other.
pub record Sound {A : Type 0} (C : Content A) : Type 0 where
  pub size : (T : List ℕ) (i : ℕ) (x : A) → length (C.put T i x) ≡ length T
  pub same : (t : ℕ) (T : List ℕ) (i : ℕ) (x : A) → C.fits t x → number_at C.numbers i + C.numbers ≤ length T →
      C.holds t (C.put T i x) i ≡ x
  pub other : (t : ℕ) (T : List ℕ) (i j : ℕ) (x : A) → (j ≡ i → ⊥) → C.holds t (C.put T i x) j ≡ C.holds t T j
  pub kept : (T : List ℕ) (i : ℕ) (x : A) (m : ℕ) → (m < number_at C.numbers i) ⊎ (number_at C.numbers i + C.numbers ≤ m) →
      get_or (C.put T i x) m 0 ≡ get_or T m 0

-- counting: one number a cell, its value
abbrev pub single : Content ℕ
single = record { numbers = 1; fits = λ t x. x ≤ LARGEST; holds = λ t. held; put = set }
