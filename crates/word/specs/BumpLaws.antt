-- Laws of bump: stepping over a keeps the order of numbers, and reaches every number but a.
use Rattle.std.specs.Prelude.{ℕ, suc, pred, ◌≤◌, ◌<◌, ◌≡◌, refl, ◌⊎◌, List, [], ◌∷◌, map, ltb, eqb}
use Rattle.std.proofs.Common.{arith, sym, ap, ap₂, ◌∙◌, inl, inr, ltb-true, lt-ltb, le-ltb, eqb-true, eq-eqb}
use Rattle.word.specs.Vocabulary.{unbump}
use Rattle.word.specs.Word.{bump}
use Rattle.word.specs.ListLaws.{below_or_not, same_test}

-- below a nothing changes, from a on a number moves up by one
pub bump_below : (a y : ℕ) → y < a → bump a y ≡ y
unfolding bump
bump_below a y h = rw (lt-ltb y a h)

pub bump_above : (a y : ℕ) → a ≤ y → bump a y ≡ suc y
unfolding bump
bump_above a y h = rw (le-ltb y a h)

-- the two ways in which y is stepped over a
pub data Bumped (a y : ℕ) : Type 0 where
  stays : y < a → bump a y ≡ y → Bumped a y
  moves : a ≤ y → bump a y ≡ suc y → Bumped a y

pub bumped : (a y : ℕ) → Bumped a y
bumped a y = step (below_or_not y a)
  where
    step : (y < a) ⊎ (a ≤ y) → Bumped a y
    step (inl h) = stays h (bump_below a y h)
    step (inr h) = moves h (bump_above a y h)

-- bump a keeps the order, both ways
pub bump_lt : (a x y : ℕ) → x < y → bump a x < bump a y
bump_lt a x y h = step (bumped a x) (bumped a y)
  where
    step : Bumped a x → Bumped a y → bump a x < bump a y
    step (stays p p') (stays q q') = omega arith
    step (stays p p') (moves q q') = omega arith
    step (moves p p') (stays q q') = omega arith
    step (moves p p') (moves q q') = omega arith

pub bump_lt_back : (a x y : ℕ) → bump a x < bump a y → x < y
bump_lt_back a x y h = step (bumped a x) (bumped a y)
  where
    step : Bumped a x → Bumped a y → x < y
    step (stays p p') (stays q q') = omega arith
    step (stays p p') (moves q q') = omega arith
    step (moves p p') (stays q q') = omega arith
    step (moves p p') (moves q q') = omega arith

pub bump_injective : (a x y : ℕ) → bump a x ≡ bump a y → x ≡ y
bump_injective a x y h = step (bumped a x) (bumped a y)
  where
    step : Bumped a x → Bumped a y → x ≡ y
    step (stays p p') (stays q q') = omega arith
    step (stays p p') (moves q q') = omega arith
    step (moves p p') (stays q q') = omega arith
    step (moves p p') (moves q q') = omega arith

pub bump_keeps : (a x y : ℕ) → ltb (bump a x) (bump a y) ≡ ltb x y
bump_keeps a x y = same_test (ltb (bump a x) (bump a y)) (ltb x y) (λ e. lt-ltb x y (bump_lt_back a x y (ltb-true (bump a x) (bump a y) e)))
    (λ e. lt-ltb (bump a x) (bump a y) (bump_lt a x y (ltb-true x y e)))

pub bump_eqb : (a x y : ℕ) → eqb (bump a x) (bump a y) ≡ eqb x y
bump_eqb a x y = same_test (eqb (bump a x) (bump a y)) (eqb x y) (λ e. eq-eqb x y (bump_injective a x y (eqb-true (bump a x) (bump a y) e)))
    (λ e. eq-eqb (bump a x) (bump a y) (ap (bump a) (eqb-true x y e)))

-- a is the one number that bump a does not reach
pub bump_misses : (a y : ℕ) → bump a y ≡ a → ⊥
bump_misses a y e = step (bumped a y)
  where
    step : Bumped a y → ⊥
    step (stays p q) = omega arith
    step (moves p q) = omega arith

pub bump_bump : (a b y : ℕ) → a ≤ b → bump (suc b) (bump a y) ≡ bump a (bump b y)
bump_bump a b y h = step (bumped a y) (bumped b y)
  where
    step : Bumped a y → Bumped b y → bump (suc b) (bump a y) ≡ bump a (bump b y)
    step (stays p p') (stays q q') = rw (p', q', p') (bump_below (suc b) y (omega arith))
    step (stays p p') (moves q q') = absurd (omega arith)
    step (moves p p') (stays q q') = rw (p', q', p') (bump_below (suc b) (suc y) (omega arith))
    step (moves p p') (moves q q') = rw (p', q') (bump_above (suc b) (suc y) (omega arith) ∙ sym (bump_above a (suc y) (omega arith)))

pub unbump_below : (a y : ℕ) → y < a → unbump a y ≡ y
unfolding unbump
unbump_below a y h = rw (lt-ltb y a h)

pub unbump_above : (a y : ℕ) → a ≤ y → unbump a y ≡ pred y
unfolding unbump
unbump_above a y h = rw (le-ltb y a h)

pub bump_unbump : (a y : ℕ) → (y ≡ a → ⊥) → bump a (unbump a y) ≡ y
bump_unbump a y n = step (below_or_not y a)
  where
    step : (y < a) ⊎ (a ≤ y) → bump a (unbump a y) ≡ y
    step (inl h) = rw (unbump_below a y h) (bump_below a y h)
    step (inr h) = let k : a < y = omega arith in rw (unbump_above a y h) (bump_above a (pred y) (omega arith) ∙ omega arith)

-- bounds of x from bounds of bump a x, and the other way round
pub bump_positive : (a x : ℕ) → 1 ≤ a → 1 ≤ bump a x → 1 ≤ x
bump_positive a x h k = step (bumped a x)
  where
    step : Bumped a x → 1 ≤ x
    step (stays p q) = omega arith
    step (moves p q) = omega arith

pub bump_at_most : (a x n : ℕ) → a ≤ suc n → bump a x ≤ suc n → x ≤ n
bump_at_most a x n h k = step (bumped a x)
  where
    step : Bumped a x → x ≤ n
    step (stays p q) = omega arith
    step (moves p q) = omega arith

pub bump_bounds : (a x n : ℕ) → 1 ≤ x → x ≤ n → (1 ≤ bump a x) × (bump a x ≤ suc n)
bump_bounds a x n h k = step (bumped a x)
  where
    step : Bumped a x → (1 ≤ bump a x) × (bump a x ≤ suc n)
    step (stays p q) = omega arith
    step (moves p q) = omega arith

-- every number but a is reached; in a permutation's bounds, from within them
pub bump_onto : (a y : ℕ) → (y ≡ a → ⊥) → (x : ℕ) × (bump a x ≡ y)
bump_onto a y n = (unbump a y, bump_unbump a y n)

pub bump_onto_within : (a y n : ℕ) → (y ≡ a → ⊥) → 1 ≤ a → a ≤ suc n → 1 ≤ y → y ≤ suc n → (x : ℕ) × (bump a x ≡ y) × (1 ≤ x) × (x ≤ n)
bump_onto_within a y n d p q h k =
    let e = bump_unbump a y d in
    let l : 1 ≤ unbump a y = bump_positive a (unbump a y) p (omega arith) in
    let u : unbump a y ≤ n = bump_at_most a (unbump a y) n q (omega arith) in
    (unbump a y, e, l, u)

pub map_bump_injective : (a : ℕ) (s t : List ℕ) → map (bump a) s ≡ map (bump a) t → s ≡ t
map_bump_injective a [] [] e = refl
map_bump_injective a [] (y ∷ t) e = let z : ◌≡◌ {A = ℕ} 0 1 = cc in absurd (omega arith)
map_bump_injective a (x ∷ s) [] e = let z : ◌≡◌ {A = ℕ} 0 1 = cc in absurd (omega arith)
map_bump_injective a (x ∷ s) (y ∷ t) e =
    let h : bump a x ≡ bump a y = cc in
    let r : map (bump a) s ≡ map (bump a) t = cc in
    ap₂ ◌∷◌ (bump_injective a x y h) (map_bump_injective a s t r)
