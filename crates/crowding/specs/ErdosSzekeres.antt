-- The theorem of Erdős and Szekeres: distinct numbers, no r + 1 of them increasing and no s + 1
-- decreasing in their order, are at most r * s.
use Rattle.std.specs.Prelude.{ℕ, zero, suc, ◌+◌, ◌*◌, ◌≤◌, ◌<◌, ◌≡◌, refl, ◌⊎◌, Bool, true, false, List, [], ◌∷◌, length}
use Rattle.std.proofs.Common.{inl, inr, suc-mul, arith, lt-ltb}
use mathlib.Core.List.Memᴰ
use mathlib.Core.List.Sublistᴰ as ListSublistᴰ
use mathlib.Core.List.{Sublistᴰ}
use Rattle.word.specs.Word.{distinct}
use Rattle.word.specs.ListLaws.{below_or_not}
use Rattle.word.specs.PermLaws.{distinct_out}
use Rattle.cell.proofs.WithoutLaws.{distinct_sublist}
use Rattle.crowding.specs.Crowding.{monotone}
use Rattle.crowding.specs.MonotoneLaws.{monotone_in, precedes_all}

-- The entries of a list behind m, in their order: those below m and below all that stand before
-- them, and the others
data Split : ℕ → List ℕ → List ℕ → List ℕ → Type 0 where
  none : {m : ℕ} → Split m [] [] []
  low : {m x : ℕ} {l a b : List ℕ} → x < m → Split x l a b → Split m (x ∷ l) (x ∷ a) b
  other : {m x : ℕ} {l a b : List ℕ} → m ≤ x → Split m l a b → Split m (x ∷ l) a (x ∷ b)

split : (m : ℕ) (l : List ℕ) → (a : List ℕ) × (b : List ℕ) × Split m l a b
split m [] = ([], [], none)
split m (x ∷ l) = go (below_or_not x m) (split x l) (split m l)
  where
    go : (x < m) ⊎ (m ≤ x) → (a : List ℕ) × (b : List ℕ) × Split x l a b → (a : List ℕ) × (b : List ℕ) × Split m l a b →
        (a : List ℕ) × (b : List ℕ) × Split m (x ∷ l) a b
    go (inl h) (a, b, d) k = (x ∷ a, b, low h d)
    go (inr h) k (a, b, d) = (a, x ∷ b, other h d)

split_length : {m : ℕ} {l a b : List ℕ} → Split m l a b → length l ≡ length a + length b
split_length none = refl
split_length (low h d) = omega (arith, split_length d)
split_length (other h d) = omega (arith, split_length d)

split_others : {m : ℕ} {l a b : List ℕ} → Split m l a b → Sublistᴰ b l
split_others none = ListSublistᴰ.slnil
split_others (low h d) = ListSublistᴰ.cons (split_others d)
split_others (other h d) = ListSublistᴰ.cons-cons refl (split_others d)

-- the first of the two lists decreases
split_lows : {m : ℕ} {l a b : List ℕ} → Split m l a b → Sublistᴰ a l × (monotone false (m ∷ a) ≡ true)
unfolding monotone
split_lows none = (ListSublistᴰ.slnil, refl)
split_lows (low {m = m} {x = x} {a = a} h d) =
    let (s, k) = split_lows d in
    (ListSublistᴰ.cons-cons refl s, monotone_in false m (x ∷ a) (precedes_all false m x a (lt-ltb x m h) k) k)
split_lows (other h d) = let (s, k) = split_lows d in (ListSublistᴰ.cons s, k)

-- and before each of the others stands one that is not above it
split_before : {m z : ℕ} {l a b t : List ℕ} → Split m l a b → Sublistᴰ (z ∷ t) b →
    (y : ℕ) × (y ≤ z) × Sublistᴰ (y ∷ (z ∷ t)) (m ∷ l)
split_before none s = let z : ◌≡◌ {A = ℕ} 0 1 = cc (ListSublistᴰ.eq-nil s) in absurd (omega arith)
split_before (low h d) s = let (y, k, r) = split_before d s in (y, k, ListSublistᴰ.cons r)
split_before {z = z} {t = t} (other {m = m} {x = x} {l = l} {b = b} h d) s = go (λ q. split_before d q) (ListSublistᴰ.cases_cons-cons s)
  where
    go : (Sublistᴰ (z ∷ t) b → (y : ℕ) × (y ≤ z) × Sublistᴰ (y ∷ (z ∷ t)) (m ∷ l)) →
        Sublistᴰ (z ∷ t) b ⊎ ((z ≡ x) × Sublistᴰ t b) → (y : ℕ) × (y ≤ z) × Sublistᴰ (y ∷ (z ∷ t)) (m ∷ (x ∷ l))
    go below (inl q) =
        let (y, k, r) = below q in
        (y, k, ListSublistᴰ.trans r (ListSublistᴰ.cons-cons refl (ListSublistᴰ.cons (ListSublistᴰ.refl l))))
    go below (inr (e, q)) =
        (m, omega arith, ListSublistᴰ.cons-cons refl (ListSublistᴰ.cons-cons e (ListSublistᴰ.trans q (split_others d))))

-- no monotone sublist of l has more than k entries
abbrev pub Bounded : Bool → ℕ → List ℕ → Type 0
Bounded up k l = (t : List ℕ) → Sublistᴰ t l → monotone up t ≡ true → length t ≤ k

pub bounded_sublist : (up : Bool) (k : ℕ) {s l : List ℕ} → Sublistᴰ s l → Bounded up k l → Bounded up k s
bounded_sublist up k d h t e m = h t (ListSublistᴰ.trans e d) m

-- by induction on r: the entries with no smaller one before them decrease, so they are at most s;
-- each other entry has one before and below it, so of the others no r + 1 increase
pub erdos_szekeres : (r s : ℕ) (l : List ℕ) → distinct l ≡ true → Bounded true r l → Bounded false s l → length l ≤ r * s
unfolding monotone
erdos_szekeres zero s [] e up down = omega arith
erdos_szekeres (suc r) s [] e up down = omega arith
erdos_szekeres zero s (x ∷ l) e up down =
    absurd (omega (arith, up (x ∷ []) (ListSublistᴰ.cons-cons refl (ListSublistᴰ.nil-sublist l)) refl))
erdos_szekeres (suc r) s (x ∷ l) e up down =
    let (a, b, d) = split x l in
    let (f, k) = split_lows d in
    let few : suc (length a) ≤ s = down (x ∷ a) (ListSublistᴰ.cons-cons refl f) k in
    let inside : Sublistᴰ b (x ∷ l) = ListSublistᴰ.cons (split_others d) in
    let rest : length b ≤ r * s = erdos_szekeres r s b (distinct_sublist inside e) (shorter_runs d) (bounded_sublist false s inside down) in
    rw (suc-mul) (omega (arith, split_length d))
  where
    extended : {z y : ℕ} {t : List ℕ} → y ≤ z → Sublistᴰ (y ∷ (z ∷ t)) (x ∷ l) → monotone true (z ∷ t) ≡ true → length (z ∷ t) ≤ r
    extended {z} {y} {t} h q m =
        let (f, k) = distinct_out y (z ∷ t) (distinct_sublist q e) in
        let apart : y ≡ z → ⊥ = λ (i : y ≡ z). f (Memᴰ.head i) in
        omega (arith, up (y ∷ (z ∷ t)) q (monotone_in true y (z ∷ t) (precedes_all true y z t (lt-ltb y z (omega arith)) m) m))

    shorter_runs : {a b : List ℕ} → Split x l a b → Bounded true r b
    shorter_runs d [] q m = omega arith
    shorter_runs d (z ∷ t) q m = let (y, h, i) = split_before d q in extended h i m
