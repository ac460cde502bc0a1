-- Emptiness goes upwards: if some word over a spacing avoids the patterns, so does one over every
-- smaller spacing.
use Rattle.std.specs.Prelude.{ℕ, zero, suc, ◌+◌, ◌-◌, ◌≤◌, ◌<◌, ◌≡◌, refl, true, ◌⊎◌, List, [], ◌∷◌, length, leb}
use Rattle.std.proofs.Common.{sym, ap₂, inl, inr, arith, leb-true, le-leb}
use Rattle.word.specs.Word.{avoids, is_perm}
use Rattle.word.specs.ListLaws.{below_or_not, and_in, and_left, and_right, true_not_false}
use Rattle.word.specs.PermLaws.{has_out, perm_has}
use Rattle.cell.specs.Cell.{total, at_least}
use Rattle.cell.specs.Built.{built}
use Rattle.cell.proofs.SpacingWalk.{at_least_total}
use Rattle.cell.specs.SublistLaws.{mem_split}
use Rattle.cell.proofs.RestLaws.{lowered, Lowered, here, later, lowers, total_lowered}
use Rattle.cell.proofs.RestLaws.{take_out, Within, within_lowered, avoids_lowered}

-- a spacing that is at least b, with the same total, is b
pub at_least_same : (g b : List ℕ) → at_least g b ≡ true → total g ≤ total b → g ≡ b
unfolding at_least total
at_least_same [] [] h k = refl
at_least_same [] (y ∷ b) h k = absurd (true_not_false (sym h))
at_least_same (x ∷ g) [] h k = absurd (true_not_false (sym h))
at_least_same (x ∷ g) (y ∷ b) h k =
    let p : y ≤ x = leb-true y x (and_left (leb y x) (at_least g b) h) in
    let r : at_least g b ≡ true = and_right (leb y x) (at_least g b) h in
    let t : total b ≤ total g = at_least_total g b r in
    let e : x ≡ y = omega arith in
    ap₂ ◌∷◌ e (at_least_same g b r (omega arith))

-- with a larger total, some component may be lowered
pub at_least_more : (g b : List ℕ) → at_least g b ≡ true → total b < total g → (s : ℕ) × (1 ≤ s) × (s ≤ total g) ×
    (at_least (lowered g s) b ≡ true)
unfolding at_least total lowered
at_least_more [] b h k = absurd (omega arith)
at_least_more (x ∷ g) [] h k = absurd (true_not_false (sym h))
at_least_more (x ∷ g) (y ∷ b) h k = go (at_least_more g b rest) (below_or_not y x)
  where
    most : y ≤ x
    most = leb-true y x (and_left (leb y x) (at_least g b) h)

    rest : at_least g b ≡ true
    rest = and_right (leb y x) (at_least g b) h

    one : y < x → Lowered x g 1 → at_least (lowered (x ∷ g) 1) (y ∷ b) ≡ true
    one p (here q e) = rw e (and_in (leb y (x - 1)) (at_least g b) (le-leb y (x - 1) (omega arith)) rest)
    one p (later q e) = absurd (omega arith)

    more : (s : ℕ) → 1 ≤ s → at_least (lowered g s) b ≡ true → Lowered x g (x + s) → at_least (lowered (x ∷ g) (x + s)) (y ∷ b) ≡ true
    more s p t (here q e) = absurd (omega arith)
    more s p t (later q e) =
        let back : x + s - x ≡ s = omega arith in
        rw (e, back) (and_in (leb y x) (at_least (lowered g s) b) (le-leb y x most) t)

    go : (total b < total g → (s : ℕ) × (1 ≤ s) × (s ≤ total g) × (at_least (lowered g s) b ≡ true)) → (y < x) ⊎ (x ≤ y) →
        (s : ℕ) × (1 ≤ s) × (s ≤ x + total g) × (at_least (lowered (x ∷ g) s) (y ∷ b) ≡ true)
    go ih (inl p) = (1, omega arith, omega arith, one p (lowers x g 1))
    go ih (inr p) = let (s, low, high, t) = ih (omega arith) in (x + s, omega arith, omega arith, more s low t (lowers x g (x + s)))

-- A gap vector's own cell decides: an avoiding word over g gives one over every b that g is at
-- least.
pub gap_core : (P : List (List ℕ)) (p g b σ : List ℕ) → Within p g → at_least g b ≡ true → is_perm σ ≡ true → length σ ≡ total g →
    avoids P (built p g σ) ≡ true → (τ : List ℕ) × (is_perm τ ≡ true) × (length τ ≡ total b) × (avoids P (built p b τ) ≡ true)
gap_core P p g b σ w h e l a = go (total g - total b) g σ w h e l a (omega (arith, at_least_total g b h))
  where
    go : (n : ℕ) (g σ : List ℕ) → Within p g → at_least g b ≡ true → is_perm σ ≡ true → length σ ≡ total g → avoids P (built p g σ) ≡ true →
        total g ≡ total b + n → (τ : List ℕ) × (is_perm τ ≡ true) × (length τ ≡ total b) × (avoids P (built p b τ) ≡ true)
    go zero g σ w h e l a t =
        let q : g ≡ b = at_least_same g b h (omega arith) in (σ, e, omega arith, rw q at a)
    go (suc n) g σ w h e l a t =
        let (s, low, high, k) = at_least_more g b h (omega arith) in
        let (u, v, q) = mem_split (has_out s σ (perm_has σ s e low (omega arith))) in
        let (τ, f, j, size, one, most) = take_out σ u s v q e in
        let less : total (lowered g s) + 1 ≡ total g = total_lowered g s low high in
        go n (lowered g s) τ (within_lowered p g s w) k f (omega arith) (avoids_lowered P p g σ u s v τ q low w j a) (omega arith)
