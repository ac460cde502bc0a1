-- Laws of the basis of a set of patterns: the same words avoid it, so the cells, the claims and the
-- verdicts are the same.
use Prim.Native.Nat.{ℕ, zero, suc, ◌+◌, ◌≤◌, ◌<◌}
use Rattle.std.specs.Prelude.{◌≡◌, ◌↔◌, Bool, not, ◌||◌, ◌&&◌, take}
use Rattle.std.proofs.Math.Path.{refl, ap, fun_ext}
use Rattle.std.proofs.Common.{sym, ◌∙◌, arith}
use Rattle.std.proofs.Math.Bool.{true, false}
use mathlib.Core.List.{List, [], ◌∷◌, Memᴰ}
use Rattle.std.proofs.Math.ListN.{length}
use Rattle.word.specs.Lists.{all, keep}
use Rattle.word.specs.Word.{iso, contains, avoids, longest, reduce, within, is_perm, perms}
use Rattle.word.specs.ListLaws.{true_not_false, not_out, same_test, all_out, all_in, all_fails, keep_out, keep_in}
use Rattle.word.specs.IsoLaws.{iso_length}
use Rattle.word.specs.ContainsLaws.{contains_out, contains_self, contains_trans, avoids_fails, avoids_none}
use Rattle.word.specs.ContainsLaws.{avoids_by, avoids_not, longest_at_least}
use Rattle.word.specs.PermLaws.{perm_distinct, reduce_perm}
use Rattle.cell.specs.Basis.{same, basic, basis}
use Rattle.cell.specs.Cell.{spacing, in_cell, cell, total, deleted, merged, m_of}
use Rattle.cell.specs.Claim.{GapClaim, DeletionClaim, SizesAgreeTo, SizesAgree}
use Rattle.cell.specs.SublistLaws.{sublist_length, sublist_whole}
use Rattle.cell.proofs.BuiltCells.{same_in, same_out}
use Rattle.cell.proofs.FiniteTest.{Agrees, clean_basis}
use Rattle.cell.proofs.DeletionLaws.{iso_reduces}
use Rattle.cell.proofs.Theorems.{finite_law}

-- permutations that are isomorphic are equal
pub iso_perms : (α β : List ℕ) → is_perm α ≡ true → is_perm β ≡ true → iso α β ≡ true → α ≡ β
iso_perms α β p q h =
    sym (reduce_perm α p) ∙ iso_reduces α β (perm_distinct α p) (perm_distinct β q) h ∙ reduce_perm β q

-- a contained pattern is at most as long
pub contains_length : (α β : List ℕ) → contains α β ≡ true → length α ≤ length β
contains_length α β h = let (s, d, e) = contains_out α β h in omega (arith, iso_length α s e, sublist_length d)

-- a permutation that contains one of its own length is equal to it
pub contains_equal : (α β : List ℕ) → is_perm α ≡ true → is_perm β ≡ true → contains α β ≡ true → length β ≤ length α → α ≡ β
contains_equal α β p q h l =
    let (s, d, e) = contains_out α β h in
    let whole : s ≡ β = sublist_whole d (omega (arith, iso_length α s e)) in
    iso_perms α β p q (ap (iso α) (sym whole) ∙ e)

-- where not basic, another pattern is contained
other_test : (a b : Bool) → a || not b ≡ false → (a ≡ false) × (b ≡ true)
other_test true b e = absurd (true_not_false e)
other_test false true e = (refl, refl)
other_test false false e = absurd (true_not_false e)

pub basic_fails : (P : List (List ℕ)) (β : List ℕ) → basic P β ≡ false → (α : List ℕ) × Memᴰ α P ×
    (same α β ≡ false) × (contains α β ≡ true)
unfolding basic
basic_fails P β h =
    let (α, m, e) = all_fails (λ α. same α β || not (contains α β)) P h in
    let (o, c) = other_test (same α β) (contains α β) e in
    (α, m, o, c)

-- the members of the basis are patterns of the set that contain no other
pub basis_in : (P : List (List ℕ)) {β : List ℕ} → Memᴰ β (basis P) → Memᴰ β P
unfolding basis
basis_in P m = (keep_out (basic P) P m).0

pub basis_basic : (P : List (List ℕ)) {β : List ℕ} → Memᴰ β (basis P) → basic P β ≡ true
unfolding basis
basis_basic P m = (keep_out (basic P) P m).1

-- no member of the basis contains another
pub basis_apart : (P : List (List ℕ)) {α β : List ℕ} → Memᴰ α (basis P) → Memᴰ β (basis P) → contains α β ≡ true → α ≡ β
unfolding basic
basis_apart P {α} {β} m n c =
    go (same α β) refl (contains α β) c (all_out (λ α. same α β || not (contains α β)) (basis_in P m) (basis_basic P n))
  where
    go : (a : Bool) → same α β ≡ a → (b : Bool) → b ≡ true → a || not b ≡ true → α ≡ β
    go true e b q h = same_out α β e
    go false e b q h = absurd (not_out b h q)

-- the longest pattern of a list is at most as long as a bound of all
pub longest_at_most : (P : List (List ℕ)) (n : ℕ) → ((β : List ℕ) → Memᴰ β P → length β ≤ n) → longest P ≤ n
unfolding longest
longest_at_most [] n h = omega arith
longest_at_most (β ∷ P) n h =
    let here = h β (Memᴰ.head refl) in
    let later = longest_at_most P n (λ α m. h α (Memᴰ.tail m)) in
    omega arith

pub longest_basis : (P : List (List ℕ)) → longest (basis P) ≤ longest P
longest_basis P = longest_at_most (basis P) (longest P) (λ β m. longest_at_least P (basis_in P m))

keep_all : (f : List ℕ → Bool) (l : List (List ℕ)) → ((x : List ℕ) → Memᴰ x l → f x ≡ true) → keep f l ≡ l
keep_all f [] h = refl
keep_all f (x ∷ l) h = rw (h x (Memᴰ.head refl), keep_all f l (λ y m. h y (Memᴰ.tail m))) refl

-- The basis is its own basis.
pub basis_again : (P : List (List ℕ)) → basis (basis P) ≡ basis P
unfolding basis basic
basis_again P = keep_all (basic (basis P)) (basis P) (λ β m. all_in (λ α. same α β || not (contains α β)) (basis P)
    (λ α n. all_out (λ α. same α β || not (contains α β)) (basis_in P n) (basis_basic P m)))

-- m is at least the length of the longest pattern of the basis, and at most that of the longest
-- pattern, which was the m of document 01 before order 3; it is that of the basis, and the old one
-- where the set is a basis.
pub m_reaches : (P : List (List ℕ)) → longest (basis P) ≤ m_of P
unfolding m_of
m_reaches P = omega arith

pub m_at_most : (P : List (List ℕ)) → m_of P ≤ longest P
unfolding m_of
m_at_most P = longest_basis P

pub m_of_basis : (P : List (List ℕ)) → m_of P ≡ m_of (basis P)
unfolding m_of
m_of_basis P = ap longest (sym (basis_again P))

pub m_of_whole : (P : List (List ℕ)) → basis P ≡ P → m_of P ≡ longest P
unfolding m_of
m_of_whole P e = ap longest e

module _ (P : List (List ℕ)) (each_perm : (β : List ℕ) → Memᴰ β P → is_perm β ≡ true) where
  -- a pattern that is not basic contains a shorter one
  shorter : (β : List ℕ) → Memᴰ β P → basic P β ≡ false → (α : List ℕ) × Memᴰ α P × (length α < length β) × (contains α β ≡ true)
  shorter β m h =
      let (α, n, other, c) = basic_fails P β h in
      let different : length β ≤ length α → ⊥ =
      λ l. true_not_false (sym (same_in α β (contains_equal α β (each_perm α n) (each_perm β m) c l)) ∙ other) in
      (α, n, omega (arith, different), c)

  basis_below : (k : ℕ) (β : List ℕ) → length β < k → Memᴰ β P → (α : List ℕ) × Memᴰ α (basis P) × (contains α β ≡ true)
  unfolding basis
  basis_below zero β l m = absurd (omega arith)
  basis_below (suc k) β l m = go (basic P β) refl (basis_below k)
    where
      go : (t : Bool) → basic P β ≡ t →
          ((α : List ℕ) → length α < k → Memᴰ α P → (γ : List ℕ) × Memᴰ γ (keep (basic P) P) × (contains γ α ≡ true)) →
          (γ : List ℕ) × Memᴰ γ (keep (basic P) P) × (contains γ β ≡ true)
      go true e below = (β, keep_in (basic P) m e, contains_self β)
      go false e below =
          let (α, n, s, c) = shorter β m e in
          let (γ, i, d) = below α (omega arith) n in
          (γ, i, contains_trans γ α β d c)

  -- every pattern of the set contains one of the basis
  pub basis_covers : (β : List ℕ) → Memᴰ β P → (α : List ℕ) × Memᴰ α (basis P) × (contains α β ≡ true)
  basis_covers β m = basis_below (suc (length β)) β (omega arith) m

  -- the same words avoid the set and its basis
  pub basis_avoids : (w : List ℕ) → avoids P w ≡ avoids (basis P) w
  basis_avoids w = same_test (avoids P w) (avoids (basis P) w)
      (λ h. avoids_by (basis P) w (λ β m. avoids_none P w (basis_in P m) h)) (λ h. go (avoids P w) refl h)
    where
      go : (t : Bool) → avoids P w ≡ t → avoids (basis P) w ≡ true → t ≡ true
      go true e h = refl
      go false e h =
          let (β, m, c) = avoids_fails P w e in
          let (α, n, d) = basis_covers β m in
          sym (avoids_not (basis P) w n (contains_trans α β w d c)) ∙ h

  -- the cells are the same lists
  pub basis_cell : (p g : List ℕ) → cell P p g ≡ cell (basis P) p g
  unfolding cell in_cell
  basis_cell p g = ap (λ (f : List ℕ → Bool). keep f (perms (length p + total g))) (fun_ext test)
    where
      test : (w : List ℕ) → in_cell P p g w ≡ in_cell (basis P) p g w
      test w = ap (λ t. t && (same (reduce (take (length p) w)) p && same (spacing (length w) (take (length p) w)) g)) (basis_avoids w)

  -- the same rests pass the finite test
  pub basis_agrees : (p q g : List ℕ) → Agrees P p q g ↔ Agrees (basis P) p q g
  basis_agrees p q g = clean_basis P (basis P) p q g basis_avoids

  -- the claims on the set are the claims on its basis
  pub basis_gap : (p b : List ℕ) → GapClaim P p b ↔ GapClaim (basis P) p b
  basis_gap p b = (λ h g l. sym (basis_cell p g) ∙ h g l, λ h g l. basis_cell p g ∙ h g l)

  pub basis_deletion : (p : List ℕ) (B : List (List ℕ)) (R : List ℕ) → DeletionClaim P p B R ↔ DeletionClaim (basis P) p B R
  basis_deletion p B R = (
    λ h g l f. rw (← basis_cell p g, ← basis_cell (deleted R p) (merged R p g)) (h g l f),
    λ h g l f. rw (basis_cell p g, basis_cell (deleted R p) (merged R p g)) (h g l f),
  )

  -- Finite test: the sizes agree at all spacings compared under m exactly if the deletion claim
  -- holds at every length, for every m that is at least the length of the longest pattern of the
  -- basis.
  pub finite_basis : (m : ℕ) → longest (basis P) ≤ m → (p R : List ℕ) → is_perm p ≡ true → all (within (length p)) R ≡ true →
      (B : List (List ℕ)) → SizesAgreeTo m P p B R ↔ DeletionClaim P p B R
  finite_basis m reach p R perm inside B =
      let (forth, back) = basis_deletion p B R in
      let (up, down) = finite_law (basis P) p R perm inside B m reach in (
        λ h. back (up (λ g d. rw (← basis_cell p g, ← basis_cell (deleted R p) (merged R p g)) (h g d))),
        λ h g d. rw (basis_cell p g, basis_cell (deleted R p) (merged R p g)) (down (forth h) g d),
      )

  -- The finite test with the m of the definition.
  pub finite_compared : (p R : List ℕ) → is_perm p ≡ true → all (within (length p)) R ≡ true → (B : List (List ℕ)) →
      SizesAgree P p B R ↔ DeletionClaim P p B R
  finite_compared p R perm inside B = finite_basis (m_of P) (m_reaches P) p R perm inside B

  -- Two such m judge a deletion alike.
  pub sizes_alike : (m n : ℕ) → longest (basis P) ≤ m → longest (basis P) ≤ n → (p R : List ℕ) → is_perm p ≡ true →
      all (within (length p)) R ≡ true → (B : List (List ℕ)) → SizesAgreeTo m P p B R ↔ SizesAgreeTo n P p B R
  sizes_alike m n reach further p R perm inside B =
      let (up, down) = finite_basis m reach p R perm inside B in
      let (rise, fall) = finite_basis n further p R perm inside B in
      (λ h. fall (up h), λ h. down (rise h))
