-- The theorems on cells: the gap law, the finite test, removal, and the least violation.
use Rattle.std.specs.Prelude.{ℕ, suc, ◌≤◌, ◌<◌, ◌≡◌, refl, Bool, true, false, ◌↔◌, ◌⊎◌, length}
use Rattle.std.proofs.Common.{sym, ap, ◌∙◌, inl, inr, arith}
use mathlib.Core.List.Memᴰ
use mathlib.Core.List.{List, [], ◌∷◌, Memᴰ}
use Rattle.word.specs.Lists.{all, keep}
use Rattle.word.specs.Word.{avoids, longest, within, is_perm, perms}
use Rattle.word.specs.ListLaws.{same_test, same_or_not}
use Rattle.word.specs.PermLaws.{perm_bounds, perms_are, perms_all}
use Rattle.cell.specs.Cell.{cell, without, deleted, merged, at_least, free, total}
use Rattle.cell.specs.Claim.{GapClaim, Carries, DeletionClaim, SizesAgreeTo}
use Rattle.cell.specs.Built.{built}
use Rattle.cell.proofs.SpacingWalk.{at_least_refl, at_least_length, free_down, compared_are, compared_all, keep_sizes, keep_same}
use Rattle.cell.proofs.BuiltWords.{built_perm, built_injective}
use Rattle.cell.proofs.BuiltCells.{cell_size, cell_out, cell_in, cell_width}
use Rattle.cell.proofs.RestLaws.{Within}
use Rattle.cell.proofs.GapLaws.{gap_core}
use Rattle.cell.proofs.FiniteTest.{Agrees, Clean, Violation, minimal_violation, finite_test, clean_of_agrees}
use Rattle.cell.proofs.WithoutLaws.{without_sublist}
use Rattle.cell.proofs.MergeLaws.{merged_length, merged_total}
use Rattle.cell.proofs.DeletionLaws.{deleted_perm, deleted_avoids, built_deleted_avoids, deleted_built}

-- a list without members is empty
no_members : (l : List (List ℕ)) → ((w : List ℕ) → Memᴰ w l → ⊥) → l ≡ []
no_members [] h = refl
no_members (w ∷ l) h = absurd (h w (Memᴰ.head refl))

-- the values of a prefix have a component below them and one above
pub prefix_within : (p g : List ℕ) → is_perm p ≡ true → length g ≡ suc (length p) → Within p g
prefix_within p g perm size x m = let (low, high) = perm_bounds p perm m in omega arith

-- Gap law: the cell at b is empty exactly if the gap claim holds.
pub gap_law : (P : List (List ℕ)) (p b : List ℕ) → is_perm p ≡ true → (cell P p b ≡ []) ↔ GapClaim P p b
gap_law P p b perm = (up, λ claim. claim b (at_least_refl b))
  where
    below : (g : List ℕ) → at_least g b ≡ true → length g ≡ suc (length p) → (w : List ℕ) →
        Memᴰ w (cell P p g) → (v : List ℕ) × Memᴰ v (cell P p b)
    below g h size w m =
        let (σ, s, a, e) = cell_out P p g m in
        let (sp, sl) = perms_are (total g) s in
        let (τ, tp, tl, ta) = gap_core P p g b σ (prefix_within p g perm size) h sp sl a in
        (built p b τ, cell_in P p b τ perm (sym (at_least_length g b h) ∙ size) (perms_all (total b) τ tp tl) ta)

    up : cell P p b ≡ [] → GapClaim P p b
    up e g h = go (same_or_not (length g) (suc (length p)))
      where
        go : (length g ≡ suc (length p)) ⊎ (length g ≡ suc (length p) → ⊥) → cell P p g ≡ []
        go (inl size) = no_members (cell P p g) (λ w m. let (v, n) = below g h size w m in Memᴰ.not-nil (rw e at n))
        go (inr wide) = cell_width P p g wide

module _ (P : List (List ℕ)) (p R : List ℕ) (perm : is_perm p ≡ true) (inside : all (within (length p)) R ≡ true) where
  -- deleting, on the cell at one spacing
  module _ (g : List ℕ) (size : length g ≡ suc (length p)) where
    shorter_size_lem : length (merged R p g) ≡ suc (length (deleted R p))
    shorter_size_lem = merged_length R p g perm size inside

    -- the rests of the shorter cell
    shorter_out : {w : List ℕ} → Memᴰ w (cell P (deleted R p) (merged R p g)) →
        (σ : List ℕ) × Memᴰ σ (perms (total g)) × (avoids P (built (deleted R p) (merged R p g) σ) ≡ true) ×
        (w ≡ built (deleted R p) (merged R p g) σ)
    shorter_out m = rw (merged_total R p g) at (cell_out P (deleted R p) (merged R p g) m)

    pub shorter_in : (σ : List ℕ) → Memᴰ σ (perms (total g)) → avoids P (built (deleted R p) (merged R p g) σ) ≡ true →
        Memᴰ (built (deleted R p) (merged R p g) σ) (cell P (deleted R p) (merged R p g))
    shorter_in σ m a =
        cell_in P (deleted R p) (merged R p g) σ (deleted_perm R p perm) shorter_size_lem (rw (← merged_total R p g) at m) a

    pub removed : (σ : List ℕ) → Memᴰ σ (perms (total g)) → deleted R (built p g σ) ≡ built (deleted R p) (merged R p g) σ
    removed σ m =
        let (sp, sl) = perms_are (total g) m in
        deleted_built R p g perm size inside σ (built_perm p g σ perm size sp sl)
        (built_perm (deleted R p) (merged R p g) σ (deleted_perm R p perm) shorter_size_lem sp (sl ∙ sym (merged_total R p g)))

    -- Removal is always into ..
    pub removal_into : (w : List ℕ) → Memᴰ w (cell P p g) → Memᴰ (deleted R w) (cell P (deleted R p) (merged R p g))
    removal_into w m = let (σ, s, a, e) = cell_out P p g m in go σ s a e
      where
        go : (σ : List ℕ) → Memᴰ σ (perms (total g)) → avoids P (built p g σ) ≡ true → w ≡ built p g σ →
            Memᴰ (deleted R w) (cell P (deleted R p) (merged R p g))
        go σ s a e = rw (e, removed σ s) (shorter_in σ s (deleted_avoids R p g perm size inside σ P a))

    -- no two members of a cell lose different entries and become the same word
    pub removal_one_one : (v w : List ℕ) → Memᴰ v (cell P p g) → Memᴰ w (cell P p g) → deleted R v ≡ deleted R w → v ≡ w
    removal_one_one v w m n e =
        let (σ, s, a, d) = cell_out P p g m in
        let (τ, t, b, f) = cell_out P p g n in
        go σ s d τ t f
      where
        go : (σ : List ℕ) → Memᴰ σ (perms (total g)) → v ≡ built p g σ → (τ : List ℕ) →
            Memᴰ τ (perms (total g)) → w ≡ built p g τ → v ≡ w
        go σ s d τ t f =
            let same : σ ≡ τ =
            built_injective (deleted R p) (merged R p g) σ τ
            (sym (removed σ s) ∙ ap (deleted R) (sym d) ∙ e ∙ ap (deleted R) f ∙ removed τ t) in
            d ∙ ap (built p g) same ∙ sym f

    -- The sizes agree exactly if every avoiding rest of the shorter prefix is one of the prefix.
    pub agrees_of_sizes : length (cell P p g) ≡ length (cell P (deleted R p) (merged R p g)) → Agrees P p (without R p) g
    agrees_of_sizes e σ sp sl a =
        keep_sizes (λ τ. avoids P (built p g τ)) (λ τ. avoids P (built (deleted R p) (merged R p g) τ)) (perms (total g))
        (λ τ m h. deleted_avoids R p g perm size inside τ P h)
        (sym (cell_size P p g perm size) ∙ e ∙ cell_size P (deleted R p) (merged R p g) (deleted_perm R p perm) shorter_size_lem ∙
        ap (λ (t : ℕ). length (keep (λ τ. avoids P (built (deleted R p) (merged R p g) τ)) (perms t))) (merged_total R p g))
        σ (perms_all (total g) σ sp sl) ∙ built_deleted_avoids R p g perm size inside σ P ∙ a

    pub agrees_test : Agrees P p (without R p) g → (σ : List ℕ) → Memᴰ σ (perms (total g)) →
        avoids P (built p g σ) ≡ avoids P (built (deleted R p) (merged R p g) σ)
    agrees_test agree σ m =
        let (sp, sl) = perms_are (total g) m in
        same_test (avoids P (built p g σ)) (avoids P (built (deleted R p) (merged R p g) σ)) (deleted_avoids R p g perm size inside σ P)
        (λ h. agree σ sp sl (sym (built_deleted_avoids R p g perm size inside σ P) ∙ h))

    pub sizes_of_agrees : Agrees P p (without R p) g → length (cell P p g) ≡ length (cell P (deleted R p) (merged R p g))
    sizes_of_agrees agree =
        cell_size P p g perm size ∙
        ap length (keep_same (λ τ. avoids P (built p g τ)) (λ τ. avoids P (built (deleted R p) (merged R p g) τ))
        (perms (total g)) (agrees_test agree)) ∙
        sym (cell_size P (deleted R p) (merged R p g) (deleted_perm R p perm) shorter_size_lem ∙
        ap (λ (t : ℕ). length (keep (λ τ. avoids P (built (deleted R p) (merged R p g) τ)) (perms t))) (merged_total R p g))

    -- So does removal carry the cell one to one onto the whole shorter cell.
    pub carries_of_agrees : Agrees P p (without R p) g → Carries (deleted R) (cell P p g) (cell P (deleted R p) (merged R p g))
    carries_of_agrees agree = record { into = removal_into; one_one = removal_one_one; onto = back }
      where
        back : (v : List ℕ) → Memᴰ v (cell P (deleted R p) (merged R p g)) → (w : List ℕ) ×
            Memᴰ w (cell P p g) × (deleted R w ≡ v)
        back v m = let (σ, s, a, e) = shorter_out m in go σ s a e
          where
            go : (σ : List ℕ) → Memᴰ σ (perms (total g)) → avoids P (built (deleted R p) (merged R p g) σ) ≡ true →
                v ≡ built (deleted R p) (merged R p g) σ → (w : List ℕ) × Memᴰ w (cell P p g) × (deleted R w ≡ v)
            go σ s a e = (built p g σ, cell_in P p g σ perm size s (agrees_test agree σ s ∙ a), removed σ s ∙ sym e)

    pub agrees_of_carries : Carries (deleted R) (cell P p g) (cell P (deleted R p) (merged R p g)) → Agrees P p (without R p) g
    agrees_of_carries carries σ sp sl a =
        let s = perms_all (total g) σ sp sl in
        let (w, m, e) = carries.onto (built (deleted R p) (merged R p g) σ)
        (shorter_in σ s (built_deleted_avoids R p g perm size inside σ P ∙ a)) in
        let (τ, t, b, f) = cell_out P p g m in
        go s w e τ t b f
      where
        go : Memᴰ σ (perms (total g)) → (w : List ℕ) → deleted R w ≡ built (deleted R p) (merged R p g) σ →
            (τ : List ℕ) → Memᴰ τ (perms (total g)) → avoids P (built p g τ) ≡ true → w ≡ built p g τ → avoids P (built p g σ) ≡ true
        go s w e τ t b f =
            let same : τ ≡ σ = built_injective (deleted R p) (merged R p g) τ σ (sym (removed τ t) ∙ ap (deleted R) (sym f) ∙ e) in
            ap (λ (x : List ℕ). avoids P (built p g x)) (sym same) ∙ b

    -- The sizes are equal exactly if each member of the shorter cell has a partner in the cell.
    pub sizes_equal : ((v : List ℕ) → Memᴰ v (cell P (deleted R p) (merged R p g)) → (w : List ℕ) × Memᴰ w
        (cell P p g) × (deleted R w ≡ v)) →
        length (cell P p g) ≡ length (cell P (deleted R p) (merged R p g))
    sizes_equal back = sizes_of_agrees (agrees_of_carries (record { into = removal_into; one_one = removal_one_one; onto = back }))

    pub sizes_differ_lem : (v : List ℕ) → Memᴰ v (cell P (deleted R p) (merged R p g)) →
        ((w : List ℕ) → Memᴰ w (cell P p g) → deleted R w ≡ v → ⊥) → length (cell P p g) ≡
        length (cell P (deleted R p) (merged R p g)) → ⊥
    sizes_differ_lem v m alone e = let (w, n, q) = (carries_of_agrees (agrees_of_sizes e)).onto v m in alone w n q

    -- A member of the shorter cell without a partner gives a violation that is the prefix and one
    -- copy of a pattern, at a spacing at most g.
    pub least_violation : (v : List ℕ) → Memᴰ v (cell P (deleted R p) (merged R p g)) →
        ((w : List ℕ) → Memᴰ w (cell P p g) → deleted R w ≡ v → ⊥) → Violation P p (without R p) g
    least_violation v m alone = let (σ, s, a, e) = shorter_out m in let (sp, sl) = perms_are (total g) s in
        go σ s sp sl a e (avoids P (built p g σ)) refl
      where
        go : (σ : List ℕ) → Memᴰ σ (perms (total g)) → is_perm σ ≡ true → length σ ≡ total g →
            avoids P (built (deleted R p) (merged R p g) σ) ≡ true →
            v ≡ built (deleted R p) (merged R p g) σ → (t : Bool) → avoids P (built p g σ) ≡ t → Violation P p (without R p) g
        go σ s sp sl a e true f = absurd (alone (built p g σ) (cell_in P p g σ perm size s f) (removed σ s ∙ sym e))
        go σ s sp sl a e false f =
            minimal_violation P p (without R p) g σ (prefix_within p g perm size) (without_sublist R p) sp sl
            (sym (built_deleted_avoids R p g perm size inside σ P) ∙ a) f

  module _ (B : List (List ℕ)) where
    -- the spacings that a deletion speaks of, closed downwards
    Spoken : List ℕ → Type 0
    Spoken g = (length g ≡ suc (length p)) × (free B g ≡ true)

    -- The deletion claim holds if no copy of a pattern is lost below the length of the longest
    -- pattern ..
    pub claim_of_clean : ((g : List ℕ) → length g ≡ suc (length p) → free B g ≡ true → total g < longest P → Clean P p (without R p) g) →
        DeletionClaim P p B R
    unfolding Spoken
    claim_of_clean low g size f =
        carries_of_agrees g size
        (finite_test P p (without R p) Spoken (λ h b s a. (sym (at_least_length h b a) ∙ s.0, free_down B h b s.1 a))
        (λ h s. prefix_within p h perm s.0) (without_sublist R p) (λ h s t. low h s.0 s.1 t) g (size, f))

    -- .. and exactly if no rest is lost there.
    pub claim_of_agrees : ((g : List ℕ) → length g ≡ suc (length p) → free B g ≡ true → total g < longest P → Agrees P p (without R p) g) →
        DeletionClaim P p B R
    claim_of_agrees low = claim_of_clean (λ g size f t. clean_of_agrees P p (without R p) g (low g size f t))

    pub agrees_of_claim : DeletionClaim P p B R → (g : List ℕ) → length g ≡ suc (length p) → free B g ≡ true → Agrees P p (without R p) g
    agrees_of_claim claim g size f = agrees_of_carries g size (claim g size f)

    -- Finite test: the sizes agree at all spacings compared under m exactly if the deletion claim
    -- holds at every length, for every m that is at least the length of the longest pattern.
    -- (BasisLaws.finite_basis asks only that it is at least that of the basis.)
    pub finite_law : (m : ℕ) → longest P ≤ m → SizesAgreeTo m P p B R ↔ DeletionClaim P p B R
    finite_law m reach = (
      λ sizes. claim_of_agrees (λ g size f t. agrees_of_sizes g size (sizes g (compared_all m (length p) B g size (omega arith) f))),
      λ claim g d. let (size, t, f) = compared_are m (length p) B d in sizes_of_agrees g size (agrees_of_claim claim g size f),
    )
