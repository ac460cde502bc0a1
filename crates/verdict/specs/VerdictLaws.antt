-- The theorem on the verdict: a scheme is accepted exactly if it is well-formed and all its claims
-- are true at every length.
use Rattle.std.specs.Prelude.{ℕ, ◌≤◌, ◌≡◌, refl, Bool, true, false, not, ◌↔◌, length, eqb}
use Rattle.std.proofs.Common.{sym, ap, ◌∙◌, eqb-true, eq-eqb}
use mathlib.Core.List.{List, [], ◌∷◌, ◌++◌, Memᴰ}
use Rattle.word.specs.Lists.{any}
use Rattle.word.specs.Word.{longest, is_perm}
use Rattle.word.specs.ListLaws.{true_not_false}
use Rattle.word.specs.Finding.{Finding, clean, fault, first_fault}
use Rattle.word.specs.declared.refusal.Refusal.TheVariants.{LiveGap, Irreversible}
use Rattle.cell.specs.Basis.{basis}
use Rattle.cell.specs.Cell.{cell, deleted, merged, m_of, compared_to}
use Rattle.cell.specs.Claim.{GapClaim, SizesAgreeTo}
use Rattle.cell.proofs.Theorems.{gap_law}
use Rattle.cell.proofs.BasisLaws.{m_reaches, finite_basis}
use Rattle.forms.specs.SchemeList.{Does, expands, deletes, EntryList}
use Rattle.scheme.specs.WellFormed.{first_at, outside, pattern_tests, scheme_tests}
use Rattle.forms.specs.SchemeMemory.{fault_of}
use Rattle.verdict.specs.Verdict.{is_empty, live_gap, sizes_differ, differs_under, differs, claim_tests, compared_cells}
use Rattle.verdict.specs.Verdict.{judge_tests, answered, verdict_of, accepted}
use Rattle.verdict.specs.Truth.{WellFormed, RuleClaim, AllTrue}
use Rattle.scheme.specs.FindingLaws.{clean_in, clean_left, clean_right, clean_append, clean_two, first_out, first_in, none_out, none_in}
use Rattle.scheme.specs.PositionLaws.{positions_inside}
use Rattle.scheme.specs.ProperLaws.{proper, proper_pattern}

-- a list is empty or not
pub empty_out : (l : List (List ℕ)) → not (is_empty l) ≡ false → l ≡ []
empty_out [] e = refl
empty_out (w ∷ l) e = absurd (true_not_false e)

pub empty_in : (l : List (List ℕ)) → l ≡ [] → not (is_empty l) ≡ false
empty_in l e = rw e refl

-- No gap vector has a live cell exactly if the claims of all of them are true.
pub live_law : (P : List (List ℕ)) (p : List ℕ) (B : List (List ℕ)) → is_perm p ≡ true →
    (live_gap P p B ≡ false) ↔ ((b : List ℕ) → Memᴰ b B → GapClaim P p b)
unfolding live_gap
live_law P p B perm = (
  λ e b m. (gap_law P p b perm).0 (empty_out (cell P p b) (none_out (λ (x : List ℕ). not (is_empty (cell P p x))) e m)),
  λ h. none_in (λ (x : List ℕ). not (is_empty (cell P p x))) B (λ b m. empty_in (cell P p b) ((gap_law P p b perm).1 (h b m))),
)

-- sizes that do not differ are the same
pub sizes_same : (P : List (List ℕ)) (p R g : List ℕ) → sizes_differ P p R g ≡ false →
    length (cell P p g) ≡ length (cell P (deleted R p) (merged R p g))
unfolding sizes_differ
sizes_same P p R g e = agree (length (cell P p g)) (length (cell P (deleted R p) (merged R p g))) e
  where
    agree : (a b : ℕ) → not (eqb a b) ≡ false → a ≡ b
    agree a b e = eqb-true a b (go (eqb a b) e)
      where
        go : (t : Bool) → not t ≡ false → t ≡ true
        go true h = refl
        go false h = sym h

pub same_sizes : (P : List (List ℕ)) (p R g : List ℕ) → length (cell P p g) ≡ length (cell P (deleted R p) (merged R p g)) →
    sizes_differ P p R g ≡ false
unfolding sizes_differ
same_sizes P p R g e = ap not (eq-eqb (length (cell P p g)) (length (cell P (deleted R p) (merged R p g))) e)

-- the sizes agree at all spacings that are compared under m
pub sizes_agree : (m : ℕ) (P : List (List ℕ)) (p : List ℕ) (B : List (List ℕ)) (R : List ℕ) →
    (any (sizes_differ P p R) (compared_to m (length p) B) ≡ false) ↔ SizesAgreeTo m P p B R
sizes_agree m P p B R = (
  λ e g d. sizes_same P p R g (none_out (sizes_differ P p R) e d),
  λ h. none_in (sizes_differ P p R) (compared_to m (length p) B) (λ g d. same_sizes P p R g (h g d)),
)

-- No sizes that are compared under m differ exactly if the claim of the rule is true, for every m
-- that is at least the length of the longest pattern of the basis.
pub differs_law : (m : ℕ) (P : List (List ℕ)) → longest (basis P) ≤ m → ((β : List ℕ) → Memᴰ β P → is_perm β ≡ true) →
    (p : List ℕ) (B : List (List ℕ)) (rule : Does) → is_perm p ≡ true → outside (length p) rule ≡ false →
    (differs_under m P p B rule ≡ false) ↔ RuleClaim P p B rule
unfolding differs_under
differs_law m P reach each_perm p B expands perm inside = (λ e. tt, λ h. refl)
differs_law m P reach each_perm p B (deletes R) perm inside =
    let (there, back) = sizes_agree m P p B R in
    let (up, down) = finite_basis P each_perm m reach p R perm (positions_inside (length p) R inside) B in
    (λ e. up (there e), λ h. back (down h))

-- the tests 10 and 11 find nothing exactly if all claims are true
module _ (P : List (List ℕ)) (E : List EntryList) (patterns : first_fault (pattern_tests P) ≡ clean)
    (formed : first_fault (scheme_tests E) ≡ clean) where
  differs_exactly : (e : EntryList) → Memᴰ e E →
      (differs P e.prefix e.gaps e.rule ≡ false) ↔ RuleClaim P e.prefix e.gaps e.rule
  differs_exactly e m =
      let q = (proper E formed).each e m in
      differs_law (m_of P) P (m_reaches P) (λ β n. (proper_pattern P patterns β n).perm) e.prefix e.gaps e.rule q.perm q.inside

  pub claims_true : first_fault (claim_tests P E) ≡ clean → AllTrue P E
  claims_true c e m =
      let q = (proper E formed).each e m in
      record {
        gaps =
            (live_law P e.prefix e.gaps q.perm).0
            (first_out LiveGap (λ (d : EntryList). live_gap P d.prefix d.gaps) 0
            (clean_in (claim_tests P E) (Memᴰ.head refl) c) m);
        rule =
            (differs_exactly e m).0
            (first_out Irreversible (λ (d : EntryList). differs P d.prefix d.gaps d.rule) 0
            (clean_in (claim_tests P E) (Memᴰ.tail (Memᴰ.head refl)) c) m);
      }

  pub claims_clean : AllTrue P E → first_fault (claim_tests P E) ≡ clean
  claims_clean h =
      clean_two (first_at LiveGap (λ (d : EntryList). live_gap P d.prefix d.gaps) 0 E)
      (first_at Irreversible (λ (d : EntryList). differs P d.prefix d.gaps d.rule) 0 E)
      (first_in LiveGap (λ (d : EntryList). live_gap P d.prefix d.gaps) 0 E
      (λ e m. (live_law P e.prefix e.gaps ((proper E formed).each e m).perm).1 (h e m).gaps))
      (first_in Irreversible (λ (d : EntryList). differs P d.prefix d.gaps d.rule) 0 E
      (λ e m. (differs_exactly e m).1 (h e m).rule))

-- an answer accepts exactly if no test finds a fault
pub accepted_clean : (x : Finding) (n : ℕ) → accepted (answered (fault_of x) n) ≡ true → x ≡ clean
accepted_clean clean n e = refl
accepted_clean (fault r i) n e = absurd (true_not_false (sym e))

pub clean_accepted : (x : Finding) (n : ℕ) → x ≡ clean → answered (fault_of x) n ≡ answered (fault_of clean) n
clean_accepted x n e = ap (λ (y : Finding). answered (fault_of y) n) e

-- Accepted exactly if well-formed and all claims true at every length.
pub accepted_exactly : (P : List (List ℕ)) (E : List EntryList) → (accepted (verdict_of P E) ≡ true) ↔ (WellFormed P E × AllTrue P E)
accepted_exactly P E = (there, back)
  where
    there : accepted (verdict_of P E) ≡ true → WellFormed P E × AllTrue P E
    there a =
        let c = accepted_clean (first_fault (judge_tests P E)) (compared_cells P E) a in
        let s = clean_right (pattern_tests P) (scheme_tests E ++ claim_tests P E) c in
        let b = clean_left (pattern_tests P) (scheme_tests E ++ claim_tests P E) c in
        let f = clean_left (scheme_tests E) (claim_tests P E) s in (
          record { patterns = b; scheme = f },
          claims_true P E b f (clean_right (scheme_tests E) (claim_tests P E) s),
        )

    back : WellFormed P E × AllTrue P E → accepted (verdict_of P E) ≡ true
    back h =
        ap accepted (clean_accepted (first_fault (judge_tests P E)) (compared_cells P E)
        (clean_append (pattern_tests P) (scheme_tests E ++ claim_tests P E) h.0.patterns ∙
        clean_append (scheme_tests E) (claim_tests P E) h.0.scheme ∙ claims_clean P E h.0.patterns h.0.scheme h.1))
