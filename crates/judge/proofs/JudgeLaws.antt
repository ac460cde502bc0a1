-- The parts of the verdict in their order, as the code has them in hand.
-- Assumes nothing.
use Prim.Native.Nat.{ℕ, ◌≤◌}
use native.Mathlib.Omega.{arith}
use mathlib.Core.Path.{◌≡◌, refl, sym, ap, ap₂, ◌∙◌}
use mathlib.Core.Bool.{true, false}
use mathlib.Core.List.{List, Memᴰ}
use mathlib.Core.Option.{none}
use lib.ListN.{length}
use Rattle.word.specs.Ceilings.{PATTERNS}
use Rattle.word.specs.Word.{longest}
use Rattle.word.specs.Finding.{first_fault}
use Rattle.word.specs.declared.refusal.Refusal.TheVariants.{LiveGap, Irreversible}
use Rattle.cell.specs.Cell.{m_of}
use Rattle.cell.specs.Basis.{basis}
use Rattle.cell.proofs.BasisLaws.{basis_in}
use Rattle.forms.specs.SchemeList.{EntryList}
use Rattle.scheme.specs.WellFormed.{first_at, pattern_tests, scheme_tests}
use Rattle.forms.specs.SchemeMemory.{Fault, patterns_in, scheme_in, fault_of, or_else, faulty}
use Rattle.forms.specs.declared.memory.Patterns.{Patterns}
use Rattle.forms.specs.declared.memory.Scheme.{Scheme}
use Rattle.std.specs.Prelude.{Ok, Err}
use Rattle.scheme.specs.TestLaws.{clean_of}
use Rattle.wellformed.proofs.OrderLaws.{or_else_fault, or_else_clean, not_faulty, two_faults}
use Rattle.text_page.specs.Page.{overlay}
use Rattle.verdict.specs.Verdict.{compared_cells_under, claim_tests, compared_cells, judge_tests, answered, verdict_of}
use Rattle.verdict.specs.Truth.{WellFormed}
use Rattle.claims.specs.EntryMemory.{ProperSet}
use Rattle.lost_word.specs.Shown.{ShowsWord}
use Rattle.verdict.specs.Witness.{word_shown, bytes_shown}
use Rattle.judge.specs.SetMemory.{loss_shown, Loses}
use Rattle.judge.specs.declared.deletions.Loss.{Loss}
use Rattle.judge.proofs.LossLaws.{live_word, loss_word}
use Rattle.scheme.specs.Proper.{Proper}
use Rattle.scheme.specs.NumberLaws.{patterns_nine, scheme_nine}
use Rattle.judge.proofs.JudgementLaws.{verdict_parts, live_same, differs_same, refused_answer}
use Rattle.judge.proofs.WitnessPageLaws.{number_in, number_found_lem, earlier_nine, page_kept}
use Rattle.judge.proofs.EntryWalkLaws.{live_entry, differing_entry}

-- the earlier of two findings, where the first decides and where it does not
pub earlier_first : (f a b : Fault) → f ≡ a → faulty f ≡ true → f ≡ or_else a b
earlier_first f a b e h = sym (or_else_fault f b h) ∙ ap (λ (x : Fault). or_else x b) e

pub earlier_second : (f a b : Fault) → f ≡ a → faulty f ≡ false → b ≡ or_else a b
earlier_second f a b e h = sym (or_else_clean a b (ap faulty (sym e) ∙ h))

module _ (P : List (List ℕ)) (E : List EntryList) where
  module _ (formed : Fault) (is : formed ≡ or_else (fault_of (first_fault (pattern_tests P)))
      (fault_of (first_fault (scheme_tests E)))) where
    -- the first finding of all, where a list is not well-formed, and where it is
    pub found_formed : faulty formed ≡ true → fault_of (first_fault (judge_tests P E)) ≡ formed
    found_formed h = verdict_parts P E ∙ sym (earlier_first formed _ (fault_of (first_fault (claim_tests P E))) is h)

    pub found_claims : faulty formed ≡ false → fault_of (first_fault (judge_tests P E)) ≡ fault_of (first_fault (claim_tests P E))
    found_claims h = verdict_parts P E ∙ sym (earlier_second formed _ (fault_of (first_fault (claim_tests P E))) is h)

    -- a list that is not well-formed leaves the page as it is
    pub page_formed : faulty formed ≡ true → (page : List ℕ) →
        page ≡ overlay 0 (bytes_shown P E (fault_of (first_fault (judge_tests P E)))) page
    page_formed h page =
        page_kept P E formed page not_eleven ∙ ap (λ (f : Fault). overlay 0 (bytes_shown P E f) page) (sym (found_formed h))
      where
        small : number_in formed ≤ 9
        small = rw is (earlier_nine (fault_of (first_fault (pattern_tests P))) (fault_of (first_fault (scheme_tests E)))
            (rw (number_found_lem (first_fault (pattern_tests P))) (patterns_nine P))
            (rw (number_found_lem (first_fault (scheme_tests E))) (scheme_nine E)))

        not_eleven : number_in formed ≡ 11 → ⊥
        not_eleven e = omega (arith, small)

    -- a list that is not well-formed is refused
    pub verdict_refused : faulty formed ≡ true → answered formed 0 ≡ verdict_of P E
    verdict_refused h =
        refused_answer formed 0 (compared_cells P E) h ∙
        ap (λ (f : Fault). answered f (compared_cells P E)) (sym (found_formed h))

    -- the others are well-formed, and their claims decide
    pub formed_well : faulty formed ≡ false → WellFormed P E
    formed_well h =
        let none = not_faulty formed h in
        let parts = both (fault_of (first_fault (pattern_tests P))) (fault_of (first_fault (scheme_tests E))) (sym is ∙ none) in
        record { patterns = clean_of (first_fault (pattern_tests P)) parts.0; scheme = clean_of (first_fault (scheme_tests E)) parts.1 }
      where
        both : (a b : Fault) → or_else a b ≡ Ok tt → (a ≡ Ok tt) × (b ≡ Ok tt)
        both (Ok u) b e = (refl, e)
        both (Err d) b e = let z : ◌≡◌ {A = ℕ} 0 1 = cc in absurd (omega arith)

    pub verdict_claims : faulty formed ≡ false → answered (fault_of (first_fault (claim_tests P E))) (compared_cells P E) ≡ verdict_of P E
    verdict_claims h =
        ap (λ (f : Fault). answered f (compared_cells P E)) (sym (found_claims h))

-- The basis Q of a set P, as the code makes it.
module _ (P Q : List (List ℕ)) (q : ProperSet P) (holds : Q ≡ basis P) where
  -- m is the length of the longest pattern of the basis
  pub basis_m : (m : ℕ) → m ≡ longest Q → m ≡ m_of P
  unfolding m_of
  basis_m m e = e ∙ ap longest holds

  pub basis_proper : length Q ≤ PATTERNS → ProperSet Q
  basis_proper few =
      record {
        few = few;
        perms = λ (β : List ℕ) (m : Memᴰ β Q). q.perms β (basis_in P (rw holds at m));
      }

  module _ (s : Scheme) (p : Proper (scheme_in s)) (live : Fault)
      (is : live ≡ fault_of (first_at LiveGap (live_entry Q) 0 (scheme_in s))) where
    live_is : live ≡ fault_of (first_at LiveGap (live_entry P) 0 (scheme_in s))
    live_is =
        is ∙ ap (λ (R : List (List ℕ)). fault_of (first_at LiveGap (live_entry R) 0 (scheme_in s))) holds ∙
        ap fault_of (live_same P q.perms s)

    tests_parts : fault_of (first_fault (claim_tests P (scheme_in s))) ≡
        or_else (fault_of (first_at LiveGap (live_entry P) 0 (scheme_in s)))
        (fault_of (first_at Irreversible (differing_entry (m_of P)
        P) 0 (scheme_in s)))
    tests_parts =
        two_faults (first_at LiveGap (live_entry P) 0 (scheme_in s))
        (first_at Irreversible (differing_entry (m_of P) P) 0 (scheme_in s))

    lost_is : (m : ℕ) → m ≡ m_of P →
        fault_of (first_at Irreversible (differing_entry m Q) 0 (scheme_in s)) ≡
        fault_of (first_at Irreversible (differing_entry (m_of P)
        P) 0 (scheme_in s))
    lost_is m e =
        ap₂ (λ (n : ℕ) (R : List (List ℕ)). fault_of (first_at Irreversible (differing_entry n R) 0 (scheme_in s))) e holds ∙
        ap fault_of (differs_same P q.perms s (m_of P))

    -- a fault of test 10 on the basis is the first of the tests on the set
    pub claims_live : faulty live ≡ true → live ≡ fault_of (first_fault (claim_tests P (scheme_in s)))
    claims_live h = earlier_first live _ _ live_is h ∙ sym tests_parts

    -- where it finds none, what test 11 finds on the basis is
    pub claims_lost : (m : ℕ) → m ≡ m_of P → (lost : Fault) → lost ≡
        fault_of (first_at Irreversible (differing_entry m Q) 0 (scheme_in s)) →
        faulty live ≡ false →
        lost ≡ fault_of (first_fault (claim_tests P (scheme_in s)))
    claims_lost m is_m lost e h = e ∙ lost_is m is_m ∙ earlier_second live _ _ live_is h ∙ sym tests_parts

    -- what is shown with the first fault of the tests on the set: nothing with test 10 ..
    pub live_shown : faulty live ≡ true →
        word_shown P (scheme_in s)
        (fault_of (first_fault (claim_tests P (scheme_in s)))) ≡ none
    live_shown h =
        ap (word_shown P (scheme_in s)) (sym (claims_live h) ∙ live_is) ∙
        live_word (m_of P) P q.perms (scheme_in s) p.each
        (live_entry P) 0 (scheme_in s)

    -- .. and with test 11 what the search on the basis shows
    pub lost_shown : (m : ℕ) → m ≡ m_of P → (loss : Loss) →
        Loses m Q (scheme_in s) loss → faulty live ≡ false →
        ShowsWord (word_shown P (scheme_in s)
        (fault_of (first_fault (claim_tests P (scheme_in s))))) loss.word
    lost_shown m is_m loss l h = rw same l.shows
      where
        same : word_shown P (scheme_in s)
            (fault_of (first_fault (claim_tests P (scheme_in s)))) ≡
            loss_shown m Q (scheme_in s) loss.fault
        same =
            ap (word_shown P (scheme_in s))
            (sym (claims_lost m is_m loss.fault l.found h) ∙ l.found ∙ lost_is m is_m) ∙
            loss_word (m_of P) P q.perms (scheme_in s) p.each
            (differing_entry (m_of P) P) 0 (scheme_in s) ∙
            ap₂ (λ (R : List (List ℕ)) (f : Fault). loss_shown (m_of P) R (scheme_in s) f) (sym holds)
            (sym (l.found ∙ lost_is m is_m)) ∙
            ap (λ (n : ℕ). loss_shown n Q (scheme_in s) loss.fault) (sym is_m)

-- the answer on the claims, from the set in memory
pub claims_answer : (patterns : Patterns) (s : Scheme) (Q : List (List ℕ)) (f : Fault) (m cells : ℕ) → Q ≡ patterns_in patterns →
    f ≡ fault_of (first_fault (claim_tests Q (scheme_in s))) → m ≡ m_of Q → cells ≡ compared_cells_under m (scheme_in s) →
    answered f cells ≡ answered (fault_of (first_fault (claim_tests (patterns_in patterns) (scheme_in s))))
    (compared_cells (patterns_in patterns) (scheme_in s))
claims_answer patterns s Q f m cells holds e is c =
    ap₂ answered (e ∙ ap (λ (P : List (List ℕ)). fault_of (first_fault (claim_tests P (scheme_in s)))) holds)
    (c ∙ ap (λ (n : ℕ). compared_cells_under n (scheme_in s)) (is ∙ ap m_of holds))
