-- Laws of judging: the tests on the basis are those on the set, and the parts of the verdict.
use Prim.Native.Nat.{ℕ}
use Rattle.std.proofs.Common.{arith, sym, ◌∙◌}
use Rattle.std.specs.Prelude.{◌≡◌, Bool, true, false, length, eqb}
use Rattle.std.proofs.Math.Path.{refl, ap, ap₂, fun_ext}
use Rattle.std.proofs.Math.Bool.{not}
use mathlib.Core.List.{List, [], ◌∷◌, ◌++◌, Memᴰ}
use Rattle.word.specs.Lists.{any}
use Rattle.word.specs.Word.{is_perm}
use Rattle.word.specs.Finding.{first_fault}
use Rattle.word.specs.declared.refusal.Refusal.TheVariants.{LiveGap, Irreversible}
use Rattle.cell.specs.Basis.{basis}
use Rattle.cell.specs.Cell.{deleted, merged, compared_to}
use Rattle.cell.proofs.BasisLaws.{basis_cell}
use Rattle.forms.specs.SchemeList.{Does, expands, deletes, EntryList}
use Rattle.scheme.specs.WellFormed.{first_at, pattern_tests, scheme_tests}
use Rattle.forms.specs.SchemeMemory.{Fault, scheme_in, fault_of, or_else, faulty, told_or}
use Rattle.forms.specs.ToldLaws.{told_found}
use Rattle.forms.specs.declared.memory.Scheme.{Scheme}
use Rattle.std.specs.Prelude.{Ok, Err}
use Rattle.wellformed.proofs.OrderLaws.{faults_append}
use Rattle.verdict.specs.Verdict.{is_empty, live_gap, sizes_differ, differs_under, claim_tests, compared_cells, judge_tests, answered}
use Rattle.verdict.specs.Verdict.{verdict_of, told_verdict, accepted}
use Rattle.scheme.specs.FindingLaws.{first_same}
use Rattle.verdict.specs.VerdictLaws.{accepted_exactly}
use Rattle.verdict.specs.Verdict.{Verdict}
use Rattle.judge.specs.Judgement.{JudgesWithoutPage}

module _ (P : List (List ℕ)) (perms : (β : List ℕ) → Memᴰ β P → is_perm β ≡ true) where
  live_basis : (p : List ℕ) (B : List (List ℕ)) → live_gap (basis P) p B ≡ live_gap P p B
  unfolding live_gap
  live_basis p B = ap (λ (f : List ℕ → Bool). any f B)
      (fun_ext (λ b. ap (λ (l : List (List ℕ)). not (is_empty l)) (sym (basis_cell P perms p b))))

  sizes_basis : (p R g : List ℕ) → sizes_differ (basis P) p R g ≡ sizes_differ P p R g
  unfolding sizes_differ
  sizes_basis p R g = ap₂ (λ (x y : List (List ℕ)). not (eqb (length x) (length y)))
      (sym (basis_cell P perms p g)) (sym (basis_cell P perms (deleted R p) (merged R p g)))

  differs_basis : (m : ℕ) (p : List ℕ) (B : List (List ℕ)) (rule : Does) → differs_under m (basis P) p B rule ≡ differs_under m P p B rule
  unfolding differs_under
  differs_basis m p B expands = refl
  differs_basis m p B (deletes R) = ap (λ (f : List ℕ → Bool). any f (compared_to m (length p) B))
      (fun_ext (λ g. sizes_basis p R g))

  module _ (s : Scheme) where
    -- the tests on the basis are those on the set
    pub live_same : first_at LiveGap (λ (e : EntryList). live_gap (basis P) e.prefix e.gaps) 0 (scheme_in s) ≡
        first_at LiveGap (λ (e : EntryList). live_gap P e.prefix e.gaps) 0 (scheme_in s)
    live_same =
        first_same LiveGap (λ (e : EntryList). live_gap (basis P) e.prefix e.gaps)
        (λ (e : EntryList). live_gap P e.prefix e.gaps) 0 (scheme_in s)
        (λ e m. live_basis e.prefix e.gaps)

    pub differs_same : (m : ℕ) →
        first_at Irreversible (λ (e : EntryList). differs_under m (basis P) e.prefix e.gaps e.rule) 0 (scheme_in s) ≡
        first_at Irreversible (λ (e : EntryList). differs_under m P e.prefix e.gaps e.rule) 0 (scheme_in s)
    differs_same m =
        first_same Irreversible (λ (e : EntryList). differs_under m (basis P) e.prefix e.gaps e.rule)
        (λ (e : EntryList). differs_under m P e.prefix e.gaps e.rule) 0 (scheme_in s)
        (λ e d. differs_basis m e.prefix e.gaps e.rule)

-- the first of three findings
pub or_else_assoc : (a b c : Fault) → or_else a (or_else b c) ≡ or_else (or_else a b) c
or_else_assoc (Ok u) b c = refl
or_else_assoc (Err e) b c = refl

-- the tests of the patterns, of the scheme, of the claims
pub verdict_parts : (P : List (List ℕ)) (E : List EntryList) → fault_of (first_fault (judge_tests P E)) ≡
    or_else (or_else (fault_of (first_fault (pattern_tests P))) (fault_of (first_fault (scheme_tests E))))
    (fault_of (first_fault (claim_tests P E)))
verdict_parts P E =
    faults_append (pattern_tests P) (scheme_tests E ++ claim_tests P E) ∙
    ap (or_else (fault_of (first_fault (pattern_tests P)))) (faults_append (scheme_tests E) (claim_tests P E)) ∙
    or_else_assoc (fault_of (first_fault (pattern_tests P))) (fault_of (first_fault (scheme_tests E)))
    (fault_of (first_fault (claim_tests P E)))

-- an answer by its fault: a refusal does not ask for the cells
pub refused_answer : (f : Fault) (m n : ℕ) → faulty f ≡ true → answered f m ≡ answered f n
refused_answer (Ok u) m n e = let z : ◌≡◌ {A = ℕ} 0 1 = cc in absurd (omega arith)
refused_answer (Err d) m n e = refl

-- an answer by its fault, in the numbers of document 01
pub told_answered : (f : Fault) (n : ℕ) → told_verdict (answered f n) ≡ told_or f (n ∷ [])
told_answered (Ok u) n = refl
told_answered (Err e) n = refl

-- an acceptance has the cells of the answer
pub accepted_cells : (f : Fault) (m n : ℕ) → answered f m ≡ Ok n → n ≡ m
accepted_cells f m n q = read f m n q
  where
    cells_in : Verdict → ℕ
    cells_in (Ok n) = n
    cells_in (Err e) = 0

    read : (f : Fault) (m n : ℕ) → answered f m ≡ Ok n → n ≡ m
    read (Ok u) m n q = sym (ap cells_in q)
    read (Err e) m n q = let z : ◌≡◌ {A = Bool} false true = ap accepted q in absurd (Rattle.word.specs.ListLaws.true_not_false (sym z))

-- what an equation with the verdict promises
pub judges_without : (P : List (List ℕ)) (E : List EntryList) (r : Verdict) → r ≡ verdict_of P E → JudgesWithoutPage P E r
judges_without P E r e =
    record {
      verdict = e;
      numbers =
          ap told_verdict e ∙ told_answered (fault_of (first_fault (judge_tests P E))) (compared_cells P E) ∙
          told_found (first_fault (judge_tests P E)) (compared_cells P E ∷ []);
      exactly = rw e (accepted_exactly P E);
      cells = λ n q. accepted_cells (fault_of (first_fault (judge_tests P E))) (compared_cells P E) n (sym e ∙ q);
    }
