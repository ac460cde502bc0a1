-- "the verdict on every scheme must be shown to be the same as under the old m" (02, order 3): the
-- finding and the witness under `longest P`, the m of document 01 before that order, are those
-- under `m_of P`, and the number of compared cells is at most the old one.
use Rattle.std.specs.Prelude.{Ok, Err, ℕ, ◌≤◌, ◌<◌, ◌≡◌, ◌⊎◌, Bool, true, false, cond, length, eqb}
use Rattle.std.proofs.Common.{arith, ◌∙◌, inl, inr, length-append, eqb-true}
use Rattle.std.proofs.Math.Path.{refl, sym, ap}
use mathlib.Core.List.{List, [], ◌∷◌, ◌++◌, Memᴰ}
use Rattle.std.proofs.Math.Option.{Option, none, some}
use Rattle.word.specs.Lists.{all, first}
use Rattle.word.specs.Word.{longest, within, is_perm}
use Rattle.word.specs.ListLaws.{below_or_not}
use Rattle.word.specs.FirstLaws.{first_append, first_none, none_first}
use Rattle.word.specs.Finding.{Finding, clean, fault, first_fault}
use Rattle.word.specs.Refusal.{number_of}
use Rattle.word.specs.declared.refusal.Refusal.TheVariants.{LiveGap, Irreversible}
use Rattle.cell.specs.Basis.{basis}
use Rattle.cell.specs.Cell.{total, m_of, compared_to}
use Rattle.cell.proofs.ListedLaws.{compared_more}
use Rattle.cell.proofs.BasisLaws.{longest_basis, m_reaches, m_at_most, m_of_basis, m_of_whole, sizes_alike}
use Rattle.forms.specs.SchemeList.{Does, expands, deletes, EntryList}
use Rattle.forms.specs.SchemeMemory.{fault_of}
use Rattle.word.specs.Refusal.{refused_at}
use Rattle.forms.specs.SchemeMemory.{Fault}
use Rattle.scheme.specs.WellFormed.{first_at, outside, pattern_tests, scheme_tests}
use Rattle.scheme.specs.PositionLaws.{positions_inside}
use Rattle.scheme.specs.ProperLaws.{proper, proper_pattern}
use Rattle.scheme.specs.FindingLaws.{clean_append, fault_append, same_failure, none_in, first_same}
use Rattle.scheme.specs.NumberLaws.{number_found, patterns_nine, scheme_nine, rest_found}
use Rattle.verdict.specs.Verdict.{live_gap, sizes_differ, differs_under, claim_tests_under, compared_with_under, compared_cells_under}
use Rattle.verdict.specs.Verdict.{judge_tests_under, answered, verdict_under, compared_cells, verdict_of, finding_of}
use Rattle.verdict.specs.VerdictLaws.{sizes_agree, differs_law}
use Rattle.verdict.specs.Truth.{WellFormed}
use Rattle.verdict.specs.Witness.{shown_spacing_under, shown_at, shown_word_under, witness_bytes, rule_word_under, indexed_entry}
use Rattle.verdict.specs.Witness.{entry_word_under, word_shown_under, bytes_shown_under, shown_spacing, shown_word, bytes_shown}
use Rattle.verdict.proofs.WitnessLaws.{indexed_member}

-- tests behind others that find nothing
behind : (l a b : List Finding) → (first_fault l ≡ clean → first_fault a ≡ first_fault b) → first_fault (l ++ a) ≡ first_fault (l ++ b)
behind l a b h = go (first_fault l) refl
  where
    go : (x : Finding) → first_fault l ≡ x → first_fault (l ++ a) ≡ first_fault (l ++ b)
    go clean e = clean_append l a e ∙ h e ∙ sym (clean_append l b e)
    go (fault r i) e = fault_append l a e ∙ sym (fault_append l b e)

-- A finding with a number above 9 is one of a well-formed scheme.
pub formed_behind : (m : ℕ) (P : List (List ℕ)) (E : List EntryList) → 9 < number_found (first_fault (judge_tests_under m P E)) →
    WellFormed P E
formed_behind m P E high =
    let (p, s) = rest_found (pattern_tests P) (scheme_tests E ++ claim_tests_under m P E) (patterns_nine P) high in
    let (f, c) = rest_found (scheme_tests E) (claim_tests_under m P E) (scheme_nine E) (rw s at high) in
    record { patterns = p; scheme = f }

-- Two values of m that are at least the length of the longest pattern of the basis.
module _ (m n : ℕ) (P : List (List ℕ)) (reach : longest (basis P) ≤ m) (further : longest (basis P) ≤ n) where
  module _ (each_perm : (β : List ℕ) → Memᴰ β P → is_perm β ≡ true) (p : List ℕ) (perm : is_perm p ≡ true) (B : List (List ℕ)) where
    differs_alike : (rule : Does) → outside (length p) rule ≡ false → differs_under m P p B rule ≡ differs_under n P p B rule
    differs_alike rule inside =
        same_failure (differs_under m P p B rule) (differs_under n P p B rule) (differs_law m P reach each_perm p B rule perm inside)
        (differs_law n P further each_perm p B rule perm inside)

  claims_alike : (E : List EntryList) → WellFormed P E → claim_tests_under m P E ≡ claim_tests_under n P E
  claims_alike E formed =
      ap (λ (x : Finding). first_at LiveGap (λ (e : EntryList). live_gap P e.prefix e.gaps) 0 E ∷ x ∷ [])
      (first_same Irreversible (λ (e : EntryList). differs_under m P e.prefix e.gaps e.rule)
      (λ (e : EntryList). differs_under n P e.prefix e.gaps e.rule) 0 E
      (λ e d. let q = (proper E formed.scheme).each e d in
      differs_alike (λ β i. (proper_pattern P formed.patterns β i).perm) e.prefix q.perm e.gaps e.rule q.inside))

  -- All tests up to 11 find the same, for every scheme, well-formed or not.
  pub finding_alike : (E : List EntryList) → first_fault (judge_tests_under m P E) ≡ first_fault (judge_tests_under n P E)
  finding_alike E =
      behind (pattern_tests P) (scheme_tests E ++ claim_tests_under m P E) (scheme_tests E ++ claim_tests_under n P E)
      (λ p. behind (scheme_tests E) (claim_tests_under m P E) (claim_tests_under n P E)
      (λ s. ap first_fault (claims_alike E (record { patterns = p; scheme = s }))))

-- The spacing that is shown: those compared under a smaller m are the first of those under a
-- larger, and where no sizes differ there, none differ at all.
module _ (P : List (List ℕ)) (each_perm : (β : List ℕ) → Memᴰ β P → is_perm β ≡ true) (p R : List ℕ) (perm : is_perm p ≡ true)
    (inside : all (within (length p)) R ≡ true) (B : List (List ℕ)) where
  spacing_more : (m n : ℕ) → longest (basis P) ≤ m → m ≤ n → shown_spacing_under m P p B R ≡ shown_spacing_under n P p B R
  unfolding shown_spacing_under
  spacing_more m n reach more = go (first (sizes_differ P p R) (compared_to m (length p) B)) refl
    where
      go : (o : Option (List ℕ)) → first (sizes_differ P p R) (compared_to m (length p) B) ≡ o →
          first (sizes_differ P p R) (compared_to m (length p) B) ≡ first (sizes_differ P p R) (compared_to n (length p) B)
      go none e =
          let agree = (sizes_agree m P p B R).0 (none_in (sizes_differ P p R) (compared_to m (length p) B)
          (none_first (sizes_differ P p R) (compared_to m (length p) B) e)) in
          e ∙ sym (first_none (sizes_differ P p R) (compared_to n (length p) B)
          ((sizes_agree n P p B R).1 ((sizes_alike P each_perm m n reach (omega arith) p R perm inside B).0 agree)))
      go (some g) e =
          let (l, q) = compared_more m n (length p) B more in
          e ∙ sym (ap (first (sizes_differ P p R)) q ∙ first_append (sizes_differ P p R) (compared_to m (length p) B) l g e)

  module _ (m n : ℕ) (reach : longest (basis P) ≤ m) (further : longest (basis P) ≤ n) where
    pub spacing_alike : shown_spacing_under m P p B R ≡ shown_spacing_under n P p B R
    spacing_alike = go (below_or_not m n)
      where
        go : (m < n) ⊎ (n ≤ m) → shown_spacing_under m P p B R ≡ shown_spacing_under n P p B R
        go (inl l) = spacing_more m n reach (omega arith)
        go (inr l) = sym (spacing_more n m further l)

    pub word_alike : shown_word_under m P p B R ≡ shown_word_under n P p B R
    unfolding shown_word_under
    word_alike = ap (shown_at P p R) spacing_alike

-- The word that is shown with a finding.
module _ (m n : ℕ) (P : List (List ℕ)) (reach : longest (basis P) ≤ m) (further : longest (basis P) ≤ n) (E : List EntryList) where
  rule_alike : WellFormed P E → (e : EntryList) → Memᴰ e E → (rule : Does) → outside (length e.prefix) rule ≡ false →
      rule_word_under m P e.prefix e.gaps rule ≡ rule_word_under n P e.prefix e.gaps rule
  rule_alike formed e d expands inside = refl
  rule_alike formed e d (deletes R) inside =
      word_alike P (λ β i. (proper_pattern P formed.patterns β i).perm) e.prefix R ((proper E formed.scheme).each e d).perm
      (positions_inside (length e.prefix) R inside) e.gaps m n reach further

  entry_alike : WellFormed P E → (i : ℕ) → entry_word_under m P (indexed_entry E i) ≡ entry_word_under n P (indexed_entry E i)
  entry_alike formed i = go (indexed_entry E i) refl
    where
      go : (o : Option EntryList) → indexed_entry E i ≡ o → entry_word_under m P o ≡ entry_word_under n P o
      go none q = refl
      go (some e) q =
          let d = indexed_member E i e q in rule_alike formed e d e.rule ((proper E formed.scheme).each e d).inside

  shown_alike : (x : Finding) → first_fault (judge_tests_under m P E) ≡ x →
      word_shown_under m P E (fault_of x) ≡ word_shown_under n P E (fault_of x)
  shown_alike clean e = refl
  shown_alike (fault r i) e = go (eqb (number_of r) 11) refl
    where
      go : (b : Bool) → eqb (number_of r) 11 ≡ b →
          cond b (entry_word_under m P (indexed_entry E i)) none ≡ cond b (entry_word_under n P (indexed_entry E i)) none
      go true t =
          let number : number_found (first_fault (judge_tests_under m P E)) ≡ 11 = ap number_found e ∙ eqb-true (number_of r) 11 t in
          entry_alike (formed_behind m P E (omega arith)) i
      go false t = refl

-- a verdict says what its tests find
finding_answered : (f : Fault) (n : ℕ) → finding_of (answered f n) ≡ f
finding_answered (Ok u) n = refl
finding_answered (Err e) n = refl

-- fewer cells are compared under a smaller m
with_most : (m n : ℕ) → m ≤ n → (p : List ℕ) (B : List (List ℕ)) (rule : Does) →
    compared_with_under m p B rule ≤ compared_with_under n p B rule
unfolding compared_with_under
with_most m n h p B expands = omega arith
with_most m n h p B (deletes R) =
    let (l, q) = compared_more m n (length p) B h in
    omega (arith, ap length q, length-append (compared_to m (length p) B) l)

cells_most : (m n : ℕ) → m ≤ n → (E : List EntryList) → compared_cells_under m E ≤ compared_cells_under n E
unfolding compared_cells_under total
cells_most m n h [] = omega arith
cells_most m n h (e ∷ E) = omega (arith, with_most m n h e.prefix e.gaps e.rule, cells_most m n h E)

-- The theorems of order 3, on any set of patterns and any scheme.

module _ (P : List (List ℕ)) (E : List EntryList) where
  -- The same verdict as under the old m: acceptance, refusal number and index.
  pub same_verdict : finding_of (verdict_of P E) ≡ finding_of (verdict_under (longest P) P E)
  same_verdict =
      finding_answered (fault_of (first_fault (judge_tests_under (m_of P) P E))) (compared_cells P E) ∙
      ap fault_of (finding_alike (m_of P) (longest P) P (m_reaches P) (longest_basis P) E) ∙
      sym (finding_answered (fault_of (first_fault (judge_tests_under (longest P) P E))) (compared_cells_under (longest P) E))

  -- The same witness: the bytes of the permutation and of the copy.
  pub same_witness : bytes_shown P E (finding_of (verdict_of P E)) ≡
      bytes_shown_under (longest P) P E (finding_of (verdict_under (longest P) P E))
  same_witness =
      let found = first_fault (judge_tests_under (m_of P) P E) in
      ap (witness_bytes P) (ap (word_shown_under (m_of P) P E) (finding_answered (fault_of found) (compared_cells P E)) ∙
      shown_alike (m_of P) (longest P) P (m_reaches P) (longest_basis P) E found refl ∙
      sym (ap (word_shown_under (longest P) P E) (finding_answered (fault_of found) (compared_cells P E)))) ∙
      ap (bytes_shown_under (longest P) P E) same_verdict

  -- Of an entry that is refused 11 the same spacing is shown, and the same permutation.
  pub same_shown : (i : ℕ) (R : List ℕ) (e : EntryList) → finding_of (verdict_of P E) ≡ Err (refused_at Irreversible i) →
      indexed_entry E i ≡ some e →
      e.rule ≡ deletes R →
      (shown_spacing P e.prefix e.gaps R ≡ shown_spacing_under (longest P) P e.prefix e.gaps R) ×
      (shown_word P e.prefix e.gaps R ≡ shown_word_under (longest P) P e.prefix e.gaps R)
  same_shown i R e found at deleting =
      let number = eleven_found (first_fault (judge_tests_under (m_of P) P E))
      (sym (finding_answered (fault_of (first_fault (judge_tests_under (m_of P) P E))) (compared_cells P E)) ∙ found) in
      let formed = formed_behind (m_of P) P E (omega arith) in
      let q = (proper E formed.scheme).each e (indexed_member E i e at) in
      let inside = positions_inside (length e.prefix) R (ap (outside (length e.prefix)) (sym deleting) ∙ q.inside) in
      let perms : (β : List ℕ) → Memᴰ β P → is_perm β ≡ true = λ β d. (proper_pattern P formed.patterns β d).perm in (
        spacing_alike P perms e.prefix R q.perm inside e.gaps (m_of P) (longest P) (m_reaches P) (longest_basis P),
        word_alike P perms e.prefix R q.perm inside e.gaps (m_of P) (longest P) (m_reaches P) (longest_basis P),
      )
    where
      number_in : Fault → ℕ
      number_in (Ok u) = 0
      number_in (Err e) = number_of e.refusal

      eleven_found : (x : Finding) → fault_of x ≡ Err (refused_at Irreversible i) → number_found x ≡ 11
      eleven_found clean h = ap number_in h
      eleven_found (fault x j) h = ap number_in h

  -- "Compared cells drop accordingly" (02): their number is that of the basis, at most the old one,
  -- and the old one where the set is a basis; there the whole verdict is.
  pub same_cells : compared_cells P E ≡ compared_cells (basis P) E
  same_cells = ap (λ (m : ℕ). compared_cells_under m E) (m_of_basis P)

  pub fewer_cells : compared_cells P E ≤ compared_cells_under (longest P) E
  fewer_cells = cells_most (m_of P) (longest P) (m_at_most P) E

  pub whole_cells : basis P ≡ P → compared_cells P E ≡ compared_cells_under (longest P) E
  whole_cells e = ap (λ (m : ℕ). compared_cells_under m E) (m_of_whole P e)

  pub whole_verdict : basis P ≡ P → verdict_of P E ≡ verdict_under (longest P) P E
  whole_verdict e = ap (λ (m : ℕ). verdict_under m P E) (m_of_whole P e)
