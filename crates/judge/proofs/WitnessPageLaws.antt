-- Laws of judging with a page: no finding but that of test 11 writes on it, and what test 11 writes
-- is a witness for the refused entry.
use Rattle.std.specs.Prelude.{ℕ, suc, ◌+◌, ◌≤◌, ◌<◌, ◌≡◌, Bool, false, cond, ◌⊎◌, take, drop}
use native.Mathlib.Omega.{arith}
use Rattle.std.proofs.Math.Path.{refl, sym, ap}
use Rattle.std.proofs.Common.{ap₂, ◌∙◌, inl, inr, length-append, lt-ltb, le-ltb, ne_eqb}
use Rattle.std.proofs.Math.Bool.{true}
use mathlib.Core.List.{List, [], ◌∷◌, ◌++◌, Memᴰ}
use Rattle.std.proofs.Math.Option.{Option, none, some}
use Rattle.std.proofs.Math.ListN.{length}
use Rattle.std.proofs.Math.Seq.{take-append_seam}
use Rattle.word.specs.Ceilings.{DIGITS, PREFIX, PAGE, HALF}
use Rattle.word.specs.Lists.{any}
use Rattle.word.specs.Word.{is_perm}
use Rattle.word.specs.ListLaws.{true_not_false, below_or_not}
use Rattle.word.specs.Refusal.{number_of}
use Rattle.word.specs.Finding.{Finding, clean, fault, test, first_fault}
use Rattle.word.specs.Earliest.{earliest, positions_of}
use Rattle.word.proofs.EarliestLaws.{positions_short}
use Rattle.word.specs.declared.refusal.Refusal.{Refusal}
use Rattle.word.specs.declared.refusal.Refusal.TheVariants.{LiveGap, Irreversible, ShortPage}
use Rattle.cell.specs.Cell.{m_of, compared}
use Rattle.cell.proofs.BasisLaws.{longest_at_most, m_at_most}
use Rattle.forms.specs.SchemeList.{Does, expands, deletes, EntryList}
use Rattle.forms.specs.SchemeMemory.{Fault, fault_of, or_else}
use Rattle.forms.specs.ToldLaws.{told_found}
use Rattle.std.specs.Prelude.{Ok, Err}
use Rattle.word.specs.Refusal.{refused_at}
use Rattle.scheme.specs.WellFormed.{first_at, outside, pattern_tests, scheme_tests}
use Rattle.scheme.specs.Proper.{ProperEntry}
use Rattle.scheme.specs.PositionLaws.{positions_inside}
use Rattle.scheme.specs.ProperLaws.{proper, proper_pattern}
use Rattle.scheme.specs.FindingLaws.{clean_append}
use Rattle.scheme.specs.NumberLaws.{number_found, at_number}
use Rattle.text_page.specs.Page.{overlay}
use Rattle.text_page.specs.PageLaws.{overlay_none, overlay_whole}
use Rattle.verdict.specs.Verdict.{live_gap, sizes_differ, differs_under, differs, claim_tests, compared_cells, judge_tests, answered}
use Rattle.verdict.specs.Verdict.{verdict_of, told_verdict, accepted}
use Rattle.verdict.specs.Truth.{WellFormed}
use Rattle.verdict.specs.VerdictLaws.{accepted_exactly}
use Rattle.verdict.proofs.SameVerdictLaws.{formed_behind}
use Rattle.verdict.specs.Witness.{half, witness_bytes, shown_word, rule_word, indexed_entry, entry_word, bytes_shown, Witnesses}
use Rattle.verdict.proofs.WitnessLaws.{half_length, shown_there, shown_length, witnesses}
use Rattle.verdict.specs.Verdict.{Verdict}
use Rattle.judge.specs.Judgement.{page_test, page_tests, verdict_on, page_after, EntryWitness, Judges}
use Rattle.judge.proofs.JudgementLaws.{told_answered, accepted_cells}

-- No finding but that of test 11 writes.
abbrev pub number_in : Fault → ℕ
number_in (Ok u) = 0
number_in (Err e) = number_of e.refusal

pub number_found_lem : (x : Finding) → number_in (fault_of x) ≡ number_found x
number_found_lem clean = refl
number_found_lem (fault r i) = refl

pub nothing_shown : (P : List (List ℕ)) (E : List EntryList) (f : Fault) → (number_in f ≡ 11 → ⊥) → bytes_shown P E f ≡ []
nothing_shown P E (Ok u) h = refl
nothing_shown P E (Err e) h = ap (λ (b : Bool). witness_bytes P (cond b (entry_word P (indexed_entry E e.index)) none))
    (ne_eqb (number_of e.refusal) 11 h)

-- such a page stays as it is
pub page_kept : (P : List (List ℕ)) (E : List EntryList) (f : Fault) (page : List ℕ) → (number_in f ≡ 11 → ⊥) →
    page ≡ overlay 0 (bytes_shown P E f) page
page_kept P E f page h = sym (ap (λ (l : List ℕ). overlay 0 l page) (nothing_shown P E f h) ∙ overlay_none 0 page)

-- the test of the page

pub page_short : (n : ℕ) (l : List Finding) → n < PAGE → first_fault (page_test n ∷ l) ≡ fault ShortPage 0
page_short n l h = ap (λ (b : Bool). first_fault (test ShortPage b ∷ l)) (lt-ltb n PAGE h)

pub page_long : (n : ℕ) (l : List Finding) → PAGE ≤ n → first_fault (page_test n ∷ l) ≡ first_fault l
page_long n l h = ap (λ (b : Bool). first_fault (test ShortPage b ∷ l)) (le-ltb n PAGE h)

-- a page that test 11 is found on is long, and the scheme is well-formed

eleven : {x : Finding} {i : ℕ} → x ≡ fault Irreversible i → number_found x ≡ 11
eleven e = ap number_found e

module _ (P : List (List ℕ)) (E : List EntryList) where
  live : Finding
  live = first_at LiveGap (λ (e : EntryList). live_gap P e.prefix e.gaps) 0 E

  lossy : Finding
  lossy = first_at Irreversible (λ (e : EntryList). differs P e.prefix e.gaps e.rule) 0 E

  pub irreversible_found : (i : ℕ) → first_fault (judge_tests P E) ≡ fault Irreversible i →
      WellFormed P E × (first_at Irreversible (λ (e : EntryList). differs P e.prefix e.gaps e.rule) 0 E ≡ fault Irreversible i)
  unfolding live lossy
  irreversible_found i e =
      let number : number_found (first_fault (judge_tests P E)) ≡ 11 = ap number_found e in
      let formed = formed_behind (m_of P) P E (omega arith) in (
        formed,
        second live lossy (at_number LiveGap _ 0 E)
            (sym (clean_append (scheme_tests E) (claim_tests P E) formed.scheme) ∙
            sym (clean_append (pattern_tests P) (scheme_tests E ++ claim_tests P E) formed.patterns) ∙ e),
      )
    where
      second : (x y : Finding) → number_found x ≤ 10 → first_fault (x ∷ y ∷ []) ≡ fault Irreversible i → y ≡ fault Irreversible i
      second clean clean h q = q
      second clean (fault r j) h q = q
      second (fault r j) y h q = let n : number_of r ≡ 11 = ap number_found q in absurd (omega arith)

-- the entry at fault
pub entry_found : (f : EntryList → Bool) (E : List EntryList) (i j : ℕ) → first_at Irreversible f i E ≡ fault Irreversible j →
    (k : ℕ) × (e : EntryList) × (j ≡ i + k) × (indexed_entry E k ≡ some e) × Memᴰ e E × (f e ≡ true)
entry_found f [] i j q = let z : ◌≡◌ {A = ℕ} 0 1 = cc in absurd (omega arith)
entry_found f (e ∷ E) i j q = go (f e) refl q (entry_found f E (suc i) j)
  where
    index_in : Finding → ℕ
    index_in clean = 0
    index_in (fault r k) = k

    Found : Type 0
    Found = (k : ℕ) × (d : EntryList) × (j ≡ i + k) × (indexed_entry (e ∷ E) k ≡ some d) × Memᴰ d (e ∷ E) × (f d ≡ true)

    go : (b : Bool) → f e ≡ b → cond b (fault Irreversible i) (first_at Irreversible f (suc i) E) ≡ fault Irreversible j →
        (first_at Irreversible f (suc i) E ≡ fault Irreversible j →
        (k : ℕ) × (d : EntryList) × (j ≡ suc i + k) × (indexed_entry E k ≡ some d) × Memᴰ d E × (f d ≡ true)) → Found
    go true t h below = let same : i ≡ j = ap index_in h in (0, e, omega arith, refl, Memᴰ.head refl, t)
    go false t h below =
        let (k, d, at, here, m, u) = below h in (suc k, d, omega arith, here, Memᴰ.tail m, u)

module _ (P : List (List ℕ)) (formed : first_fault (pattern_tests P) ≡ clean) where
  -- no pattern is longer than DIGITS
  m_small : m_of P ≤ DIGITS
  m_small =
      let all = longest_at_most P DIGITS (λ β m. (proper_pattern P formed β m).short) in
      omega (arith, m_at_most P)

  -- the bytes of a short word are a page
  bytes_length : (w : List ℕ) → length w < HALF → length (witness_bytes P (some w)) ≡ PAGE
  bytes_length w h =
      let copy = positions_of (earliest P w) in
      let few = positions_short P w DIGITS (λ β m. (proper_pattern P formed β m).short) in
      omega (arith, length-append (half w) (half copy), half_length w h, half_length copy (omega arith))

  -- What a deleting entry some of whose compared sizes differ shows is a witness.
  shown_witness : (p : List ℕ) (B : List (List ℕ)) (R : List ℕ) → is_perm p ≡ true → length p ≤ PREFIX →
      outside (length p) (deletes R) ≡ false →
      any (sizes_differ P p R) (compared P (length p) B) ≡ true → (page : List ℕ) → PAGE ≤ length page →
      Witnesses P p B R (overlay 0 (witness_bytes P (shown_word P p B R)) page)
  shown_witness p B R perm short inside differ page long =
      let (w, e) = shown_there (m_of P) P p R perm (positions_inside (length p) R inside) B differ in
      let small = shown_length (m_of P) P p R perm (positions_inside (length p) R inside) B w e in
      let size = bytes_length w (omega (arith, m_small)) in
      rw e (witnesses (m_of P) P p R perm (positions_inside (length p) R inside) B w (overlay 0 (witness_bytes P (some w)) page) e
      (front (witness_bytes P (some w)) page size long))
    where
      front : (xs t : List ℕ) → length xs ≡ PAGE → PAGE ≤ length t → take PAGE (overlay 0 xs t) ≡ xs
      front xs t e h =
          ap (take PAGE) (overlay_whole 0 xs t (omega arith)) ∙ ap (λ (n : ℕ). take n (xs ++ drop (0 + length xs) t)) (sym e) ∙
          take-append_seam xs (drop (0 + length xs) t)

-- What the two equations promise.
module _ (P : List (List ℕ)) (E : List EntryList) (before after : List ℕ) (r : Verdict)
    (verdict : r ≡ verdict_on (length before) P E) (page : after ≡ page_after P E before) where
  found : Finding
  found = first_fault (page_tests (length before) P E)

  pub same_verdict : PAGE ≤ length before → r ≡ verdict_of P E
  same_verdict long = verdict ∙
      ap (λ (x : Finding). answered (fault_of x) (compared_cells P E)) (page_long (length before) (judge_tests P E) long)

  entry_witness : (i : ℕ) → found ≡ fault Irreversible i → EntryWitness P E i after
  unfolding found differs_under
  entry_witness i e = go (below_or_not (length before) PAGE)
    where
      long_page : PAGE ≤ length before → EntryWitness P E i after
      long_page long =
          let f = sym (page_long (length before) (judge_tests P E) long) ∙ e in
          let (formed, first) = irreversible_found P E i f in
          let (k, d, at, here, m, t) = entry_found (λ (x : EntryList). differs P x.prefix x.gaps x.rule) E 0 i first in
          let same : k ≡ i = omega arith in
          deleting formed d ((proper E formed.scheme).each d m) (rw same at here) d.rule refl t long
        where
          deleting : WellFormed P E → (d : EntryList) → ProperEntry d → indexed_entry E i ≡ some d → (rule : Does) → d.rule ≡ rule →
              differs P d.prefix d.gaps d.rule ≡ true → PAGE ≤ length before → EntryWitness P E i after
          deleting formed d q here expands u t long =
              absurd (true_not_false (sym t ∙ ap (differs P d.prefix d.gaps) u))
          deleting formed d q here (deletes s) u t long =
              record {
                entry = d;
                positions = s;
                at_index = here;
                deleting = u;
                witness = rw (page ∙ ap (λ (x : Finding). overlay 0 (bytes_shown P E (fault_of x)) before) e ∙
                    ap (λ (o : Option EntryList). overlay 0 (witness_bytes P (entry_word P o)) before) here ∙
                    ap (λ (z : Does). overlay 0 (witness_bytes P (rule_word P d.prefix d.gaps z)) before) u)
                    (shown_witness P formed.patterns d.prefix d.gaps s q.perm q.short
                    (ap (outside (length d.prefix)) (sym u) ∙ q.inside)
                    (ap (differs P d.prefix d.gaps) (sym u) ∙ t) before long);
              }

      go : (length before < PAGE) ⊎ (PAGE ≤ length before) → EntryWitness P E i after
      go (inl short) =
          let n : number_of ShortPage ≡ 11 = ap number_found (sym (page_short (length before) (judge_tests P E) short) ∙ e) in
          absurd (omega arith)
      go (inr long) = long_page long

  -- the finding of a refusal
  refused_found : (x : Finding) (n i : ℕ) → answered (fault_of x) n ≡ Err (refused_at Irreversible i) → x ≡ fault Irreversible i
  refused_found clean n i e = let z : ◌≡◌ {A = Bool} true false = ap accepted e in absurd (true_not_false z)
  refused_found (fault q j) n i e = let (a, b) = same_refusal q j i e in ap₂ fault a b
    where
      refusal_of : Verdict → Refusal
      refusal_of (Ok m) = ShortPage
      refusal_of (Err e) = e.refusal

      index_of : Verdict → ℕ
      index_of (Ok m) = 0
      index_of (Err e) = e.index

      same_refusal : (q : Refusal) (j i : ℕ) → ◌≡◌ {A = Verdict} (Err (refused_at q j)) (Err (refused_at Irreversible i)) →
          (q ≡ Irreversible) × (j ≡ i)
      same_refusal q j i e = (ap refusal_of e, ap index_of e)

  pub judges : Judges P E before after r
  unfolding found
  judges =
      record {
        verdict = verdict;
        numbers = ap told_verdict verdict ∙ told_answered (fault_of found) (compared_cells P E) ∙
            told_found found (compared_cells P E ∷ []);
        page = page;
        exactly = λ long. rw (same_verdict long) (accepted_exactly P E);
        cells = λ n q. accepted_cells (fault_of found) (compared_cells P E) n (sym verdict ∙ q);
        same = same_verdict;
        witness = λ i q. entry_witness i (refused_found found (compared_cells P E) i (sym verdict ∙ q));
      }

-- a short page is refused, and stays as it is
pub judges_short : (P : List (List ℕ)) (E : List EntryList) (page : List ℕ) → length page < PAGE →
    Judges P E page page (Err (refused_at ShortPage 0))
judges_short P E page h =
    let e = page_short (length page) (judge_tests P E) h in
    judges P E page page (Err (refused_at ShortPage 0))
    (sym (ap (λ (x : Finding). answered (fault_of x) (compared_cells P E)) e))
    (page_kept P E (Err (refused_at ShortPage 0)) page (λ n. omega arith) ∙
    sym (ap (λ (x : Finding). overlay 0 (bytes_shown P E (fault_of x)) page) e))

-- a page that is long enough does not change the verdict
pub judges_long : (P : List (List ℕ)) (E : List EntryList) (before after : List ℕ) (r : Verdict) → PAGE ≤ length before →
    r ≡ verdict_of P E → after ≡ overlay 0 (bytes_shown P E (fault_of (first_fault (judge_tests P E)))) before → Judges P E before after r
judges_long P E before after r h e p =
    let long = page_long (length before) (judge_tests P E) h in
    judges P E before after r
    (e ∙ sym (ap (λ (x : Finding). answered (fault_of x) (compared_cells P E)) long))
    (p ∙ sym (ap (λ (x : Finding). overlay 0 (bytes_shown P E (fault_of x)) before) long))

-- the earlier of two findings has a number as small as theirs
pub earlier_nine : (f g : Fault) → number_in f ≤ 9 → number_in g ≤ 9 → number_in (or_else f g) ≤ 9
earlier_nine (Ok u) g h k = k
earlier_nine (Err e) g h k = h
