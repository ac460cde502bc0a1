-- What the answers of reading and writing say of the text, for lists of any kind.
-- Assumes nothing.
use Prim.Native.Nat.{ℕ, ◌+◌, ◌≤◌, ◌<◌}
use native.Mathlib.Omega.{arith}
use mathlib.Core.Path.{◌≡◌, refl, sym, ap, ◌∙◌, subst}
use mathlib.Core.Bool.{Bool, true, false, cond}
use mathlib.Core.List.{List, [], ◌++◌}
use mathlib.Core.Option.{Option, none, some}
use mathlib.Core.Logic.{◌⊎◌, inl, inr}
use lib.ListN.{length, take}
use lib.Seq.{take_all, length-take-le}
use lib.Dec.{ltb}
use borrow.Author.Tests.{ltb-true, lt-ltb, le-ltb}
use Rattle.word.specs.ListLaws.{below_or_not}
use Rattle.word.specs.Finding.{Finding, clean, fault, first_fault}
use Rattle.word.specs.Told.{told_by}
use Rattle.word.specs.declared.refusal.Refusal.{Refusal}
use Rattle.word.specs.declared.refusal.Refusal.TheVariants.{Misspelt, Oversize, ShortPage}
use Rattle.std.specs.Prelude.{Ok, Err}
use Rattle.word.specs.Refusal.{refused_at}
use Rattle.forms.specs.SchemeMemory.{Fault, fault_of, faulty, told_or}
use Rattle.forms.specs.ToldLaws.{told_found}
use Rattle.text_grammar.specs.Spelling.{Token, spaceless}
use Rattle.text_grammar.specs.Tokens.{tokens}
use Rattle.text_page.specs.Page.{overlay, Writes}
use Rattle.text_page.specs.PageLaws.{length_after}
use Rattle.notation.specs.Written.{Written, written_or, Writing}
use Rattle.notation.specs.Answers.{answer_from, answer_to, found_in, ReadsList, WritesList}
use Rattle.notation.proofs.ReadingFaultLaws.{not_one, not_clean, not_misspelt}
use Rattle.notation.proofs.WritingLaws.{writes_refused, writes_short, writes_done}
use Rattle.scheme.specs.TestLaws.{clean_of}

some_none : {L : Type 0} (l : L) → ◌≡◌ {A = Option L} (some l) none → ⊥
some_none l e = let z : ◌≡◌ {A = ℕ} 0 1 = cc in omega (arith, z)

-- the answer by the length of the text
module _ {L R : Type 0} (refused : Refusal → ℕ → R) (tested : L → R) (most : ℕ) (read : List Token → Option L) (s : List ℕ) where
  pub answer_long : most < length s → refused Oversize 0 ≡ answer_to refused tested most read s
  answer_long h = rw (lt-ltb most (length s) h) refl

  pub answer_text : length s ≤ most → answer_from refused tested (read (tokens s)) ≡ answer_to refused tested most read s
  answer_text h = rw (le-ltb most (length s) h) refl

-- a longer text is refused whatever it is, so its first bytes are enough
module _ {L R : Type 0} (refused : Refusal → ℕ → R) (tested : L → R) (most : ℕ) (read : List Token → Option L) where
  pub answer_cut : (s : List ℕ) → answer_to refused tested most read (take (most + 1) s) ≡ answer_to refused tested most read s
  answer_cut s = go (below_or_not most (length s))
    where
      go : (most < length s) ⊎ (length s ≤ most) → answer_to refused tested most read (take (most + 1) s) ≡
          answer_to refused tested most read s
      go (inl h) =
          let k : most < length (take (most + 1) s) = omega (arith, length-take-le (most + 1) s (omega arith)) in
          sym (answer_long refused tested most read (take (most + 1) s) k) ∙ answer_long refused tested most read s h
      go (inr h) = ap (answer_to refused tested most read) (take_all (most + 1) s (omega arith))

module _ {L R : Type 0} (most : ℕ) (Spells : List ℕ → L → Type 0) (tests : L → List Finding) (written : L → List ℕ)
    (fault_in : R → Fault) (listIn : R → L)
    (tested : L → R) (read : List Token → Option L) (refused : Refusal → ℕ → R) (s : List ℕ)
    (sound : (l : L) → read (tokens s) ≡ some l → Spells s l) (complete : (l : L) → Spells s l → read (tokens s) ≡ some l)
    (unique : (l k : L) → Spells s l → Spells s k → l ≡ k) (text : (l : L) → Spells s l → written l ≡ spaceless s)
    (refuses : (r : Refusal) (i : ℕ) → fault_in (refused r i) ≡ Err (refused_at r i))
    (finds : (l : L) → fault_in (tested l) ≡ fault_of (first_fault (tests l)))
    (gives : (l : L) → first_fault (tests l) ≡ clean → listIn (tested l) ≡ l)
    (not-one : (l : L) → not_one (first_fault (tests l)) ≡ true) where
  abbrev Answers : R → Type 0
  Answers r = ReadsList most read Spells tests written fault_in listIn tested s r

  never : {A : Type 0} (r : Refusal) (i : ℕ) → fault_in (refused r i) ≡ Ok tt → A
  never r i e = absurd (not_clean r i (sym (refuses r i) ∙ e))

  -- an answer whose fault is that of what reading finds
  told_so : (r : R) (x : Finding) → fault_in r ≡ fault_of x → found_in tests most read s ≡ x → told_or (fault_in r) [] ≡
      told_by (found_in tests most read s) []
  told_so r x e f = ap (λ (y : Fault). told_or y []) e ∙ told_found x [] ∙ ap (λ (y : Finding). told_by y []) (sym f)

  long_reads : ltb most (length s) ≡ true → Answers (refused Oversize 0)
  long_reads h =
      let k = ltb-true most (length s) h in
      record {
        numbers = told_so (refused Oversize 0) (fault Oversize 0) (refuses Oversize 0) (rw h refl);
        nothing = λ a b. absurd (omega (arith, k, a));
        misspelt = λ i e l w. not_misspelt (fault Oversize 0) i refl (sym (refuses Oversize 0) ∙ e);
        spelt = λ l a w. absurd (omega (arith, k, a));
        reads = λ e. never Oversize 0 e;
        passes = λ e. never Oversize 0 e;
        writes = λ e. never Oversize 0 e;
      }

  none_reads : ltb most (length s) ≡ false → read (tokens s) ≡ none → Answers (refused Misspelt 0)
  none_reads fits h =
      record {
        numbers = told_so (refused Misspelt 0) (fault Misspelt 0) (refuses Misspelt 0) (rw (fits, h) refl);
        nothing = λ a b. refuses Misspelt 0;
        misspelt = λ i e l w. some_none l (sym (complete l w) ∙ h);
        spelt = λ l a w. absurd (some_none l (sym (complete l w) ∙ h));
        reads = λ e. never Misspelt 0 e;
        passes = λ e. never Misspelt 0 e;
        writes = λ e. never Misspelt 0 e;
      }

  module _ (fits : ltb most (length s) ≡ false) (l : L) (h : read (tokens s) ≡ some l) where
    whole : fault_in (tested l) ≡ Ok tt → listIn (tested l) ≡ l
    whole e = gives l (clean_of (first_fault (tests l)) (sym (finds l) ∙ e))

    some_reads : Answers (tested l)
    some_reads =
        let w = sound l h in
        record {
          numbers = told_so (tested l) (first_fault (tests l)) (finds l) (rw (fits, h) refl);
          nothing = λ a b. absurd (b l w);
          misspelt = λ i e k v. not_misspelt (first_fault (tests l)) i (not-one l) (sym (finds l) ∙ e);
          spelt = λ k a v. ap tested (unique l k w v);
          reads = λ e. subst (Spells s) (sym (whole e)) w;
          passes = λ e. ap (λ (k : L). first_fault (tests k)) (whole e) ∙ clean_of (first_fault (tests l)) (sym (finds l) ∙ e);
          writes = λ e. ap written (whole e) ∙ text l w;
        }

  pub answer_reads : Answers (answer_to refused tested most read s)
  answer_reads = go (ltb most (length s)) refl (read (tokens s)) refl
    where
      go : (b : Bool) → ltb most (length s) ≡ b → (o : Option L) → read (tokens s) ≡ o →
          Answers (cond b (refused Oversize 0) (answer_from refused tested o))
      go true h o k = long_reads h
      go false h none k = none_reads h k
      go false h (some l) k = some_reads h l k

-- what writing the list l answers, for lists of either kind
module _ {L R : Type 0} (Spells : List ℕ → L → Type 0) (tests : L → List Finding) (written : L → List ℕ)
    (answer : List ℕ → R) (whole : L → R) (kept : L → L)
    (l : L) (spelt : first_fault (tests l) ≡ clean → Spells (written l) l)
    (read_back : first_fault (tests l) ≡ clean → answer (written l) ≡ whole l)
    (same-list : first_fault (tests l) ≡ clean → kept l ≡ l) (before : List ℕ) where
  abbrev Wrote : List ℕ → Written → Type 0
  Wrote after r = WritesList Spells tests written answer whole kept l before after r

  wrote : (after : List ℕ) (r : Written) → Writing (tests l) (written l) before after r → Wrote after r
  wrote after r w =
      record {
        writes = w;
        spells = λ (n : ℕ) (e : r ≡ Ok n). rw (w.text n e) (spelt (w.passed n e));
        back = λ (n : ℕ) (e : r ≡ Ok n). rw (w.text n e) (read_back (w.passed n e));
        same = λ (n : ℕ) (e : r ≡ Ok n). same-list (w.passed n e);
      }

  pub refused_page : (r : Written) (f : Fault) → f ≡ fault_of (first_fault (tests l)) → faulty f ≡ true → r ≡ written_or f 0 →
      Wrote before r
  refused_page r f e h k = wrote before r (writes_refused (tests l) (written l) before r f e h k)

  module _ (h : first_fault (tests l) ≡ clean) where
    -- the writer is run on no bytes of the page first: u is what it leaves of them, n its answer
    module _ (u : List ℕ) (n : ℕ) (run : Writes (written l) 0 [] u n) where
      same_page : u ++ before ≡ before
      same_page = ap (λ (x : List ℕ). x ++ before) run.page

      pub short_page : length (u ++ before) < n → Wrote (u ++ before) (Err (refused_at ShortPage 0))
      short_page k =
          let long : length before < length (written l) = omega (arith, ap length same_page, length_after run) in
          rw same_page (wrote before (Err (refused_at ShortPage 0)) (writes_short (tests l) (written l) before h long))

      pub written_page : n ≤ length (u ++ before) → (after : List ℕ) (m : ℕ) →
          Writes (written l) 0 (u ++ before) after m → Wrote after (Ok n)
      written_page k after m w =
          let fits : length (written l) ≤ length before = omega (arith, ap length same_page, length_after run) in
          wrote after (Ok n) (writes_done (tests l) (written l) before h fits after
          (w.page ∙ ap (overlay 0 (written l)) same_page) n (length_after run))
