-- What the answers of the writer say of the page.
-- Assumes nothing.
use Prim.Native.Nat.{ℕ, ◌≤◌, ◌<◌}
use native.Mathlib.Nat.{zero-add}
use native.Mathlib.Omega.{arith}
use mathlib.Core.Path.{◌≡◌, refl, sym, ap, ◌∙◌}
use mathlib.Core.Bool.{true, true≢false}
use mathlib.Core.List.{List, [], ◌∷◌, ◌++◌}
use lib.ListN.{length, drop}
use lib.Seq.{take-append_seam, drop-append_seam}
use lib.Dec.{ltb}
use borrow.Author.Tests.{lt-ltb, le-ltb}
use Rattle.word.specs.Finding.{Finding, clean, fault, test, first_fault}
use Rattle.word.specs.declared.refusal.Refusal.{Refusal}
use Rattle.word.specs.declared.refusal.Refusal.TheVariants.{ShortPage}
use Rattle.std.specs.Prelude.{Ok, Err}
use Rattle.word.specs.Refusal.{refused_at}
use Rattle.word.specs.declared.refusal.Refused.{Refused}
use Rattle.forms.specs.SchemeMemory.{Fault, fault_of, faulty}
use Rattle.text_page.specs.Page.{overlay}
use Rattle.text_page.specs.PageLaws.{overlay_whole}
use Rattle.notation.specs.Written.{Written, written_or, writing, Writing}
use Rattle.scheme.specs.TestLaws.{single}

-- the two answers are told apart, and the number of bytes is read off
abbrev bytes_in : Written → ℕ
bytes_in (Ok n) = n
bytes_in (Err e) = 0

abbrev is_bytes : Written → ℕ
is_bytes (Ok n) = 1
is_bytes (Err e) = 0

not_bytes : (x : Refused) (n : ℕ) → ◌≡◌ {A = Written} (Err x) (Ok n) → ⊥
not_bytes x n e = let z : ◌≡◌ {A = ℕ} 0 1 = ap is_bytes e in omega (arith, z)

-- a test behind others
behind_fault : (l : List Finding) (x : Finding) (r : Refusal) (i : ℕ) → first_fault l ≡ fault r i → first_fault (l ++ (x ∷ [])) ≡ fault r i
behind_fault [] x r i e = let z : ◌≡◌ {A = ℕ} 0 1 = cc in absurd (omega (arith, z))
behind_fault (clean ∷ l) x r i e = behind_fault l x r i e
behind_fault (fault q j ∷ l) x r i e = e

behind_clean : (l : List Finding) (x : Finding) → first_fault l ≡ clean → first_fault (l ++ (x ∷ [])) ≡ x
behind_clean [] x e = single x
behind_clean (clean ∷ l) x e = behind_clean l x e
behind_clean (fault q j ∷ l) x e = let z : ◌≡◌ {A = ℕ} 0 1 = cc in absurd (omega (arith, z))

module _ (tests : List Finding) (xs before : List ℕ) where
  refused_by : (r : Refusal) (i : ℕ) → writing tests xs (length before) ≡ fault r i → Writing tests xs before before (Err (refused_at r i))
  refused_by r i e =
      record {
        result = rw e refl;
        numbers = rw e refl;
        page = rw e refl;
        passed = λ n h. absurd (not_bytes (refused_at r i) n h);
        text = λ n h. absurd (not_bytes (refused_at r i) n h);
        rest = λ n h. absurd (not_bytes (refused_at r i) n h);
      }

  -- the tests of the list refuse
  pub writes_refused : (r : Written) (f : Fault) → f ≡ fault_of (first_fault tests) → faulty f ≡ true → r ≡ written_or f 0 →
      Writing tests xs before before r
  writes_refused r f e h k = go (first_fault tests) refl (sym (ap faulty e) ∙ h) (k ∙ ap (λ (x : Fault). written_or x 0) e)
    where
      go : (x : Finding) → first_fault tests ≡ x → faulty (fault_of x) ≡ true → r ≡ written_or (fault_of x) 0 →
          Writing tests xs before before r
      go clean p q w = absurd (true≢false (sym q))
      go (fault v i) p q w = rw w (refused_by v i (behind_fault tests (test ShortPage (ltb (length before) (length xs))) v i p))

  module _ (h : first_fault tests ≡ clean) where
    -- the page is shorter than the text
    pub writes_short : length before < length xs → Writing tests xs before before (Err (refused_at ShortPage 0))
    writes_short k =
        refused_by ShortPage 0
        (behind_clean tests (test ShortPage (ltb (length before) (length xs))) h ∙ rw (lt-ltb (length before) (length xs) k) refl)

    -- the text is written
    pub writes_done : length xs ≤ length before → (after : List ℕ) → after ≡ overlay 0 xs before → (n : ℕ) → n ≡ length xs →
        Writing tests xs before after (Ok n)
    writes_done k after a n e =
        let fits : writing tests xs (length before) ≡ clean =
        behind_clean tests (test ShortPage (ltb (length before) (length xs))) h ∙ rw (le-ltb (length before) (length xs) k) refl in
        let whole : after ≡ xs ++ drop (length xs) before = a ∙ overlay_whole 0 xs before (omega arith) ∙ rw (zero-add (length xs)) refl in
        record {
          result = rw (fits, e) refl;
          numbers = rw (fits, e) refl;
          page = rw fits a;
          passed = λ m q. h;
          text = λ m q. rw (sym (ap bytes_in q), e, whole) (take-append_seam xs (drop (length xs) before));
          rest = λ m q. rw (sym (ap bytes_in q), e, whole) (drop-append_seam xs (drop (length xs) before));
        }
