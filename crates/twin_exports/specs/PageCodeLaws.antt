-- Laws of containment as one number: what each answer says of the tests and of the first copy.
use Rattle.std.specs.Prelude.{ℕ, ◌≤◌, ◌≡◌, refl, length, take, ltb, Some, None, Ok, Err, Result}
use Rattle.std.specs.Prelude.{Option as Maybe}
use Rattle.word.specs.declared.refusal.Refused.{Refused}
use Rattle.std.proofs.Common.{arith, sym, ap, ap₂, ◌∙◌, ltb-false}
use mathlib.Core.List.{List, [], map, Memᴰ}
use Rattle.std.proofs.Math.Option.{Option, none, some}
use Rattle.word.specs.Ceilings.{DIGITS, WORD}
use Rattle.word.specs.Word.{first_copy}
use Rattle.word.specs.Finding.{Finding, clean, fault, first_fault}
use Rattle.copy_search.specs.Copy.{placed}
use Rattle.containment.specs.Containment.{containment_tests, answer_of, containment}
use Rattle.word.proofs.EarliestLaws.{copy_length, copy_within}
use Rattle.word.specs.declared.refusal.Refusal.TheVariants.{Oversize}
use Rattle.scheme.specs.FindingLaws.{clean_in, clean_test}
use Rattle.text_page.specs.Page.{overlay}
use Rattle.text_page.specs.PageLaws.{overlay_none}
use Rattle.witness.proofs.ShownLaws.{byte, placed_bytes}
use Rattle.twin_exports.specs.PageCodes.{copy_code, copy_given, CopiesOf}

-- the positions in an answer
abbrev positions_in : Result (Maybe (List ℕ)) Refused → List ℕ
positions_in (Ok (Some at)) = at
positions_in (Ok None) = []
positions_in (Err e) = []

-- positions come from clean tests and a copy, which has them
yes_copy : (f : Finding) (o : Option (List ℕ)) (at : List ℕ) → answer_of f o ≡ Ok (Some at) →
    (x : List ℕ) × (f ≡ clean) × (o ≡ some x) × (at ≡ placed x)
yes_copy (fault r i) o at e = let n : ◌≡◌ {A = ℕ} 0 1 = cc in absurd (omega arith)
yes_copy clean none at e = let n : ◌≡◌ {A = ℕ} 0 1 = cc in absurd (omega arith)
yes_copy clean (some x) at e = (x, refl, refl, sym (ap positions_in e))

no_copy : (f : Finding) (o : Option (List ℕ)) → answer_of f o ≡ Ok None → (f ≡ clean) × (o ≡ none)
no_copy (fault r i) o e = let n : ◌≡◌ {A = ℕ} 0 1 = cc in absurd (omega arith)
no_copy clean none e = (refl, refl)
no_copy clean (some x) e = let n : ◌≡◌ {A = ℕ} 0 1 = cc in absurd (omega arith)

refused_copy : (f : Finding) (o : Option (List ℕ)) (x : Refused) → answer_of f o ≡ Err x → f ≡ fault x.refusal x.index
refused_copy (fault q j) o x e = ap found_by e
  where
    found_by : Result (Maybe (List ℕ)) Refused → Finding
    found_by (Ok c) = clean
    found_by (Err y) = fault y.refusal y.index
refused_copy clean none x e = let n : ◌≡◌ {A = ℕ} 0 1 = cc in absurd (omega arith)
refused_copy clean (some at) x e = let n : ◌≡◌ {A = ℕ} 0 1 = cc in absurd (omega arith)

module _ (β w : List ℕ) (r : Result (Maybe (List ℕ)) Refused) (e : r ≡ containment β w) where
  -- a pattern that went through its tests is short, and so is the permutation
  pub pattern_short : first_fault (containment_tests β w) ≡ clean → length β ≤ DIGITS
  pattern_short c = ltb-false DIGITS (length β)
      (clean_test Oversize (ltb DIGITS (length β)) (clean_in (containment_tests β w) (Memᴰ.head refl) c))

  word_short : first_fault (containment_tests β w) ≡ clean → length w ≤ WORD
  word_short c = ltb-false WORD (length w) (clean_test Oversize (ltb WORD (length w))
      (clean_in (containment_tests β w) (Memᴰ.tail (Memᴰ.tail (Memᴰ.head refl))) c))

  pub yes_short : (at : List ℕ) → r ≡ Ok (Some at) → length β ≤ DIGITS
  yes_short at y = let (x, c, f, g) = yes_copy (first_fault (containment_tests β w)) (first_copy β w) at (sym e ∙ y) in pattern_short c

  pub copies_yes : (given : List ℕ) → r ≡ Ok (Some given) → (before after : List ℕ) (m : ℕ) → m ≡ length β →
      after ≡ overlay 0 (take (length β) (map byte given)) before → CopiesOf β w before after m
  copies_yes given y before after m size q =
      let (at, c, f, g) = yes_copy (first_fault (containment_tests β w)) (first_copy β w) given (sym e ∙ y) in
      let long = copy_length β w at f in
      record {
        answer = size ∙ sym long ∙ sym (ap₂ copy_code c f);
        page = q ∙ ap (λ (l : List ℕ). overlay 0 l before)
            (ap₂ (λ (n : ℕ) (l : List ℕ). take n (map byte l)) (sym long) g ∙ placed_bytes at (inside at c f) ∙ sym (ap₂ copy_given c f));
      }
    where
      inside : (at : List ℕ) → first_fault (containment_tests β w) ≡ clean → first_copy β w ≡ some at → (x : ℕ) → Memᴰ x at → x ≤ 255
      inside at c f x m = let (low, high) = copy_within β w at f m in omega (arith, word_short c)

  pub copies_no : r ≡ Ok None → (page : List ℕ) → CopiesOf β w page page 0
  copies_no y page =
      let (c, f) = no_copy (first_fault (containment_tests β w)) (first_copy β w) (sym e ∙ y) in
      record {
        answer = sym (ap₂ copy_code c f);
        page = sym (ap (λ (l : List ℕ). overlay 0 l page) (ap₂ copy_given c f) ∙ overlay_none 0 page);
      }

  pub copies_refused : (x : Refused) → r ≡ Err x → (page : List ℕ) (m : ℕ) →
      m ≡ copy_code (fault x.refusal x.index) (first_copy β w) → CopiesOf β w page page m
  copies_refused x y page m k =
      let f = refused_copy (first_fault (containment_tests β w)) (first_copy β w) x (sym e ∙ y) in
      record {
        answer = k ∙ sym (ap (λ (t : Finding). copy_code t (first_copy β w)) f);
        page = sym (ap (λ (t : Finding). overlay 0 (copy_given t (first_copy β w)) page) f ∙ overlay_none 0 page);
      }
