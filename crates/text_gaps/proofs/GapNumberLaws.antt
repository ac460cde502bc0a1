-- Laws on the reader of numbers: the digits of a run, the number of a run, the number from a place
-- on.
-- Assumes nothing.
use Prim.Native.Nat.{ℕ, zero, suc, ◌+◌, ◌*◌, ◌-◌, ◌≤◌, ◌<◌}
use native.Mathlib.Omega.{arith}
use mathlib.Core.Path.{◌≡◌, refl, sym, ap, ap₂, ◌∙◌}
use mathlib.Core.Bool.{true}
use mathlib.Core.List.{List, [], ◌∷◌}
use mathlib.Core.Option.{Option as Maybe, none, some}
use Rattle.std.specs.Prelude.{Some, None}
use lib.ListN.{length, get_or, drop}
use lib.Dec.{leb}
use borrow.Author.Tests.{leb-true, le-leb}
use Rattle.word.specs.ListLaws.{and_left, and_right}
use Rattle.text_grammar.specs.declared.cursor.Kind.{Kind}
use Rattle.text_grammar.specs.declared.cursor.Kind.TheVariants.{End, Digits, Epsilon, Empty, Left, Right, Byte}
use Rattle.text_grammar.specs.declared.cursor.Step.{Step}
use Rattle.text_grammar.specs.Spelling.{Token, digit_run}
use Rattle.text_grammar.specs.Tokens.{run, tokens}
use Rattle.text_grammar.specs.TokenLaws.{run_digits}
use Rattle.text_grammar.specs.Grammar.{misspelt, number_of, given, read_number}
use Rattle.text_grammar.specs.Cursor.{Stepped, tokens_by}
use Rattle.text_gaps.specs.PartReading.{NumberAt}
use Rattle.text_gaps.specs.GapReading.{DigitOf, Numbered}
use Rattle.text_patterns.proofs.FilledLaws.{digits_in}
use Rattle.text_grammar.specs.Kinds.{is_end}
use Rattle.text_grammar.proofs.TextRunLaws.{moved_by}
use Rattle.text_grammar.specs.GrammarLaws.{two_digits, three_digits}

-- digits and numbers

digit_small : (u : List ℕ) (i : ℕ) → digit_run u ≡ true → i < length u → get_or u i 0 ≤ 9
digit_small [] i h k = absurd (omega arith)
digit_small (d ∷ u) zero h k = leb-true d 9 (and_left (leb d 9) (digit_run u) h)
digit_small (d ∷ u) (suc i) h k = digit_small u i (and_right (leb d 9) (digit_run u) h) (omega arith)

pub digit_is : (s : List ℕ) (from i r : ℕ) → i < length (run (drop from s)) → r ≡ get_or s (from + i) 0 - 0x30 →
    DigitOf (run (drop from s)) i r
digit_is s from i r h e =
    let k : r ≡ get_or (run (drop from s)) i 0 = e ∙ sym (digits_in s from i h).0 in
    let l : get_or (run (drop from s)) i 0 ≤ 9 = digit_small (run (drop from s)) i (run_digits (drop from s)) h in
    record { is = k; small = omega arith }

-- a run that is no number
numbered_none : (u : List ℕ) → number_of u ≡ none → Numbered u None
numbered_none u h = record { gives = h; small = tt }

pub number_empty : (u : List ℕ) → length u ≡ 0 → Numbered u None
number_empty [] h = numbered_none [] refl
number_empty (d ∷ u) h = absurd (omega arith)

pub number_long : (u : List ℕ) → 3 < length u → Numbered u None
number_long [] h = absurd (omega arith)
number_long (a ∷ []) h = absurd (omega arith)
number_long (a ∷ (b ∷ [])) h = absurd (omega arith)
number_long (a ∷ (b ∷ (c ∷ []))) h = absurd (omega arith)
number_long (a ∷ (b ∷ (c ∷ (d ∷ u)))) h = numbered_none (a ∷ (b ∷ (c ∷ (d ∷ u)))) refl

one_digit : (x : ℕ) → x ≤ 9 → number_of (x ∷ []) ≡ some x
one_digit x h = rw (le-leb x 9 h) refl

pub number_one : (u : List ℕ) (a : ℕ) → length u ≡ 1 → DigitOf u 0 a → Numbered u (Some a)
number_one [] a h d = absurd (omega arith)
number_one (x ∷ []) a h d =
    let e : a ≡ x = d.is in
    let k : a ≤ 9 = d.small in
    record { gives = ap (λ (y : ℕ). number_of (y ∷ [])) (sym e) ∙ one_digit a k; small = omega arith }
number_one (x ∷ (y ∷ u)) a h d = absurd (omega arith)

pub number_zero : (u : List ℕ) (a : ℕ) → 1 < length u → DigitOf u 0 a → a ≡ 0 → Numbered u None
number_zero u a h d z = numbered_none u (leading u h (sym d.is ∙ z))
  where
    leading : (v : List ℕ) → 1 < length v → get_or v 0 0 ≡ 0 → number_of v ≡ none
    leading [] k f = absurd (omega arith)
    leading (x ∷ []) k f = absurd (omega arith)
    leading (x ∷ (y ∷ [])) k f = ap (λ (w : ℕ). number_of (w ∷ (y ∷ []))) f
    leading (x ∷ (y ∷ (v ∷ []))) k f = ap (λ (w : ℕ). number_of (w ∷ (y ∷ (v ∷ [])))) f
    leading (x ∷ (y ∷ (v ∷ (w ∷ l)))) k f = refl

pub number_two : (u : List ℕ) (a b : ℕ) → length u ≡ 2 → DigitOf u 0 a → 1 ≤ a → DigitOf u 1 b → Numbered u (Some (a * 10 + b))
number_two [] a b h d p e = absurd (omega arith)
number_two (x ∷ []) a b h d p e = absurd (omega arith)
number_two (x ∷ (y ∷ [])) a b h d p e =
    let i : a ≡ x = d.is in
    let j : b ≡ y = e.is in
    let k : a ≤ 9 = d.small in
    let l : b ≤ 9 = e.small in
    record { gives = ap₂ (λ (v w : ℕ). number_of (v ∷ (w ∷ []))) (sym i) (sym j) ∙ two_digits a b p k l; small = omega arith }
number_two (x ∷ (y ∷ (v ∷ u))) a b h d p e = absurd (omega arith)

pub number_three : (u : List ℕ) (a b c : ℕ) → length u ≡ 3 → DigitOf u 0 a → 1 ≤ a → DigitOf u 1 b → DigitOf u 2 c
    → Numbered u (Some ((a * 10 + b) * 10 + c))
number_three [] a b c h d p e f = absurd (omega arith)
number_three (x ∷ []) a b c h d p e f = absurd (omega arith)
number_three (x ∷ (y ∷ [])) a b c h d p e f = absurd (omega arith)
number_three (x ∷ (y ∷ (z ∷ []))) a b c h d p e f =
    let i : a ≡ x = d.is in
    let j : b ≡ y = e.is in
    let o : c ≡ z = f.is in
    let k : a ≤ 9 = d.small in
    let l : b ≤ 9 = e.small in
    let m : c ≤ 9 = f.small in
    record {
      gives = ap₂ (λ (v w : ℕ). number_of (v ∷ (w ∷ (z ∷ [])))) (sym i) (sym j) ∙
          ap (λ (v : ℕ). number_of (a ∷ (b ∷ (v ∷ [])))) (sym o) ∙ three_digits a b c p k l m;
      small = omega arith;
    }
number_three (x ∷ (y ∷ (z ∷ (v ∷ u)))) a b c h d p e f = absurd (omega arith)

-- kinds of tokens

no_number_lem : (k : Kind) (t : List ℕ) (ts : List Token) → (k ≡ Digits → ⊥) → read_number (tokens_by k t ts) ≡ misspelt
no_number_lem End t ts h = refl
no_number_lem Digits t ts h = absurd (h refl)
no_number_lem Epsilon t ts h = refl
no_number_lem Empty t ts h = refl
no_number_lem Left t ts h = refl
no_number_lem Right t ts h = refl
no_number_lem (Byte b) t ts h = refl

-- a number from a place on

module _ (s : List ℕ) (at : ℕ) (t : Step) (stepped : Stepped s at t) where
  pub number_other : (t.kind ≡ Digits → ⊥) → NumberAt s at None
  number_other h =
      record {
        gives = ap read_number stepped.gives ∙ no_number_lem t.kind (drop t.from s) (tokens (drop t.next.at s)) h;
        small = tt;
        moved = tt;
      }

  module _ (h : t.kind ≡ Digits) where
    run_read : (o : Maybe ℕ) → number_of (run (drop t.from s)) ≡ o → read_number (tokens (drop at s)) ≡ given o (tokens (drop t.next.at s))
    run_read o e =
        let ts = tokens (drop t.next.at s) in
        ap read_number (stepped.gives ∙ ap (λ (k : Kind). tokens_by k (drop t.from s) ts) h) ∙ ap (λ (p : Maybe ℕ). given p ts) e

    pub number_none : Numbered (run (drop t.from s)) None → NumberAt s at None
    number_none n = record { gives = run_read none n.gives; small = tt; moved = tt }

    pub number_run : (v : ℕ) → Numbered (run (drop t.from s)) (Some v) → NumberAt s at (Some (v, t.next))
    number_run v n =
        record {
          gives = run_read (some v) n.gives;
          small = n.small;
          moved = moved_by s at t stepped (ap is_end h);
        }
