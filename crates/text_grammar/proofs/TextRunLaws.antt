-- Laws on a token of a text: a run of digits is read as a permutation, and a token is behind the
-- place where it is read.
-- Assumes nothing.
use Prim.Native.Nat.{ℕ, zero, suc, ◌-◌, ◌+◌, ◌<◌}
use native.Mathlib.Omega.{arith}
use mathlib.Core.Path.{◌≡◌, refl, ap, ◌∙◌, subst}
use mathlib.Core.Bool.{Bool, true, false, true≢false, false≢true}
use mathlib.Core.List.{List, [], ◌∷◌}
use lib.ListN.{length, drop}
use lib.Dec.{leb, eqb}
use borrow.Author.Tests.{le-leb}
use Rattle.word.specs.Lists.{all}
use Rattle.word.specs.ListLaws.{and_left, and_in}
use Rattle.text_grammar.specs.declared.cursor.Kind.{Kind}
use Rattle.text_grammar.specs.declared.cursor.Kind.TheVariants.{End, Digits, Epsilon, Empty, Left, Right, Byte}
use Rattle.text_grammar.specs.declared.cursor.Step.{Step}
use Rattle.text_grammar.specs.Spelling.{Token, digits, epsilon, empty, left, right, byte, bytes_of, digit_run}
use Rattle.text_grammar.specs.Tokens.{is_digit, run, begins, token_at, skip_at, placed, tokens_after, tokens}
use Rattle.text_grammar.specs.TokenLaws.{on_cond, digit_value, run_digits}
use Rattle.text_grammar.specs.Grammar.{misspelt, got, read_perm}
use Rattle.text_grammar.specs.Cursor.{Stepped, span_of, tokens_by, Beyond}
use Rattle.text_grammar.specs.Kinds.{is_end}
use Rattle.text_grammar.specs.ItemReading.{kept, Moved}
use Rattle.text_grammar.proofs.TextItemLaws.{gives_by}

-- a run has digits 0 to 9, and at least one
abbrev full_run : Token → Bool
full_run (digits []) = false
full_run (digits (d ∷ u)) = digit_run (d ∷ u)
full_run epsilon = true
full_run empty = true
full_run left = true
full_run right = true
full_run (byte b) = true

-- so has every run among the tokens of a text

abbrev Full : Token → Type 0
Full t = full_run t ≡ true

token_full : (x : ℕ) (s : List ℕ) → Full (token_at x s)
unfolding token_at
token_full x s =
    on_cond Full (is_digit x) _ _
    (λ (e : is_digit x ≡ true). and_in (leb (x - 0x30) 9) (digit_run (run s)) (le-leb (x - 0x30) 9 (digit_value x e).0) (run_digits s))
    (λ _. on_cond Full (begins (bytes_of epsilon) (x ∷ s)) _ _ (λ _. refl)
    (λ _. on_cond Full (begins (bytes_of empty) (x ∷ s)) _ _ (λ _. refl)
    (λ _. on_cond Full (begins (bytes_of left) (x ∷ s)) _ _ (λ _. refl)
    (λ _. on_cond Full (begins (bytes_of right) (x ∷ s)) _ _ (λ _. refl) (λ _. refl)))))

placed_full : (b : Bool) (t : Token) (ts : List Token) → Full t → all full_run ts ≡ true → all full_run (placed b t ts) ≡ true
placed_full true t ts p q = q
placed_full false t ts p q = and_in (full_run t) (all full_run ts) p q

after_full : (k : ℕ) (s : List ℕ) → all full_run (tokens_after k s) ≡ true
unfolding tokens_after
after_full zero [] = refl
after_full (suc k) [] = refl
after_full (suc k) (x ∷ s) = after_full k s
after_full zero (x ∷ s) =
    placed_full (eqb x 0x20) (token_at x s) (tokens_after (skip_at x s) s) (token_full x s) (after_full (skip_at x s) s)

tokens_full : (s : List ℕ) → all full_run (tokens s) ≡ true
unfolding tokens
tokens_full s = after_full zero s

full_perm : (u : List ℕ) (ts : List Token) → full_run (digits u) ≡ true → read_perm (digits u ∷ ts) ≡ got u ts
full_perm [] ts h = absurd (false≢true h)
full_perm (d ∷ u) ts h = rw h refl

run_perm : (t u : List ℕ) (ts : List Token) → tokens t ≡ digits u ∷ ts → read_perm (tokens t) ≡ got u ts
run_perm t u ts e =
    ap read_perm e
    ∙ full_perm u ts (and_left (full_run (digits u)) (all full_run ts)
    (subst (λ (l : List Token). all full_run l ≡ true) e (tokens_full t)))

other_perm : (k : Kind) (t : List ℕ) (ts : List Token) → (k ≡ Digits → ⊥) → (k ≡ Epsilon → ⊥) → read_perm (tokens_by k t ts) ≡ misspelt
other_perm End t ts h g = refl
other_perm Digits t ts h g = absurd (h refl)
other_perm Epsilon t ts h g = absurd (g refl)
other_perm Empty t ts h g = refl
other_perm Left t ts h g = refl
other_perm Right t ts h g = refl
other_perm (Byte b) t ts h g = refl

past : (k : Kind) (a r : ℕ) → Beyond k a r → is_end k ≡ false → a < r
past End a r h e = absurd (true≢false e)
past Digits a r h e = h
past Epsilon a r h e = h
past Empty a r h e = h
past Left a r h e = h
past Right a r h e = h
past (Byte b) a r h e = h

module _ (s : List ℕ) (at : ℕ) (t : Step) (stepped : Stepped s at t) where
  -- behind the place where it is read, but for the end of the text
  pub moved_by : is_end t.kind ≡ false → Moved s at t.next.at
  moved_by h = record { onward = past t.kind at t.next.at stepped.beyond h; inside = stepped.inside }

  pub run_length : t.kind ≡ Digits → t.next.at - t.from ≡ length (run (drop t.from s))
  run_length h =
      let q : t.next.at ≡ t.from + length (run (drop t.from s)) =
      stepped.span ∙ ap (λ (k : Kind). t.from + span_of k (drop t.from s)) h in
      omega arith

  -- a permutation is a run of digits, or ε
  module _ {B : Type 0} (load : List ℕ → B) where
    pub perm_run : t.kind ≡ Digits → kept load (read_perm (tokens (drop at s))) ≡ got (load (run (drop t.from s)))
        (tokens (drop t.next.at s))
    perm_run h =
        ap (kept load) (run_perm (drop at s) (run (drop t.from s)) (tokens (drop t.next.at s)) (gives_by s at t stepped Digits h))

    pub perm_empty : t.kind ≡ Epsilon → kept load (read_perm (tokens (drop at s))) ≡ got (load []) (tokens (drop t.next.at s))
    perm_empty h = ap (λ (ts : List Token). kept load (read_perm ts)) (gives_by s at t stepped Epsilon h)

    pub perm_none : (t.kind ≡ Digits → ⊥) → (t.kind ≡ Epsilon → ⊥) → kept load (read_perm (tokens (drop at s))) ≡ misspelt
    perm_none h g =
        ap (λ (ts : List Token). kept load (read_perm ts)) stepped.gives
        ∙ ap (kept load) (other_perm t.kind (drop t.from s) (tokens (drop t.next.at s)) h g)
