-- Laws on the text from a place on: its front against a mark, its spaces, its run of digits, its
-- first token.
-- Assumes nothing.
use Prim.Native.Nat.{ℕ, suc, ◌+◌, ◌-◌, ◌≤◌, ◌<◌, max}
use native.Mathlib.Numerals.{add-one}
use native.Mathlib.Omega.{arith}
use mathlib.Core.Path.{◌≡◌, refl, sym, ap, ap₂, ◌∙◌, subst}
use mathlib.Core.Logic.{◌⊎◌, inl, inr}
use mathlib.Core.Bool.{true, false, false≢true, ◌&&◌}
use mathlib.Core.List.{List, [], ◌∷◌}
use lib.ListN.{length, get_or, take, drop, length-drop, length-map, drop_of_length-le}
use lib.Seq.{drop-cons, drop-drop, take_all}
use lib.Dec.{eqb}
use borrow.Author.Tests.{eq-eqb, eqb-true, ne_eqb}
use Rattle.std.specs.List.{starts_with}
use Rattle.word.specs.ListLaws.{and_right, below_or_not, same_test}
use Rattle.text_grammar.specs.Spelling.{Token, digits, epsilon, empty, left, right, byte, bytes_of}
use Rattle.text_grammar.specs.Tokens.{is_digit, run, begins, token_at, more, tokens}
use Rattle.text_grammar.specs.TokenLaws.{on_cond, tokens_nil, tokens_space, tokens_cons}
use Rattle.text_grammar.specs.Cursor.{Passed, Stepped, mark_of, width_of, span_of, tokens_by, Beyond}
use Rattle.text_grammar.specs.declared.cursor.Kind.{Kind}
use Rattle.text_grammar.specs.declared.cursor.Kind.TheVariants.{End, Digits, Epsilon, Empty, Left, Right, Byte}

-- the tail of a text, as a call sees it
pub tail_is : {A : Type 0} (at : ℕ) (s : List A) → take (length s - at) (drop at s) ≡ drop at s
tail_is at s = take_all (length s - at) (drop at s) (omega (arith, length-drop at s))

-- the front of a text against the bytes of a mark

eqb_sym : (a x : ℕ) → eqb a x ≡ eqb x a
eqb_sym a x = same_test (eqb a x) (eqb x a) (λ e. eq-eqb x a (sym (eqb-true a x e))) (λ e. eq-eqb a x (sym (eqb-true x a e)))

-- the library's test, for the bytes of a mark
pub begins_starts : (m s : List ℕ) → starts_with eqb s m ≡ begins m s
begins_starts [] s = refl
begins_starts (a ∷ m) [] = refl
begins_starts (a ∷ m) (x ∷ s) = ap₂ ◌&&◌ (eqb_sym a x) (begins_starts m s)

begins_long : (l s : List ℕ) → begins l s ≡ true → length l ≤ length s
begins_long [] s h = omega arith
begins_long (a ∷ l) [] h = absurd (false≢true h)
begins_long (a ∷ l) (x ∷ s) h = let k = begins_long l s (and_right (eqb x a) (begins l s) h) in omega arith

-- which mark it is, by the tests that were made

module _ (x : ℕ) (t : List ℕ) where
  pub is_epsilon_lem : begins (bytes_of epsilon) t ≡ true → mark_of x t ≡ Epsilon
  unfolding mark_of
  is_epsilon_lem a = rw a

  module _ (a : begins (bytes_of epsilon) t ≡ false) where
    pub is_empty_lem : begins (bytes_of empty) t ≡ true → mark_of x t ≡ Empty
    unfolding mark_of
    is_empty_lem b = rw (a, b)

    module _ (b : begins (bytes_of empty) t ≡ false) where
      pub is_left_lem : begins (bytes_of left) t ≡ true → mark_of x t ≡ Left
      unfolding mark_of
      is_left_lem c = rw (a, b, c)

      module _ (c : begins (bytes_of left) t ≡ false) where
        pub is_right_lem : begins (bytes_of right) t ≡ true → mark_of x t ≡ Right
        unfolding mark_of
        is_right_lem d = rw (a, b, c, d)

        pub is_byte_lem : begins (bytes_of right) t ≡ false → mark_of x t ≡ Byte x
        unfolding mark_of
        is_byte_lem d = rw (a, b, c, d)

-- a byte below 0x80 is no first byte of a mark
pub plain : (x : ℕ) (s : List ℕ) → 0 < length s → get_or s 0 0 < 0x80 → mark_of x s ≡ Byte x
plain x [] h l = absurd (omega arith)
plain x (b ∷ s) h l =
    is_byte_lem x (b ∷ s) (other (bytes_of epsilon) 0xCE (0xB5 ∷ []) refl (omega arith))
    (other (bytes_of empty) 0xE2 (0x88 ∷ 0x85 ∷ []) refl (omega arith))
    (other (bytes_of left) 0xE2 (0x9F ∷ 0xA8 ∷ []) refl (omega arith))
    (other (bytes_of right) 0xE2 (0x9F ∷ 0xA9 ∷ []) refl (omega arith))
  where
    other : (m : List ℕ) (a : ℕ) (r : List ℕ) → m ≡ a ∷ r → (b ≡ a → ⊥) → begins m (b ∷ s) ≡ false
    other m a r e n = rw (e, ne_eqb b a n) refl

-- spaces

pub space_next : (s : List ℕ) (i : ℕ) → i < length s → get_or s i 0 ≡ 0x20 → tokens (drop i s) ≡ tokens (drop (i + 1) s)
space_next s i h e = rw (add-one, drop-cons s i 0 h, e) (tokens_space (drop (suc i) s))

-- from a place where nothing but spaces comes up to the end of the text
pub passed_end : (s : List ℕ) (at i : ℕ) → tokens (drop at s) ≡ tokens (drop i s) → length s ≤ i → Passed s at (max at (length s))
passed_end s at i same h =
    record {
      same = same ∙ ap tokens (drop_of_length-le s h ∙ sym (drop_of_length-le s (omega arith)));
      onward = omega arith;
      inside = λ k. omega arith;
      stopped = λ k. absurd (omega arith);
    }

-- a run of digits

pub run_next : (s : List ℕ) (i : ℕ) → i < length s → is_digit (get_or s i 0) ≡ true → run (drop i s) ≡
    (get_or s i 0 - 0x30) ∷ run (drop (suc i) s)
run_next s i h e = rw (drop-cons s i 0 h, e)

pub run_past : (s : List ℕ) (i : ℕ) → i < length s → is_digit (get_or s i 0) ≡ true → i + length (run (drop i s)) ≡
    i + 1 + length (run (drop (i + 1) s))
run_past s i h e = rw (add-one, run_next s i h e) (omega arith)

pub run_stop : (s : List ℕ) (i : ℕ) → i < length s → is_digit (get_or s i 0) ≡ false → i + length (run (drop i s)) ≡ i
run_stop s i h e = rw (drop-cons s i 0 h, e) (omega arith)

pub run_end : (s : List ℕ) (i : ℕ) → length s ≤ i → i + length (run (drop i s)) ≡ i
run_end s i h = rw (drop_of_length-le s h) (omega arith)

-- the run from a place goes up to the end of the text
pub run_whole : (s : List ℕ) (at i : ℕ) → at + length (run (drop at s)) ≡ i + length (run (drop i s)) → at ≤ i →
    (at ≤ length s → i ≤ length s)
    → length s ≤ i → max at (length s) ≡ at + length (run (drop at s))
run_whole s at i e g k h = step (below_or_not at (length s))
  where
    step : (at < length s) ⊎ (length s ≤ at) → max at (length s) ≡ at + length (run (drop at s))
    step (inl l) = let j = run_end s i h in let m = k (omega arith) in omega arith
    step (inr l) = let j = run_end s at l in omega arith

run_short : (s : List ℕ) → length (run s) ≤ length s
run_short [] = omega arith
run_short (x ∷ s) = on_cond (λ (r : List ℕ). length r ≤ suc (length s)) (is_digit x) ((x - 0x30) ∷ run s) []
    (λ _. let k = run_short s in omega arith) (λ _. omega arith)

-- the first token

-- what holds of the token of kind k at the front of the text x ∷ t
record Marked (x : ℕ) (t : List ℕ) (k : Kind) : Type 0 where
  gives : tokens (x ∷ t) ≡ tokens_by k (x ∷ t) (tokens (drop (width_of k) (x ∷ t)))
  long : width_of k ≤ suc (length t)
  wide : (a r : ℕ) → a < r → Beyond k a r
  span : (u : List ℕ) → span_of k u ≡ width_of k
  some : 0 < width_of k

module _ (x : ℕ) (t : List ℕ) (space : x ≡ 0x20 → ⊥) where
  front : (τ : Token) → token_at x t ≡ τ → tokens (x ∷ t) ≡ τ ∷ tokens (drop (more τ) t)
  front τ e = tokens_cons x t space ∙ ap (λ (σ : Token). σ ∷ tokens (drop (more σ) t)) e

  module _ (other : is_digit x ≡ false) where
    at_byte : begins (bytes_of epsilon) (x ∷ t) ≡ false → begins (bytes_of empty) (x ∷ t) ≡ false → begins (bytes_of left) (x ∷ t) ≡ false
        → begins (bytes_of right) (x ∷ t) ≡ false → Marked x t (Byte x)
    unfolding token_at
    at_byte a b c d = record {
      gives = front (byte x) (simp (other, a, b, c, d));
      long = omega arith;
      wide =
          λ _ _ h. h;
      span = λ _. refl;
      some = omega arith;
    }

    at_right : begins (bytes_of epsilon) (x ∷ t) ≡ false → begins (bytes_of empty) (x ∷ t) ≡ false → begins (bytes_of left) (x ∷ t) ≡ false
        → begins (bytes_of right) (x ∷ t) ≡ true → Marked x t Right
    unfolding token_at
    at_right a b c d =
        record {
          gives = front right (simp (other, a, b, c, d));
          long = begins_long (bytes_of right) (x ∷ t) d;
          wide = λ _ _ h. h;
          span = λ _. refl;
          some = omega arith;
        }

    at_left : begins (bytes_of epsilon) (x ∷ t) ≡ false → begins (bytes_of empty) (x ∷ t) ≡ false →
        begins (bytes_of left) (x ∷ t) ≡ true → Marked x t Left
    unfolding token_at
    at_left a b c = record {
      gives = front left (simp (other, a, b, c));
      long = begins_long (bytes_of left) (x ∷ t)
          c;
      wide = λ _ _ h. h;
      span = λ _. refl;
      some = omega arith;
    }

    at_empty : begins (bytes_of epsilon) (x ∷ t) ≡ false → begins (bytes_of empty) (x ∷ t) ≡ true → Marked x t Empty
    unfolding token_at
    at_empty a b = record {
      gives = front empty (simp (other, a, b));
      long = begins_long (bytes_of empty) (x ∷ t) b;
      wide = λ _ _ h. h;
      span = λ _. refl;
      some = omega arith;
    }

    at_epsilon : begins (bytes_of epsilon) (x ∷ t) ≡ true → Marked x t Epsilon
    unfolding token_at
    at_epsilon a = record {
      gives = front epsilon (simp (other, a));
      long = begins_long (bytes_of epsilon) (x ∷ t) a;
      wide = λ _ _ h. h;
      span = λ _. refl;
      some = omega arith;
    }

    marked : Marked x t (mark_of x (x ∷ t))
    unfolding mark_of
    marked =
        on_cond (Marked x t) (begins (bytes_of epsilon) (x ∷ t)) _ _ at_epsilon
        (λ a. on_cond (Marked x t) (begins (bytes_of empty) (x ∷ t)) _ _ (at_empty a)
        (λ b. on_cond (Marked x t) (begins (bytes_of left) (x ∷ t)) _ _ (at_left a b)
        (λ c. on_cond (Marked x t) (begins (bytes_of right) (x ∷ t)) _ _ (at_right a b c) (at_byte a b c))))

  front_run : is_digit x ≡ true → tokens (x ∷ t) ≡ digits (run (x ∷ t)) ∷ tokens (drop (length (run (x ∷ t))) (x ∷ t))
  unfolding token_at
  front_run e =
      let τ : Token = digits ((x - 0x30) ∷ run t) in
      let k : more τ ≡ length (run t) = omega (arith, length-map (run t) (λ (d : ℕ). 48 + d)) in
      rw e (front τ (simp e) ∙ ap (λ (n : ℕ). τ ∷ tokens (drop n t)) k)

-- the step of a cursor from `at`, past spaces to the place a

module _ (s : List ℕ) (at a : ℕ) (passed : Passed s at a) where
  pub stepped_end : length s ≤ a → Stepped s at (record { kind = End; from = a; next = record { at = a } })
  stepped_end h =
      record {
        gives = passed.same ∙ rw (drop_of_length-le s h) tokens_nil;
        onward = passed.onward;
        span = omega arith;
        beyond = passed.onward;
        inside = passed.inside;
      }

  pub stepped_run : (n : ℕ) → a < length s → is_digit (get_or s a 0) ≡ true → n ≡ a + length (run (drop a s))
      → Stepped s at (record { kind = Digits; from = a; next = record { at = n } })
  stepped_run n h e q =
      let d : drop a s ≡ get_or s a 0 ∷ drop (suc a) s = drop-cons s a 0 h in
      let f : tokens (drop a s) ≡ digits (run (drop a s)) ∷ tokens (drop (length (run (drop a s))) (drop a s)) =
      subst (λ (u : List ℕ). tokens u ≡ digits (run u) ∷ tokens (drop (length (run u)) u)) (sym d)
      (front_run (get_or s a 0) (drop (suc a) s) (passed.stopped h) e) in
      let one : length (run (drop a s)) ≡ suc (length (run (drop (suc a) s))) = ap length (run_next s a h e) in
      let all = run_short (drop a s) in
      let on = passed.onward in
      record {
        gives = passed.same ∙ f ∙ ap (λ (v : List ℕ). digits (run (drop a s)) ∷ tokens v)
            (drop-drop (length (run (drop a s))) a s ∙ ap (λ (i : ℕ). drop i s) (sym q));
        onward = passed.onward;
        span = q;
        beyond = omega arith;
        inside = λ _. omega (arith, length-drop a s);
      }

  mark_at : (k : Kind) → a < length s → is_digit (get_or s a 0) ≡ false → k ≡ mark_of (get_or s a 0) (drop a s) →
      Marked (get_or s a 0) (drop (suc a) s) k
  mark_at k h e q =
      subst (λ (j : Kind). Marked (get_or s a 0) (drop (suc a) s) j)
      (ap (λ (u : List ℕ). mark_of (get_or s a 0) u) (sym (drop-cons s a 0 h)) ∙ sym q)
      (marked (get_or s a 0) (drop (suc a) s) (passed.stopped h) e)

  -- a mark ends within the text
  pub mark_inside : (k : Kind) → a < length s → is_digit (get_or s a 0) ≡ false → k ≡ mark_of (get_or s a 0) (drop a s) →
      a + width_of k ≤ length s
  mark_inside k h e q = let long = (mark_at k h e q).long in omega (arith, length-drop (suc a) s)

  pub stepped_mark : (k : Kind) (n : ℕ) → a < length s → is_digit (get_or s a 0) ≡ false → k ≡
      mark_of (get_or s a 0) (drop a s) → n ≡ a + width_of k
      → Stepped s at (record { kind = k; from = a; next = record { at = n } })
  stepped_mark k n h e q p =
      let x = get_or s a 0 in
      let d : drop a s ≡ x ∷ drop (suc a) s = drop-cons s a 0 h in
      let m = mark_at k h e q in
      let on = passed.onward in
      let wide = m.some in
      let long = m.long in
      record {
        gives = passed.same ∙ subst (λ (u : List ℕ). tokens u ≡ tokens_by k u (tokens (drop (width_of k) u))) (sym d) m.gives
            ∙ ap (λ (v : List ℕ). tokens_by k (drop a s) (tokens v)) (drop-drop (width_of k) a s ∙ ap (λ (i : ℕ). drop i s) (sym p));
        onward = passed.onward;
        span = p ∙ ap (λ (i : ℕ). a + i) (sym (m.span (drop a s)));
        beyond = m.wide at n (omega arith);
        inside = λ _. omega (arith, length-drop (suc a) s);
      }

-- the cursor never goes back
pub beyond_le : (k : Kind) (a r : ℕ) → Beyond k a r → a ≤ r
beyond_le End a r h = h
beyond_le Digits a r h = omega arith
beyond_le Epsilon a r h = omega arith
beyond_le Empty a r h = omega arith
beyond_le Left a r h = omega arith
beyond_le Right a r h = omega arith
beyond_le (Byte b) a r h = omega arith
