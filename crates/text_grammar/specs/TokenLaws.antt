-- Every text is its tokens with spaces between, and proper tokens with no two runs as neighbours
-- are found again.
use Rattle.std.specs.Prelude.{ℕ, zero, suc, ◌+◌, ◌-◌, ◌≤◌, ◌<◌, ◌≡◌, refl, Bool, true, false, not, cond, ◌&&◌, List, [], ◌∷◌, ◌++◌}
use Rattle.std.specs.Prelude.{map, length, replicate, drop, get_or, leb, eqb}
use Rattle.std.proofs.Common.{arith, sym, ap, ◌∙◌, ap₂, subst, drop_of_length-le, drop_at, drop-cons, drop-drop}
use Rattle.std.proofs.Common.{leb-true, eqb-true, le-leb, ne_eqb}
use Rattle.std.proofs.lemmas.Bool.{false≢true, eqb-false, not-true}
use Rattle.std.proofs.lemmas.List.{length-map}
use Rattle.word.specs.Lists.{all}
use Rattle.word.specs.ListLaws.{and_left, and_right, and_in}
use Rattle.text_grammar.specs.Spelling.{Token, digits, epsilon, empty, left, right, byte, bytes_of, digit_run, Holds, done, next}
use Rattle.text_grammar.specs.Tokens.{is_digit, run, begins, token_at, more, skip_at, placed, tokens_after}
use Rattle.text_grammar.specs.Tokens.{tokens, proper, is_run, starts_run, apart}

-- what holds of both parts of a choice, each where it is taken
pub on_cond : {A : Type 0} (P : A → Type 0) (b : Bool) (t u : A) → (b ≡ true → P t) → (b ≡ false → P u) → P (cond b t u)
on_cond P true t u f g = f refl
on_cond P false t u f g = g refl

-- the skip counter

pub tokens_after_lem : (k : ℕ) (s : List ℕ) → tokens_after k s ≡ tokens (drop k s)
unfolding tokens_after tokens
tokens_after_lem zero [] = refl
tokens_after_lem (suc k) [] = refl
tokens_after_lem zero (x ∷ s) = refl
tokens_after_lem (suc k) (x ∷ s) = tokens_after_lem k s

pub tokens_nil : tokens [] ≡ []
unfolding tokens_after tokens
tokens_nil = refl

pub tokens_space : (s : List ℕ) → tokens (0x20 ∷ s) ≡ tokens s
unfolding tokens_after tokens
tokens_space s = refl

-- the token at the front of a text
pub tokens_cons : (x : ℕ) (s : List ℕ) → (x ≡ 0x20 → ⊥) → tokens (x ∷ s) ≡ token_at x s ∷ tokens (drop (more (token_at x s)) s)
unfolding tokens_after tokens
tokens_cons x s h = rw (ne_eqb x 0x20 h) (ap (λ (r : List Token). token_at x s ∷ r) (tokens_after_lem (more (token_at x s)) s))

-- a digit begins a run
pub token_digit : (x : ℕ) (s : List ℕ) → is_digit x ≡ true → token_at x s ≡ digits ((x - 0x30) ∷ run s)
unfolding token_at
token_digit x s h = rw h refl

-- every text is its tokens

-- the value of a digit is at most 9, and gives the byte back
pub digit_value : (x : ℕ) → is_digit x ≡ true → (x - 0x30 ≤ 9) × (x ≡ 0x30 + (x - 0x30))
digit_value x h =
    let p : 0x30 ≤ x = leb-true 0x30 x (and_left (leb 0x30 x) (leb x 0x39) h) in
    let q : x ≤ 0x39 = leb-true x 0x39 (and_right (leb 0x30 x) (leb x 0x39) h) in
    omega arith

run_out : (s : List ℕ) → s ≡ map (λ (d : ℕ). 0x30 + d) (run s) ++ drop (length (run s)) s
run_out [] = refl
run_out (x ∷ s) =
    on_cond (λ (r : List ℕ). x ∷ s ≡ map (λ (d : ℕ). 0x30 + d) r ++ drop (length r) (x ∷ s)) (is_digit x) ((x - 0x30) ∷ run s) []
    (λ e. ap₂ ◌∷◌ (digit_value x e).1 (run_out s)) (λ e. refl)

-- a run has digits 0 to 9
pub run_digits : (s : List ℕ) → digit_run (run s) ≡ true
run_digits [] = refl
run_digits (x ∷ s) =
    on_cond (λ (r : List ℕ). digit_run r ≡ true) (is_digit x) ((x - 0x30) ∷ run s) []
    (λ e. and_in (leb (x - 0x30) 9) (digit_run (run s)) (le-leb (x - 0x30) 9 (digit_value x e).0) (run_digits s)) (λ e. refl)

begins_out : (l s : List ℕ) → begins l s ≡ true → s ≡ l ++ drop (length l) s
begins_out [] s h = refl
begins_out (a ∷ l) [] h = absurd (false≢true h)
begins_out (a ∷ l) (x ∷ s) h = ap₂ ◌∷◌ (eqb-true x a (and_left (eqb x a) (begins l s) h))
    (begins_out l s (and_right (eqb x a) (begins l s) h))

-- the bytes of t are the front of the text
abbrev Front : ℕ → List ℕ → Token → Type 0
Front x s t = x ∷ s ≡ bytes_of t ++ drop (more t) s

front_run : (x : ℕ) (s : List ℕ) → is_digit x ≡ true → Front x s (digits ((x - 0x30) ∷ run s))
front_run x s e = rw length-map (ap₂ ◌∷◌ (digit_value x e).1 (run_out s))

front_mark : (x : ℕ) (s : List ℕ) (a : ℕ) (l : List ℕ) → begins (a ∷ l) (x ∷ s) ≡ true → x ∷ s ≡ a ∷ (l ++ drop (length l) s)
front_mark x s a l e = begins_out (a ∷ l) (x ∷ s) e

pub token_bytes : (x : ℕ) (s : List ℕ) → x ∷ s ≡ bytes_of (token_at x s) ++ drop (more (token_at x s)) s
unfolding token_at
token_bytes x s =
    on_cond (Front x s) (is_digit x) _ _ (front_run x s)
    (λ _. on_cond (Front x s) (begins (bytes_of epsilon) (x ∷ s)) _ _ (front_mark x s 0xCE (0xB5 ∷ []))
    (λ _. on_cond (Front x s) (begins (bytes_of empty) (x ∷ s)) _ _ (front_mark x s 0xE2 (0x88 ∷ (0x85 ∷ [])))
    (λ _. on_cond (Front x s) (begins (bytes_of left) (x ∷ s)) _ _ (front_mark x s 0xE2 (0x9F ∷ (0xA8 ∷ [])))
    (λ _. on_cond (Front x s) (begins (bytes_of right) (x ∷ s)) _ _ (front_mark x s 0xE2 (0x9F ∷ (0xA9 ∷ []))) (λ _. refl)))))

abbrev Sized : Token → Type 0
Sized t = length (bytes_of t) ≡ suc (more t)

-- a token has at least one byte
pub token_size : (x : ℕ) (s : List ℕ) → length (bytes_of (token_at x s)) ≡ suc (more (token_at x s))
unfolding token_at
token_size x s =
    on_cond Sized (is_digit x) _ _ (λ _. refl)
    (λ _. on_cond Sized (begins (bytes_of epsilon) (x ∷ s)) _ _ (λ _. refl)
    (λ _. on_cond Sized (begins (bytes_of empty) (x ∷ s)) _ _ (λ _. refl)
    (λ _. on_cond Sized (begins (bytes_of left) (x ∷ s)) _ _ (λ _. refl)
    (λ _. on_cond Sized (begins (bytes_of right) (x ∷ s)) _ _ (λ _. refl) (λ _. refl)))))

holds_space : {ts : List Token} {s : List ℕ} → Holds ts s → Holds ts (0x20 ∷ s)
holds_space (done n) = done (suc n)
holds_space (next n t h) = next (suc n) t h

holds_after : (k : ℕ) (s : List ℕ) → Holds (tokens_after k s) (drop k s)
unfolding tokens_after
holds_after zero [] = done zero
holds_after (suc k) [] = done zero
holds_after (suc k) (x ∷ s) = holds_after k s
holds_after zero (x ∷ s) = step (eqb x 0x20) refl (holds_after (skip_at x s) s)
  where
    step : (b : Bool) → eqb x 0x20 ≡ b
        → Holds (tokens_after (cond b 0 (more (token_at x s))) s) (drop (cond b 0 (more (token_at x s))) s)
        → Holds (placed b (token_at x s) (tokens_after (cond b 0 (more (token_at x s))) s)) (x ∷ s)
    step true e h = subst (λ (y : ℕ). Holds (tokens_after 0 s) (y ∷ s)) (sym (eqb-true x 0x20 e)) (holds_space h)
    step false e h =
        subst (λ (l : List ℕ). Holds (token_at x s ∷ tokens_after (more (token_at x s)) s) l) (sym (token_bytes x s))
        (next zero (token_at x s) h)

pub holds_tokens : (s : List ℕ) → Holds (tokens s) s
unfolding tokens
holds_tokens s = holds_after zero s

-- proper tokens are found again

tokens_blank : (n : ℕ) → tokens (replicate n 0x20) ≡ []
tokens_blank zero = tokens_nil
tokens_blank (suc n) = tokens_space (replicate n 0x20) ∙ tokens_blank n

tokens_spaces : (n : ℕ) (s : List ℕ) → tokens (replicate n 0x20 ++ s) ≡ tokens s
tokens_spaces zero s = refl
tokens_spaces (suc n) s = tokens_space (replicate n 0x20 ++ s) ∙ tokens_spaces n s

-- what a proper byte is not
record Plain (b : ℕ) : Type 0 where
  space : eqb b 0x20 ≡ false
  digit : is_digit b ≡ false
  two : eqb b 0xCE ≡ false
  three : eqb b 0xE2 ≡ false

plain : (b : ℕ) → proper (byte b) ≡ true → Plain b
plain b p =
    let q = and_right (not (eqb b 0x20)) _ p in
    let r = and_right (not (is_digit b)) _ q in
    record {
      space = not-true (eqb b 0x20) (and_left (not (eqb b 0x20)) _ p);
      digit = not-true (is_digit b) (and_left (not (is_digit b)) _ q);
      two = not-true (eqb b 0xCE) (and_left (not (eqb b 0xCE)) _ r);
      three = not-true (eqb b 0xE2) (and_right (not (eqb b 0xCE)) _ r);
    }

-- where no run is in front, the text begins with no digit
holds_no_run : {ts : List Token} {s : List ℕ} → Holds ts s → all proper ts ≡ true → starts_run ts ≡ false → run s ≡ []
holds_no_run (done zero) p h = refl
holds_no_run (done (suc n)) p h = refl
holds_no_run (next (suc n) t r) p h = refl
holds_no_run (next zero (digits u) r) p h = absurd (false≢true (sym h))
holds_no_run (next zero epsilon r) p h = refl
holds_no_run (next zero empty r) p h = refl
holds_no_run (next zero left r) p h = refl
holds_no_run (next zero right r) p h = refl
holds_no_run (next zero (byte b) {ts} {s} r) p h = rw (plain b (and_left (proper (byte b)) (all proper ts) p)).digit refl

digit_byte : (d : ℕ) → leb d 9 ≡ true → is_digit (0x30 + d) ≡ true
digit_byte d h =
    let k : d ≤ 9 = leb-true d 9 h in
    and_in (leb 0x30 (0x30 + d)) (leb (0x30 + d) 0x39) (le-leb 0x30 (0x30 + d) (omega arith)) (le-leb (0x30 + d) 0x39 (omega arith))

value_back : (d : ℕ) → 0x30 + d - 0x30 ≡ d
value_back d = omega arith

run_in : (u s : List ℕ) → digit_run u ≡ true → run s ≡ [] → run (map (λ (d : ℕ). 0x30 + d) u ++ s) ≡ u
run_in [] s p h = h
run_in (d ∷ u) s p h =
    rw (digit_byte d (and_left (leb d 9) (digit_run u) p))
    (ap₂ ◌∷◌ (value_back d) (run_in u s (and_right (leb d 9) (digit_run u) p) h))

token_run : (d : ℕ) (u s : List ℕ) → digit_run (d ∷ u) ≡ true → run s ≡ [] →
    token_at (0x30 + d) (map (λ (d : ℕ). 0x30 + d) u ++ s) ≡ digits (d ∷ u)
unfolding token_at
token_run d u s p h =
    rw (digit_byte d (and_left (leb d 9) (digit_run u) p))
    (ap digits (ap₂ ◌∷◌ (value_back d) (run_in u s (and_right (leb d 9) (digit_run u) p) h)))

token_byte : (b : ℕ) (s : List ℕ) → Plain b → token_at b s ≡ byte b
unfolding token_at
token_byte b s p = rw (p.digit, p.two, p.three)

-- where the token at the front is known
front_is : (x : ℕ) (s : List ℕ) (t : Token) → (x ≡ 0x20 → ⊥) → token_at x s ≡ t → tokens (x ∷ s) ≡ t ∷ tokens (drop (more t) s)
front_is x s t h e = tokens_cons x s h ∙ ap (λ (u : Token). u ∷ tokens (drop (more u) s)) e

tokens_front : (t : Token) (s : List ℕ) → proper t ≡ true → (is_run t ≡ true → run s ≡ []) → tokens (bytes_of t ++ s) ≡ t ∷ tokens s
unfolding token_at
tokens_front (digits []) s p h = absurd (false≢true p)
tokens_front (digits (d ∷ u)) s p h =
    front_is (0x30 + d) (map (λ (d : ℕ). 0x30 + d) u ++ s) (digits (d ∷ u)) (λ (e : 0x30 + d ≡ 0x20). omega arith)
    (token_run d u s p (h refl))
    ∙ ap (λ (r : List ℕ). digits (d ∷ u) ∷ tokens r) (drop_at (map (λ (d : ℕ). 0x30 + d) u) s (length (map (λ (d : ℕ). 0x30 + d) u)) refl)
tokens_front epsilon s p h = front_is 0xCE (0xB5 ∷ s) epsilon (λ (e : 0xCE ≡ 0x20). omega arith) refl
tokens_front empty s p h = front_is 0xE2 (0x88 ∷ (0x85 ∷ s)) empty (λ (e : 0xE2 ≡ 0x20). omega arith) refl
tokens_front left s p h = front_is 0xE2 (0x9F ∷ (0xA8 ∷ s)) left (λ (e : 0xE2 ≡ 0x20). omega arith) refl
tokens_front right s p h = front_is 0xE2 (0x9F ∷ (0xA9 ∷ s)) right (λ (e : 0xE2 ≡ 0x20). omega arith) refl
tokens_front (byte b) s p h = front_is b s (byte b) (eqb-false b 0x20 (plain b p).space) (token_byte b s (plain b p))

not_both : (a b : Bool) → not (a && b) ≡ true → a ≡ true → b ≡ false
not_both true b h e = not-true b h
not_both false b h e = absurd (false≢true e)

pub tokens_unique : {ts : List Token} {s : List ℕ} → Holds ts s → all proper ts ≡ true → apart ts ≡ true → tokens s ≡ ts
tokens_unique (done n) p h = tokens_blank n
tokens_unique (next n t {ts} {s} r) p h =
    let q : all proper ts ≡ true = and_right (proper t) (all proper ts) p in
    let k : not (is_run t && starts_run ts) ≡ true = and_left (not (is_run t && starts_run ts)) (apart ts) h in
    tokens_spaces n (bytes_of t ++ s)
    ∙ tokens_front t s (and_left (proper t) (all proper ts) p) (λ e. holds_no_run r q (not_both (is_run t) (starts_run ts) k e))
    ∙ ap (λ (l : List Token). t ∷ l) (tokens_unique r q (and_right (not (is_run t && starts_run ts)) (apart ts) h))

-- at a place of a text: the end, a space, and the token that begins there with its length in bytes

module _ (s : List ℕ) (at : ℕ) where
  pub tokens_end : length s ≤ at → tokens (drop at s) ≡ []
  tokens_end h = rw (drop_of_length-le s {i = at} h) tokens_nil

  pub tokens_past_space : at < length s → get_or s at 0 ≡ 0x20 → tokens (drop at s) ≡ tokens (drop (suc at) s)
  tokens_past_space h e = rw (drop-cons s at 0 h, e) (tokens_space (drop (suc at) s))

  pub tokens_past : at < length s → (get_or s at 0 ≡ 0x20 → ⊥) → (t : Token) → token_at (get_or s at 0) (drop (suc at) s) ≡ t
      → tokens (drop at s) ≡ t ∷ tokens (drop (at + length (bytes_of t)) s)
  tokens_past h n t e =
      let z : length (bytes_of t) ≡ suc (more t) = subst Sized e (token_size (get_or s at 0) (drop (suc at) s)) in
      let k : suc at + more t ≡ at + length (bytes_of t) = omega arith in
      ap tokens (drop-cons s at 0 h) ∙ front_is (get_or s at 0) (drop (suc at) s) t n e
      ∙ ap (λ (l : List ℕ). t ∷ tokens l) (drop-drop (more t) (suc at) s ∙ ap (λ (i : ℕ). drop i s) k)

  -- the digits from a place on
  pub run_end : length s ≤ at → run (drop at s) ≡ []
  run_end h = ap run (drop_of_length-le s {i = at} h)

  pub run_past : at < length s → is_digit (get_or s at 0) ≡ true → run (drop at s) ≡ (get_or s at 0 - 0x30) ∷ run (drop (suc at) s)
  run_past h e = rw (drop-cons s at 0 h, e) refl

  pub run_stops : at < length s → is_digit (get_or s at 0) ≡ false → run (drop at s) ≡ []
  run_stops h e = rw (drop-cons s at 0 h, e) refl

  -- the bytes of a mark from a place on
  pub begins_end : (a : ℕ) (l : List ℕ) → length s ≤ at → begins (a ∷ l) (drop at s) ≡ false
  begins_end a l h = ap (begins (a ∷ l)) (drop_of_length-le s {i = at} h)

  pub begins_past : (a : ℕ) (l : List ℕ) → at < length s → begins (a ∷ l) (drop at s) ≡ eqb (get_or s at 0) a && begins l (drop (suc at) s)
  begins_past a l h = ap (begins (a ∷ l)) (drop-cons s at 0 h)
