-- Laws on items that are read one after the other, for any reader of items: one item more, the
-- first and the last, and the marks around them.
-- Assumes nothing.
use Prim.Native.Nat.{ℕ, suc, ◌-◌, ◌≤◌, ◌<◌}
use native.Mathlib.Omega.{arith}
use mathlib.Core.Path.{◌≡◌, refl, sym, ap, ap₂, ◌∙◌}
use mathlib.Core.Logic.{◌⊎◌, inl, inr}
use mathlib.Core.Bool.{Bool, true, false, cond}
use mathlib.Core.List.{List, [], ◌∷◌, ◌++◌, append-nil, append_assoc}
use lib.ListN.{length, drop}
use lib.Dec.{eqb}
use borrow.Author.Tests.{eqb-true, eqb-false, eq-eqb, ne_eqb}
use Rattle.word.specs.ListLaws.{below_or_not}
use Rattle.text_grammar.specs.declared.cursor.Kind.{Kind}
use Rattle.text_grammar.specs.declared.cursor.Kind.TheVariants.{End, Digits, Epsilon, Empty, Left, Right, Byte}
use Rattle.text_grammar.specs.declared.cursor.Step.{Step}
use Rattle.text_grammar.specs.Spelling.{Token, empty, right, byte, comma}
use Rattle.text_grammar.specs.Tokens.{tokens}
use Rattle.text_grammar.specs.TokenLaws.{tokens_end}
use Rattle.text_grammar.specs.Grammar.{Read, misspelt, got, after, code, same, fail, pick, either, follow, items, in_braces}
use Rattle.text_grammar.specs.Cursor.{Stepped, tokens_by}
use Rattle.text_grammar.specs.ItemReading.{kept, Moved, Turn, More, Done, Wrong, turn_of, turn_in_braces, turn_in_vector, added}
use Rattle.text_grammar.specs.ItemReading.{going, ReadTo}
use Rattle.text_grammar.proofs.CursorLaws.{beyond_le}

-- what is read in all

-- the turn after an item, and what it leads to
pub by_turn : {A : Type 0} → Turn → Read A → Read A → Read A
by_turn More p q = q
by_turn Done p q = p
by_turn Wrong p q = misspelt

pub same_byte : (a b : ℕ) → same (byte a) (byte b) ≡ eqb b a
same_byte a b = step (eqb b a) refl
  where
    step : (c : Bool) → eqb b a ≡ c → same (byte a) (byte b) ≡ c
    step true e = let k : b ≡ a = eqb-true b a e in eq-eqb (code (byte a)) (code (byte b)) (ap (λ (n : ℕ). code (byte n)) (sym k))
    step false e =
        let k : b ≡ a → ⊥ = eqb-false b a e in
        ne_eqb (code (byte a)) (code (byte b)) (λ (h : code (byte a) ≡ code (byte b)). let i : b ≡ a = omega arith in k i)

pub no_empty : (b : ℕ) → same empty (byte b) ≡ false
no_empty b = ne_eqb (code empty) (code (byte b)) (λ (h : code empty ≡ code (byte b)). omega arith)

same_mark : (b : ℕ) → same right (byte b) ≡ false
same_mark b = ne_eqb (code right) (code (byte b)) (λ (h : code right ≡ code (byte b)). omega arith)

module _ {A : Type 0} (f g : List Token → Read A) where
  picked : (b : Bool) (ts : List Token) → pick false f (pick b g fail) ts ≡ by_turn (cond b More Wrong) (f ts) (g ts)
  unfolding by_turn
  picked true ts = refl
  picked false ts = refl

  picked_two : (a b : Bool) (ts : List Token) → pick a f (pick b g fail) ts ≡ by_turn (cond a Done (cond b More Wrong)) (f ts) (g ts)
  unfolding by_turn
  picked_two true b ts = refl
  picked_two false true ts = refl
  picked_two false false ts = refl

  pub vector_turn : (k : Kind) (t : List ℕ) (ts : List Token)
      → either right f comma g (tokens_by k t ts) ≡ by_turn (turn_in_vector k) (f ts) (g ts)
  unfolding by_turn
  vector_turn End t ts = refl
  vector_turn Digits t ts = refl
  vector_turn Epsilon t ts = refl
  vector_turn Empty t ts = refl
  vector_turn Left t ts = refl
  vector_turn Right t ts = refl
  vector_turn (Byte b) t ts =
      ap₂ (λ (x y : Bool). pick x f (pick y g fail) ts) (same_mark b) (same_byte 0x2C b) ∙ picked (eqb b 0x2C) ts

  pub braces_turn : (k : Kind) (t : List ℕ) (ts : List Token)
      → either (byte 0x7D) f comma g (tokens_by k t ts) ≡ by_turn (turn_in_braces k) (f ts) (g ts)
  unfolding by_turn
  braces_turn End t ts = refl
  braces_turn Digits t ts = refl
  braces_turn Epsilon t ts = refl
  braces_turn Empty t ts = refl
  braces_turn Left t ts = refl
  braces_turn Right t ts = refl
  braces_turn (Byte b) t ts =
      ap₂ (λ (x y : Bool). pick x f (pick y g fail) ts) (same_byte 0x7D b) (same_byte 0x2C b) ∙ picked_two (eqb b 0x7D) (eqb b 0x2C) ts

-- neither the closing mark nor a comma

pub turn_other : (k : Kind) → (k ≡ Byte 0x7D → ⊥) → (k ≡ Byte 0x2C → ⊥) → turn_in_braces k ≡ Wrong
turn_other End h g = refl
turn_other Digits h g = refl
turn_other Epsilon h g = refl
turn_other Empty h g = refl
turn_other Left h g = refl
turn_other Right h g = refl
turn_other (Byte b) h g =
    ap₂ turn_of (ne_eqb b 0x7D (λ (e : b ≡ 0x7D). h (ap Byte e))) (ne_eqb b 0x2C (λ (e : b ≡ 0x2C). g (ap Byte e)))

pub turn_vector_other : (k : Kind) → (k ≡ Right → ⊥) → (k ≡ Byte 0x2C → ⊥) → turn_in_vector k ≡ Wrong
turn_vector_other End h g = refl
turn_vector_other Digits h g = refl
turn_vector_other Epsilon h g = refl
turn_vector_other Empty h g = refl
turn_vector_other Left h g = refl
turn_vector_other Right h g = absurd (h refl)
turn_vector_other (Byte b) h g = ap (turn_of false) (ne_eqb b 0x2C (λ (e : b ≡ 0x2C). g (ap Byte e)))

-- one item more, for any reader of items

module _ {A B C : Type 0} (read : List Token → Read A) (close : Token) (load : A → C) (store : B → C → B) where
  kept_more : (m : B) (x : A) (r : Read (List A))
      → kept (added load store m) (after r (λ l w. got (x ∷ l) w)) ≡ kept (added load store (store m (load x))) r
  kept_more m x misspelt = refl
  kept_more m x (got l w) = refl

  kept_turn : (u : Turn) (m : B) (x : A) (ts : List Token)
      → kept (added load store m) (by_turn u (got (x ∷ []) ts) (after (items read close ts) (λ l w. got (x ∷ l) w)))
      ≡ going read close load store u (store m (load x)) ts
  unfolding by_turn
  kept_turn More m x ts = kept_more m x (items read close ts)
  kept_turn Done m x ts = refl
  kept_turn Wrong m x ts = refl

  module _ (turn_of : Kind → Turn)
      (turns : (f g : List Token → Read (List A)) (k : Kind) (t : List ℕ) (ts : List Token)
      → either close f comma g (tokens_by k t ts) ≡ by_turn (turn_of k) (f ts) (g ts))
      (steps : (ts : List Token) → items read close ts ≡ after (read ts) (follow read close (items read close))) where
    one_more : (m : B) (y : C) (ts q : List Token) (k : Kind) (t : List ℕ) (v : List Token)
        → kept load (read ts) ≡ got y q → q ≡ tokens_by k t v
        → going read close load store More m ts ≡ going read close load store (turn_of k) (store m y) v
    one_more m y ts q k t v e f = ap (kept (added load store m)) (steps ts) ∙ go (read ts) e
      where
        rest : A → List Token → Read (List A)
        rest x w = after (items read close w) (λ l u. got (x ∷ l) u)

        go : (r : Read A) → kept load r ≡ got y q
            → kept (added load store m) (after r (follow read close (items read close)))
            ≡ going read close load store (turn_of k) (store m y) v
        go misspelt h = let z : ◌≡◌ {A = ℕ} 0 1 = cc in absurd (omega arith)
        go (got x p) h =
            let a : load x ≡ y = cc in
            let b : p ≡ q = cc in
            ap (λ (w : List Token). kept (added load store m) (follow read close (items read close) x w)) (b ∙ f)
            ∙ ap (kept (added load store m)) (turns (got (x ∷ [])) (λ w. after (items read close w) (λ l u. got (x ∷ l) u)) k t v)
            ∙ kept_turn (turn_of k) m x v
            ∙ ap (λ (c : C). going read close load store (turn_of k) (store m c) v) a

    no_more : (m : B) (ts : List Token) → kept load (read ts) ≡ misspelt → going read close load store More m ts ≡ misspelt
    no_more m ts e = ap (kept (added load store m)) (steps ts) ∙ go (read ts) e
      where
        go : (r : Read A) → kept load r ≡ misspelt → kept (added load store m) (after r (follow read close (items read close))) ≡ misspelt
        go misspelt h = refl
        go (got x p) h = let z : ◌≡◌ {A = ℕ} 0 1 = cc in absurd (omega arith)

    -- the items up to a place, and what comes there
    module _ (s : List ℕ) (whole : Read B) (m : B) (count at : ℕ) (before : ReadTo read close load store whole s m count at) where
      pub items_none : kept load (read (tokens (drop at s))) ≡ misspelt → whole ≡ misspelt
      items_none h = sym before.same ∙ no_more m (tokens (drop at s)) h

      -- an item, and the mark after it
      module _ (y : C) (next : ℕ) (gives : kept load (read (tokens (drop at s))) ≡ got y (tokens (drop next s)))
          (moved : Moved s at next) (σ : Step) (stepped : Stepped s next σ) where
        items_by : (u : Turn) → turn_of σ.kind ≡ u → whole ≡ going read close load store u (store m y) (tokens (drop σ.next.at s))
        items_by u e =
            sym before.same
            ∙ one_more m y (tokens (drop at s)) (tokens (drop next s)) σ.kind (drop σ.from s) (tokens (drop σ.next.at s)) gives
            stepped.gives
            ∙ ap (λ (v : Turn). going read close load store v (store m y) (tokens (drop σ.next.at s))) e

        pub items_more : turn_of σ.kind ≡ More → ReadTo read close load store whole s (store m y) (suc count) σ.next.at
        items_more e =
            let j : next ≤ σ.next.at = beyond_le σ.kind next σ.next.at stepped.beyond in
            let k = moved.onward in
            let l = before.counted in
            record {
              same = sym (items_by More e);
              inside = stepped.inside (moved.inside before.inside);
              counted = omega arith;
            }

        pub items_fall : length s - σ.next.at < length s - at
        items_fall =
            let j : next ≤ σ.next.at = beyond_le σ.kind next σ.next.at stepped.beyond in
            let k = moved.onward in
            let l = moved.inside before.inside in
            omega arith

        pub items_done : turn_of σ.kind ≡ Done → whole ≡ got (store m y) (tokens (drop σ.next.at s))
        items_done e = items_by Done e

        pub items_wrong : turn_of σ.kind ≡ Wrong → whole ≡ misspelt
        items_wrong e = items_by Wrong e

-- from the first item to the last

kept_same : {A B : Type 0} (f h : A → B) → ((x : A) → f x ≡ h x) → (r : Read A) → kept f r ≡ kept h r
kept_same f h e misspelt = refl
kept_same {B = B} f h e (got x ts) = ap (λ (y : B). got y ts) (e x)

-- items stored one after the other are those of the list
module _ {A B C : Type 0} (load : A → C) (store : B → C → B) (whole : List A → B)
    (next : (l : List A) (x : A) → store (whole l) (load x) ≡ whole (l ++ (x ∷ []))) where
  pub added_whole : (l k : List A) → added load store (whole l) k ≡ whole (l ++ k)
  added_whole l [] = ap whole (sym (append-nil l))
  added_whole l (x ∷ k) =
      ap (λ (m : B). added load store m k) (next l x) ∙ added_whole (l ++ (x ∷ [])) k ∙ ap whole (append_assoc l (x ∷ []) k)

  pub from_first : (read : List Token → Read A) (close : Token) (m : B) (ts : List Token) → m ≡ whole []
      → going read close load store More m ts ≡ kept whole (items read close ts)
  from_first read close m ts e =
      ap (λ (n : B). kept (added load store n) (items read close ts)) e
      ∙ kept_same (added load store (whole [])) whole (added_whole []) (items read close ts)

-- the marks around the items

no_list : {A : Type 0} (read : List Token → Read A) (k : Kind) (t : List ℕ) (ts : List Token) → (k ≡ Empty → ⊥) → (k ≡ Byte 0x7B → ⊥)
    → in_braces read (tokens_by k t ts) ≡ misspelt
no_list read End t ts h g = refl
no_list read Digits t ts h g = refl
no_list read Epsilon t ts h g = refl
no_list read Empty t ts h g = absurd (h refl)
no_list read Left t ts h g = refl
no_list read Right t ts h g = refl
no_list read (Byte b) t ts h g =
    ap₂ (λ (c d : Bool). pick c (got []) (pick d (items read (byte 0x7D)) fail) ts) (no_empty b)
    (same_byte 0x7B b ∙ ne_eqb b 0x7B (λ (e : b ≡ 0x7B). g (ap Byte e)))

module _ (s : List ℕ) (at : ℕ) (t : Step) (stepped : Stepped s at t) where
  pub gives_by : (k : Kind) → t.kind ≡ k → tokens (drop at s) ≡ tokens_by k (drop t.from s) (tokens (drop t.next.at s))
  gives_by k e = stepped.gives ∙ ap (λ (j : Kind). tokens_by j (drop t.from s) (tokens (drop t.next.at s))) e

  -- a token ends within the text
  pub within_text : (τ : Token) (ts : List Token) → tokens (drop at s) ≡ τ ∷ ts → t.next.at ≤ length s
  within_text τ ts e = step (below_or_not (length s) at)
    where
      step : (length s < at) ⊎ (at ≤ length s) → t.next.at ≤ length s
      step (inl h) =
          let i : length s ≤ at = omega arith in
          let f : [] ≡ τ ∷ ts = sym (tokens_end s at i) ∙ e in
          let z : ◌≡◌ {A = ℕ} 0 (suc (length ts)) = ap length f in absurd (omega arith)
      step (inr h) = stepped.inside h

  pub brace_within : t.kind ≡ Byte 0x7B → t.next.at ≤ length s
  brace_within h = within_text (byte 0x7B) (tokens (drop t.next.at s)) (gives_by (Byte 0x7B) h)

  module _ {A B : Type 0} (read : List Token → Read A) (load : List A → B) where
    pub braces_empty : t.kind ≡ Empty
        → kept load (in_braces read (tokens (drop at s))) ≡ got (load []) (tokens (drop t.next.at s))
    braces_empty h = ap (λ (ts : List Token). kept load (in_braces read ts)) (gives_by Empty h)

    pub braces_none : (t.kind ≡ Empty → ⊥) → (t.kind ≡ Byte 0x7B → ⊥) → kept load (in_braces read (tokens (drop at s))) ≡ misspelt
    braces_none h k =
        ap (λ (ts : List Token). kept load (in_braces read ts)) stepped.gives
        ∙ ap (kept load) (no_list read t.kind (drop t.from s) (tokens (drop t.next.at s)) h k)

    pub braces_items : t.kind ≡ Byte 0x7B
        → kept load (in_braces read (tokens (drop at s))) ≡ kept load (items read (byte 0x7D) (tokens (drop t.next.at s)))
    braces_items h = ap (λ (ts : List Token). kept load (in_braces read ts)) (gives_by (Byte 0x7B) h)
