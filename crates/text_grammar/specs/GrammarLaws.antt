-- Reading finds a list in tokens exactly where they are the pieces of the list and it can be
-- written.
use Prim.Native.Nat.{ℕ, zero, suc, ◌+◌, ◌*◌, ◌/◌, ◌%◌, ◌≤◌, ◌<◌}
use Rattle.std.proofs.Common.{arith, ◌∙◌, ap₂, subst, inl, inr, length-append, leb-true, eqb-true, le-leb, eq-eqb, ne_eqb, lt-ltb, le-ltb}
use Rattle.std.specs.Prelude.{◌≡◌, ◌↔◌, ◌⊎◌, Bool, false, not, ◌&&◌, leb, eqb}
use Rattle.std.proofs.Math.Path.{refl, sym, ap}
use Rattle.std.proofs.Math.Bool.{true}
use Rattle.std.proofs.lemmas.Bool.{false≢true}
use mathlib.Core.List.{List, [], ◌∷◌, ◌++◌, map, append_assoc, append-nil}
use Rattle.std.proofs.Math.Option.{Option, none, some}
use Rattle.std.proofs.Math.ListN.{length}
use Rattle.word.specs.Lists.{all}
use Rattle.word.specs.ListLaws.{and_left, and_right, and_in, below_or_not}
use Rattle.forms.specs.SchemeList.{Does, expands, deletes, EntryList}
use Rattle.text_grammar.specs.Spelling.{Token, digits, epsilon, empty, left, right, byte, comma, separated}
use Rattle.text_grammar.specs.Spelling.{braced, perm_piece, pattern_pieces, numeral}
use Rattle.text_grammar.specs.Spelling.{vector_pieces, rule_pieces, entry_pieces, scheme_pieces, digit_run}
use Rattle.text_grammar.specs.Spelling.{writable_vector, writable_rule, writable_entry}
use Rattle.text_grammar.specs.Tokens.{is_run}
use Rattle.text_grammar.specs.TokenLaws.{on_cond}
use Rattle.text_grammar.specs.Grammar.{Read, misspelt, got, after, code, same, fail, pick, expect, either}
use Rattle.text_grammar.specs.Grammar.{follow, items_of, items, in_braces}
use Rattle.text_grammar.specs.Grammar.{read_perm, number_of, given, read_number, read_vector, read_rule}
use Rattle.text_grammar.specs.Grammar.{after_gaps, after_prefix, read_entry, whole}
use Rattle.text_grammar.specs.Grammar.{read_patterns, read_entries}

-- marks

abbrev decode : ℕ → Token
decode zero = digits []
decode (suc zero) = epsilon
decode (suc (suc zero)) = empty
decode (suc (suc (suc zero))) = left
decode (suc (suc (suc (suc zero)))) = right
decode (suc (suc (suc (suc (suc b))))) = byte b

decode_code : (t : Token) → is_run t ≡ false → decode (code t) ≡ t
decode_code (digits u) h = absurd (false≢true (sym h))
decode_code epsilon h = refl
decode_code empty h = refl
decode_code left h = refl
decode_code right h = refl
decode_code (byte b) h = refl

run_code : (t : Token) → code t ≡ 0 → is_run t ≡ true
run_code (digits u) h = refl
run_code epsilon h = absurd (omega arith)
run_code empty h = absurd (omega arith)
run_code left h = absurd (omega arith)
run_code right h = absurd (omega arith)
run_code (byte b) h = absurd (omega arith)

pub same_out : (t u : Token) → is_run t ≡ false → same t u ≡ true → u ≡ t
same_out t (digits w) h e = absurd (false≢true (sym h ∙ run_code t (eqb-true (code t) 0 e)))
same_out t epsilon h e = ap decode (sym (eqb-true (code t) 1 e)) ∙ decode_code t h
same_out t empty h e = ap decode (sym (eqb-true (code t) 2 e)) ∙ decode_code t h
same_out t left h e = ap decode (sym (eqb-true (code t) 3 e)) ∙ decode_code t h
same_out t right h e = ap decode (sym (eqb-true (code t) 4 e)) ∙ decode_code t h
same_out t (byte b) h e = ap decode (sym (eqb-true (code t) (code (byte b)) e)) ∙ decode_code t h

pub same_self : (t : Token) → same t t ≡ true
same_self t = eq-eqb (code t) (code t) refl

-- A reader reads a kind of value: it finds each that can be written in its pieces, and what it
-- finds are the pieces of such a value.

module _ {A : Type 0} where
  abbrev pub Sound : (A → List Token) → (A → Bool) → List Token → Read A → Type 0
  Sound pieces fine ts misspelt = Unit {0}
  Sound pieces fine ts (got x r) = (ts ≡ pieces x ++ r) × (fine x ≡ true)

  pub record Reads (read : List Token → Read A) (pieces : A → List Token) (fine : A → Bool) : Type 0 where
    pub finds : (x : A) (r : List Token) → fine x ≡ true → read (pieces x ++ r) ≡ got x r
    pub sound : (ts : List Token) → Sound pieces fine ts (read ts)

  -- what holds of misspelt, and of what is read after a mark
  pub on_pick : (P : Read A → Type 0) (b : Bool) (f g : List Token → Read A) (r : List Token) →
      (b ≡ true → P (f r)) → (b ≡ false → P (g r)) → P (pick b f g r)
  on_pick P true f g r p q = p refl
  on_pick P false f g r p q = q refl

  pub on_expect : (P : Read A → Type 0) → P misspelt → (t : Token) → is_run t ≡ false → (f : List Token → Read A) (ts : List Token)
      → ((r : List Token) → ts ≡ t ∷ r → P (f r)) → P (expect t f ts)
  on_expect P m t h f [] k = m
  on_expect P m t h f (u ∷ r) k =
      on_pick P (same t u) f fail r (λ e. k r (ap (λ (v : Token). v ∷ r) (same_out t u h e))) (λ _. m)

  pub on_either : (P : Read A → Type 0) → P misspelt → (t u : Token) → is_run t ≡ false → is_run u ≡ false →
      (f g : List Token → Read A) (ts : List Token)
      → ((r : List Token) → ts ≡ t ∷ r → P (f r)) → ((r : List Token) → ts ≡ u ∷ r → P (g r)) → P (either t f u g ts)
  on_either P m t u h i f g [] k l = m
  on_either P m t u h i f g (v ∷ r) k l =
      on_pick P (same t v) f (pick (same u v) g fail) r (λ e. k r (ap (λ (v : Token). v ∷ r) (same_out t v h e)))
      (λ _. on_pick P (same u v) g fail r (λ e. l r (ap (λ (v : Token). v ∷ r) (same_out u v i e))) (λ _. m))

module _ {A B : Type 0} where
  pub on_after : (P : Read B → Type 0) → P misspelt →
      (pieces : A → List Token) (fine : A → Bool) (ts : List Token) (m : Read A) → Sound pieces fine ts m
      → (f : A → List Token → Read B) → ((x : A) (r : List Token) → ts ≡ pieces x ++ r → fine x ≡ true → P (f x r)) → P (after m f)
  on_after P z pieces fine ts misspelt s f k = z
  on_after P z pieces fine ts (got x r) s f k = k x r s.0 s.1

-- lists

nonempty : (n : ℕ) → not (eqb (suc n) 0) ≡ true
nonempty n = ap not (ne_eqb (suc n) 0 (λ (e : suc n ≡ 0). omega arith))

-- a list with an item, of items that can be written
abbrev pub listable : {A : Type 0} → (A → Bool) → List A → Bool
listable fine l = not (eqb (length l) 0) && all fine l

module _ {A : Type 0} (pieces : A → List Token) (close : Token) where
  -- items with commas between them and the mark after them
  abbrev pub listed : List A → List Token
  listed l = separated (map pieces l) ++ (close ∷ [])

  -- one item, and one item more
  listed_one : (x : A) (r : List Token) → listed (x ∷ []) ++ r ≡ pieces x ++ (close ∷ r)
  listed_one x r = append_assoc (pieces x) (close ∷ []) r

  listed_more : (x y : A) (l : List A) (r : List Token) → listed (x ∷ (y ∷ l)) ++ r ≡ pieces x ++ (comma ∷ (listed (y ∷ l) ++ r))
  listed_more x y l r = simp append_assoc

  listed_length : (l : List A) (r : List Token) → length l ≤ length (listed l ++ r)
  listed_length [] r = omega arith
  listed_length (x ∷ []) r = rw (listed_one x r, length-append) (omega arith)
  listed_length (x ∷ (y ∷ l)) r = let k = listed_length (y ∷ l) r in rw (listed_more x y l r, length-append) (omega arith)

module _ {A : Type 0} (read : List Token → Read A) (pieces : A → List Token) (fine : A → Bool) (w : Reads read pieces fine) where
  module _ (close : Token) (mark : is_run close ≡ false) (other : same close comma ≡ false) where
    items_finds : (n : ℕ) (l : List A) (r : List Token) → length l ≤ n → listable fine l ≡ true
        → items_of read close n (listed pieces close l ++ r) ≡ got l r
    unfolding items_of
    items_finds n [] r h p = absurd (false≢true p)
    items_finds zero (x ∷ []) r h p = absurd (omega arith)
    items_finds (suc n) (x ∷ []) r h p =
        let q : fine x && true ≡ true = and_right (not (eqb (suc zero) 0)) (fine x && true) p in
        rw (listed_one pieces close x r, w.finds x (close ∷ r) (and_left (fine x) true q), same_self close) refl
    items_finds zero (x ∷ (y ∷ l)) r h p = absurd (omega arith)
    items_finds (suc n) (x ∷ (y ∷ l)) r h p =
        let q : fine x && all fine (y ∷ l) ≡ true = and_right (not (eqb (length (x ∷ (y ∷ l))) 0)) (fine x && all fine (y ∷ l)) p in
        let ih : items_of read close n (listed pieces close (y ∷ l) ++ r) ≡ got (y ∷ l) r =
        items_finds n (y ∷ l) r (omega arith)
        (and_in (not (eqb (suc (length l)) 0)) (all fine (y ∷ l)) (nonempty (length l)) (and_right (fine x) (all fine (y ∷ l)) q)) in
        rw (listed_more pieces close x y l r, w.finds x _ (and_left (fine x) (all fine (y ∷ l)) q), other, ih) refl

    items_sound : (n : ℕ) (ts : List Token) → Sound (listed pieces close) (listable fine) ts (items_of read close n ts)
    unfolding items_of
    items_sound zero ts = tt
    items_sound (suc n) ts =
        on_after (Sound (listed pieces close) (listable fine) ts) tt pieces fine ts (read ts) (w.sound ts)
        (follow read close (λ q. items_of read close n q)) (λ x r e p. step x r e p (λ q. items_sound n q))
      where
        last : (x : A) (r q : List Token) → ts ≡ pieces x ++ r → fine x ≡ true → r ≡ close ∷ q
            → (ts ≡ listed pieces close (x ∷ []) ++ q) × (listable fine (x ∷ []) ≡ true)
        last x r q e p k = (e ∙ ap (λ (m : List Token). pieces x ++ m) k ∙ sym (listed_one pieces close x q), and_in (fine x) true p refl)

        further : (x : A) (r q : List Token) → ts ≡ pieces x ++ r → fine x ≡ true → r ≡ comma ∷ q
            → (l : List A) (v : List Token) → q ≡ listed pieces close l ++ v → listable fine l ≡ true
            → (ts ≡ listed pieces close (x ∷ l) ++ v) × (listable fine (x ∷ l) ≡ true)
        further x r q e p k [] v f g = absurd (false≢true g)
        further x r q e p k (y ∷ l) v f g = (
          e ∙ ap (λ (m : List Token). pieces x ++ m) (k ∙ ap (λ (m : List Token). comma ∷ m) f) ∙ sym (listed_more pieces close x y l v),
          and_in (not (eqb (suc (suc (length l))) 0)) (fine x && all fine (y ∷ l)) (nonempty (suc (length l)))
              (and_in (fine x) (all fine (y ∷ l)) p (and_right (not (eqb (suc (length l)) 0)) (all fine (y ∷ l)) g)),
        )

        step : (x : A) (r : List Token) → ts ≡ pieces x ++ r → fine x ≡ true
            → ((q : List Token) → Sound (listed pieces close) (listable fine) q (items_of read close n q))
            → Sound (listed pieces close) (listable fine) ts (follow read close (λ q. items_of read close n q) x r)
        step x r e p ih =
            on_either (Sound (listed pieces close) (listable fine) ts) tt close comma mark refl _ _ r
            (λ q k. last x r q e p k)
            (λ q k. on_after (Sound (listed pieces close) (listable fine) ts) tt (listed pieces close) (listable fine) q
            (items_of read close n q) (ih q) (λ l v. got (x ∷ l) v) (λ l v f g. further x r q e p k l v f g))

    pub items_reads : Reads (items read close) (listed pieces close) (listable fine)
    items_reads = record {
      finds = λ l r p. items_finds (length (listed pieces close l ++ r)) l r (listed_length pieces close l r) p;
      sound = λ ts. items_sound (length ts) ts;
    }

    -- the bound on the items is no part of what is read: an item, then the end or a comma and the
    -- items after it
    pick_same : (f g : List Token → Read (List A)) (x : A) (b c : Bool) (q : List Token) → f q ≡ g q
        → pick b (got (x ∷ [])) (pick c (λ v. after (f v) (λ l u. got (x ∷ l) u)) fail) q
        ≡ pick b (got (x ∷ [])) (pick c (λ v. after (g v) (λ l u. got (x ∷ l) u)) fail) q
    pick_same f g x true c q h = refl
    pick_same f g x false true q h = ap (λ (m : Read (List A)). after m (λ l u. got (x ∷ l) u)) h
    pick_same f g x false false q h = refl

    follow_same : (f g : List Token → Read (List A)) (x : A) (r : List Token) → ((q : List Token) → length q < length r → f q ≡ g q)
        → follow read close f x r ≡ follow read close g x r
    follow_same f g x [] h = refl
    follow_same f g x (t ∷ q) h = pick_same f g x (same close t) (same comma t) q (h q (omega arith))

    after_same : (ts : List Token) (m : Read A) → Sound pieces fine ts m → (f g : List Token → Read (List A))
        → ((q : List Token) → length q < length ts → f q ≡ g q) → after m (follow read close f) ≡ after m (follow read close g)
    after_same ts misspelt s f g h = refl
    after_same ts (got x r) s f g h =
        let k : length ts ≡ length (pieces x) + length r = ap length s.0 ∙ length-append (pieces x) r in
        follow_same f g x r (λ (q : List Token) (i : length q < length r). h q (omega arith))

    after_none : (m : Read A) → Sound pieces fine [] m → (f : List Token → Read (List A)) → after m (follow read close f) ≡ misspelt
    after_none misspelt s f = refl
    after_none (got x []) s f = refl
    after_none (got x (t ∷ r)) s f =
        let k : 0 ≡ length (pieces x) + suc (length r) = ap length s.0 ∙ length-append (pieces x) (t ∷ r) in absurd (omega arith)

    bound_free : (n m : ℕ) (ts : List Token) → length ts ≤ n → length ts ≤ m → items_of read close n ts ≡ items_of read close m ts
    unfolding items_of
    bound_free zero zero ts h k = refl
    bound_free zero (suc m) [] h k = sym (after_none (read []) (w.sound []) (λ q. items_of read close m q))
    bound_free zero (suc m) (t ∷ ts) h k = absurd (omega arith)
    bound_free (suc n) zero [] h k = after_none (read []) (w.sound []) (λ q. items_of read close n q)
    bound_free (suc n) zero (t ∷ ts) h k = absurd (omega arith)
    bound_free (suc n) (suc m) ts h k =
        after_same ts (read ts) (w.sound ts) (λ q. items_of read close n q) (λ q. items_of read close m q)
        (λ (q : List Token) (i : length q < length ts). bound_free n m q (omega arith) (omega arith))

    pub items_step : (ts : List Token) → items read close ts ≡ after (read ts) (follow read close (items read close))
    unfolding items_of
    items_step ts =
        bound_free (length ts) (suc (length ts)) ts (omega arith) (omega arith)
        ∙ after_same ts (read ts) (w.sound ts) (λ q. items_of read close (length ts) q) (items read close)
        (λ (q : List Token) (i : length q < length ts). bound_free (length ts) (length q) q (omega arith) (omega arith))

  -- items in braces, or ∅
  braces_sound : (ts r : List Token) (m : Read (List A)) → Sound (listed pieces (byte 0x7D)) (listable fine) r m → ts ≡ byte 0x7B ∷ r
      → Sound (λ l. braced (map pieces l)) (all fine) ts m
  braces_sound ts r misspelt s e = tt
  braces_sound ts r (got [] q) s e = absurd (false≢true s.1)
  braces_sound ts r (got (x ∷ l) q) s e =
      (e ∙ ap (λ (m : List Token). byte 0x7B ∷ m) s.0, and_right (not (eqb (suc (length l)) 0)) (all fine (x ∷ l)) s.1)

  braces_finds : (l : List A) (r : List Token) → all fine l ≡ true → in_braces read (braced (map pieces l) ++ r) ≡ got l r
  braces_finds [] r p = refl
  braces_finds (x ∷ l) r p =
      (items_reads (byte 0x7D) refl refl).finds (x ∷ l) r (and_in (not (eqb (suc (length l)) 0)) (all fine (x ∷ l)) (nonempty (length l)) p)

  pub braces_read : Reads (in_braces read) (λ l. braced (map pieces l)) (all fine)
  braces_read = record {
    finds = braces_finds;
    sound = λ ts. on_either (Sound (λ l. braced (map pieces l)) (all fine) ts) tt empty (byte 0x7B) refl refl
        (got []) (items read (byte 0x7D)) ts
        (λ r e. (e, refl)) (λ r e. braces_sound ts r (items read (byte 0x7D) r) ((items_reads (byte 0x7D) refl refl).sound r) e);
  }

-- permutations

perm_finds : (p : List ℕ) (r : List Token) → digit_run p ≡ true → read_perm (perm_piece p ∷ r) ≡ got p r
perm_finds [] r h = refl
perm_finds (d ∷ u) r h = rw h refl

perm_sound : (ts : List Token) → Sound (λ p. perm_piece p ∷ []) digit_run ts (read_perm ts)
perm_sound [] = tt
perm_sound (epsilon ∷ r) = (refl, refl)
perm_sound (digits [] ∷ r) = tt
perm_sound (digits (d ∷ u) ∷ r) =
    on_cond (Sound (λ p. perm_piece p ∷ []) digit_run (digits (d ∷ u) ∷ r)) (digit_run (d ∷ u)) (got (d ∷ u) r)
    misspelt (λ e. (refl, e)) (λ _. tt)
perm_sound (empty ∷ r) = tt
perm_sound (left ∷ r) = tt
perm_sound (right ∷ r) = tt
perm_sound (byte b ∷ r) = tt

pub perm_read : Reads read_perm (λ p. perm_piece p ∷ []) digit_run
perm_read = record { finds = perm_finds; sound = perm_sound }

-- numbers

pub two_digits : (a b : ℕ) → 1 ≤ a → a ≤ 9 → b ≤ 9 → number_of (a ∷ (b ∷ [])) ≡ some (a * 10 + b)
two_digits a b h k l = rw (le-leb 1 a h, le-leb a 9 k, le-leb b 9 l) refl

pub three_digits : (a b c : ℕ) → 1 ≤ a → a ≤ 9 → b ≤ 9 → c ≤ 9 → number_of (a ∷ (b ∷ (c ∷ []))) ≡ some ((a * 10 + b) * 10 + c)
three_digits a b c h k l m = rw (le-leb 1 a h, le-leb a 9 k, le-leb b 9 l, le-leb c 9 m) refl

-- the digits of a number below 10, below 100, and from 100 on
pub numeral_one : (n : ℕ) → n < 10 → numeral n ≡ n ∷ []
numeral_one n h = rw (lt-ltb n 10 h) refl

pub numeral_two : (n : ℕ) → 10 ≤ n → n < 100 → numeral n ≡ n / 10 ∷ (n % 10 ∷ [])
numeral_two n h k = rw (le-ltb n 10 h, lt-ltb n 100 k) refl

pub numeral_three : (n : ℕ) → 100 ≤ n → numeral n ≡ n / 100 ∷ (n / 10 % 10 ∷ (n % 10 ∷ []))
numeral_three n h = let k : 10 ≤ n = omega arith in rw (le-ltb n 10 k, le-ltb n 100 h) refl

number_finds : (n : ℕ) → leb n 999 ≡ true → number_of (numeral n) ≡ some n
number_finds n h = go (leb-true n 999 h) (below_or_not n 10) (below_or_not n 100)
  where
    go : n ≤ 999 → (n < 10) ⊎ (10 ≤ n) → (n < 100) ⊎ (100 ≤ n) → number_of (numeral n) ≡ some n
    go m (inl p) q = let k : n ≤ 9 = omega arith in rw (numeral_one n p, le-leb n 9 k) refl
    go m (inr p) (inl q) =
        let v : n / 10 * 10 + n % 10 ≡ n = omega arith in
        ap number_of (numeral_two n p q) ∙ two_digits (n / 10) (n % 10) (omega arith) (omega arith) (omega arith) ∙ ap some v
    go m (inr p) (inr q) =
        let v : (n / 100 * 10 + n / 10 % 10) * 10 + n % 10 ≡ n = omega arith in
        ap number_of (numeral_three n q) ∙
        three_digits (n / 100) (n / 10 % 10) (n % 10) (omega arith) (omega arith) (omega arith) (omega arith) ∙
        ap some v

-- what a run is read as has this run for its numeral
abbrev Numbers : List ℕ → Option ℕ → Type 0
Numbers u none = Unit {0}
Numbers u (some n) = (u ≡ numeral n) × (leb n 999 ≡ true)

one_sound : (a : ℕ) → leb a 9 ≡ true → Numbers (a ∷ []) (some a)
one_sound a h =
    let k : a ≤ 9 = leb-true a 9 h in
    (sym (numeral_one a (omega arith)), le-leb a 999 (omega arith))

two_sound : (a b : ℕ) → leb 1 a && digit_run (a ∷ (b ∷ [])) ≡ true → Numbers (a ∷ (b ∷ [])) (some (a * 10 + b))
two_sound a b h =
    let r = and_right (leb 1 a) (digit_run (a ∷ (b ∷ []))) h in
    let i : 1 ≤ a = leb-true 1 a (and_left (leb 1 a) (digit_run (a ∷ (b ∷ []))) h) in
    let j : a ≤ 9 = leb-true a 9 (and_left (leb a 9) (digit_run (b ∷ [])) r) in
    let k : b ≤ 9 = leb-true b 9 (and_left (leb b 9) true (and_right (leb a 9) (digit_run (b ∷ [])) r)) in
    let p : a ≡ (a * 10 + b) / 10 = omega arith in
    let q : b ≡ (a * 10 + b) % 10 = omega arith in (
      ap₂ (λ (x y : ℕ). x ∷ (y ∷ [])) p q ∙ sym (numeral_two (a * 10 + b) (omega arith) (omega arith)),
      le-leb (a * 10 + b) 999 (omega arith),
    )

three_sound : (a b c : ℕ) → leb 1 a && digit_run (a ∷ (b ∷ (c ∷ []))) ≡ true → Numbers (a ∷ (b ∷ (c ∷ []))) (some ((a * 10 + b) * 10 + c))
three_sound a b c h =
    let r = and_right (leb 1 a) (digit_run (a ∷ (b ∷ (c ∷ [])))) h in
    let s = and_right (leb a 9) (digit_run (b ∷ (c ∷ []))) r in
    let i : 1 ≤ a = leb-true 1 a (and_left (leb 1 a) (digit_run (a ∷ (b ∷ (c ∷ [])))) h) in
    let j : a ≤ 9 = leb-true a 9 (and_left (leb a 9) (digit_run (b ∷ (c ∷ []))) r) in
    let k : b ≤ 9 = leb-true b 9 (and_left (leb b 9) (digit_run (c ∷ [])) s) in
    let l : c ≤ 9 = leb-true c 9 (and_left (leb c 9) true (and_right (leb b 9) (digit_run (c ∷ [])) s)) in
    let p : a ≡ ((a * 10 + b) * 10 + c) / 100 = omega arith in
    let q : b ≡ ((a * 10 + b) * 10 + c) / 10 % 10 = omega arith in
    let v : c ≡ ((a * 10 + b) * 10 + c) % 10 = omega arith in (
      ap₂ (λ (x y : ℕ). x ∷ (y ∷ (c ∷ []))) p q ∙
          ap (λ (z : ℕ). ((a * 10 + b) * 10 + c) / 100 ∷ (((a * 10 + b) * 10 + c) / 10 % 10 ∷ (z ∷ []))) v
          ∙ sym (numeral_three ((a * 10 + b) * 10 + c) (omega arith)),
      le-leb ((a * 10 + b) * 10 + c) 999 (omega arith),
    )

run_sound : (u : List ℕ) → Numbers u (number_of u)
run_sound [] = tt
run_sound (a ∷ []) = on_cond (Numbers (a ∷ [])) (leb a 9) (some a) none (one_sound a) (λ _. tt)
run_sound (a ∷ (b ∷ [])) =
    on_cond (Numbers (a ∷ (b ∷ []))) (leb 1 a && digit_run (a ∷ (b ∷ []))) (some (a * 10 + b)) none (two_sound a b) (λ _. tt)
run_sound (a ∷ (b ∷ (c ∷ []))) =
    on_cond (Numbers (a ∷ (b ∷ (c ∷ [])))) (leb 1 a && digit_run (a ∷ (b ∷ (c ∷ [])))) (some ((a * 10 + b) * 10 + c))
    none (three_sound a b c) (λ _. tt)
run_sound (a ∷ (b ∷ (c ∷ (d ∷ u)))) = tt

abbrev number_pieces : ℕ → List Token
number_pieces n = digits (numeral n) ∷ []

abbrev writable_number : ℕ → Bool
writable_number n = leb n 999

given_sound : (u : List ℕ) (r : List Token) (o : Option ℕ) → Numbers u o → Sound number_pieces writable_number (digits u ∷ r) (given o r)
given_sound u r none h = tt
given_sound u r (some n) h = (ap (λ (v : List ℕ). digits v ∷ r) h.0, h.1)

number_sound : (ts : List Token) → Sound number_pieces writable_number ts (read_number ts)
number_sound [] = tt
number_sound (digits u ∷ r) = given_sound u r (number_of u) (run_sound u)
number_sound (epsilon ∷ r) = tt
number_sound (empty ∷ r) = tt
number_sound (left ∷ r) = tt
number_sound (right ∷ r) = tt
number_sound (byte b ∷ r) = tt

pub number_read : Reads read_number (λ n. digits (numeral n) ∷ []) (λ n. leb n 999)
number_read = record { finds = λ n r h. ap (λ (o : Option ℕ). given o r) (number_finds n h); sound = number_sound }

-- vectors

-- numbers with commas between them, and a mark after them
number_items : (close : Token) → is_run close ≡ false → same close comma ≡ false
    → Reads (items read_number close) (listed number_pieces close) writable_vector
number_items close mark other = items_reads read_number number_pieces writable_number number_read close mark other

vector_sound : (ts r : List Token) (m : Read (List ℕ)) → Sound (listed number_pieces right) writable_vector r m → ts ≡ left ∷ r
    → Sound vector_pieces writable_vector ts m
vector_sound ts r misspelt s e = tt
vector_sound ts r (got b q) s e = (e ∙ ap (λ (m : List Token). left ∷ m) s.0, s.1)

pub vector_read : Reads read_vector vector_pieces writable_vector
vector_read = record {
  finds = λ b r h. (number_items right refl refl).finds b r h;
  sound = λ ts. on_expect (Sound vector_pieces writable_vector ts) tt left refl (items read_number right) ts
      (λ r e. vector_sound ts r (items read_number right r) ((number_items right refl refl).sound r) e);
}

-- rules

rule_finds : (m : Does) (r : List Token) → writable_rule m ≡ true → read_rule (rule_pieces m ++ r) ≡ got m r
rule_finds expands r h = refl
rule_finds (deletes R) r h =
    ap (λ (m : Read (List ℕ)). after m (λ R b. got (deletes R) b)) ((number_items (byte 0x7D) refl refl).finds R r h)

pub rule_read : Reads read_rule rule_pieces writable_rule
rule_read = record {
  finds = rule_finds;
  sound = λ ts. on_either (Sound rule_pieces writable_rule ts) tt empty (byte 0x7B) refl refl (got expands) _ ts (λ r e. (e, refl))
      (λ r e. on_after (Sound rule_pieces writable_rule ts) tt (listed number_pieces (byte 0x7D)) writable_vector r
      (items read_number (byte 0x7D) r) ((number_items (byte 0x7D) refl refl).sound r) _
      (λ R q f g. (e ∙ ap (λ (m : List Token). byte 0x7B ∷ m) f, g)));
}

-- entries

vectors_read : Reads (in_braces read_vector) (λ g. braced (map vector_pieces g)) (all writable_vector)
vectors_read = braces_read read_vector vector_pieces writable_vector vector_read

-- the pieces of an entry, one after the other, and tokens after them
abbrev in_entry : List ℕ → List (List ℕ) → Does → List Token → List Token
in_entry p g m r = byte 0x28 ∷ (perm_piece p ∷ (comma ∷ (braced (map vector_pieces g) ++ (comma ∷ (rule_pieces m ++ (byte 0x29 ∷ r))))))

entry_shape : (e : EntryList) (r : List Token) → entry_pieces e ++ r ≡ in_entry e.prefix e.gaps e.rule r
entry_shape e r = simp append_assoc

entry_finds : (e : EntryList) (r : List Token) → writable_entry e ≡ true → read_entry (entry_pieces e ++ r) ≡ got e r
entry_finds e r h =
    let k = and_right (digit_run e.prefix) (all writable_vector e.gaps && writable_rule e.rule) h in
    ap read_entry (entry_shape e r)
    ∙ parts (and_left (digit_run e.prefix) (all writable_vector e.gaps && writable_rule e.rule) h)
    (and_left (all writable_vector e.gaps) (writable_rule e.rule) k)
    (and_right (all writable_vector e.gaps) (writable_rule e.rule) k)
  where
    parts : digit_run e.prefix ≡ true → all writable_vector e.gaps ≡ true → writable_rule e.rule ≡ true
        → read_entry (in_entry e.prefix e.gaps e.rule r) ≡ got e r
    parts p g m = rw (perm_finds e.prefix _ p, vectors_read.finds e.gaps _ g, rule_finds e.rule _ m) refl

-- the parts that are found one after the other
entry_joined : (p : List ℕ) (g : List (List ℕ)) (m : Does) (ts a b c d f q r : List Token)
    → ts ≡ byte 0x28 ∷ a → a ≡ perm_piece p ∷ b → b ≡ comma ∷ c → c ≡ braced (map vector_pieces g) ++ d → d ≡
    comma ∷ f → f ≡ rule_pieces m ++ q
    → q ≡ byte 0x29 ∷ r → ts ≡ in_entry p g m r
entry_joined p g m ts a b c d f q r e1 e2 e3 e4 e5 e6 e7 = cc

entry_sound : (ts : List Token) → Sound entry_pieces writable_entry ts (read_entry ts)
entry_sound ts =
    on_expect (Sound entry_pieces writable_entry ts) tt (byte 0x28) refl _ ts
    (λ a e1. on_after (Sound entry_pieces writable_entry ts) tt (λ p. perm_piece p ∷ []) digit_run a (read_perm a) (perm_sound a)
    after_prefix
    (λ p b e2 w1. on_expect (Sound entry_pieces writable_entry ts) tt comma refl _ b
    (λ c e3. on_after (Sound entry_pieces writable_entry ts) tt (λ g. braced (map vector_pieces g)) (all writable_vector) c
    (in_braces read_vector c) (vectors_read.sound c) (after_gaps p)
    (λ g d e4 w2. on_expect (Sound entry_pieces writable_entry ts) tt comma refl _ d
    (λ f e5. on_after (Sound entry_pieces writable_entry ts) tt rule_pieces writable_rule f (read_rule f) (rule_read.sound f) _
    (λ m q e6 w3. on_expect (Sound entry_pieces writable_entry ts) tt (byte 0x29) refl _ q
    (λ r e7. (
      entry_joined p g m ts a b c d f q r e1 e2 e3 e4 e5 e6 e7 ∙ sym (entry_shape (record { prefix = p; gaps = g; rule = m }) r),
      and_in (digit_run p) (all writable_vector g && writable_rule m) w1
          (and_in (all writable_vector g) (writable_rule m) w2 w3),
    ))))))))

pub entry_read : Reads read_entry entry_pieces writable_entry
entry_read = record { finds = entry_finds; sound = entry_sound }

-- whole lists of tokens

module _ {A : Type 0} (read : List Token → Read A) (pieces : A → List Token) (fine : A → Bool) (w : Reads read pieces fine) where
  whole_got : (m : Read A) (x : A) → whole m ≡ some x → m ≡ got x []
  whole_got misspelt x e = let z : ◌≡◌ {A = ℕ} 0 1 = cc in absurd (omega arith)
  whole_got (got y []) x e = let k : y ≡ x = cc in ap (λ (z : A). got z []) k
  whole_got (got y (t ∷ r)) x e = let z : ◌≡◌ {A = ℕ} 0 1 = cc in absurd (omega arith)

  whole_read : (ts : List Token) (x : A) → (whole (read ts) ≡ some x) ↔ ((ts ≡ pieces x) × (fine x ≡ true))
  whole_read ts x = (λ e. back (subst (Sound pieces fine ts) (whole_got (read ts) x e) (w.sound ts)), λ h. forth h.0 h.1)
    where
      back : (ts ≡ pieces x ++ []) × (fine x ≡ true) → (ts ≡ pieces x) × (fine x ≡ true)
      back h = (h.0 ∙ append-nil (pieces x), h.1)

      forth : ts ≡ pieces x → fine x ≡ true → whole (read ts) ≡ some x
      forth e p = ap (λ (l : List Token). whole (read l)) (e ∙ sym (append-nil (pieces x))) ∙ ap whole (w.finds x [] p)

pub patterns_read : (ts : List Token) (P : List (List ℕ)) →
    (read_patterns ts ≡ some P) ↔ ((ts ≡ pattern_pieces P) × (all digit_run P ≡ true))
unfolding read_patterns
patterns_read ts P =
    whole_read (in_braces read_perm) pattern_pieces (all digit_run) (braces_read read_perm (λ p. perm_piece p ∷ []) digit_run perm_read)
    ts P

pub entries_read : (ts : List Token) (E : List EntryList) →
    (read_entries ts ≡ some E) ↔ ((ts ≡ scheme_pieces E) × (all writable_entry E ≡ true))
unfolding read_entries
entries_read ts E =
    whole_read (in_braces read_entry) scheme_pieces (all writable_entry) (braces_read read_entry entry_pieces writable_entry entry_read)
    ts E
