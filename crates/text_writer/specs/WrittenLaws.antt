-- Laws of the texts that the writer's parts write: items with commas between them, items in braces,
-- the first numbers of an array.
use Rattle.std.specs.Prelude.{ℕ, zero, suc, ◌+◌, ◌-◌, ◌/◌, ◌%◌, ◌≤◌, ◌<◌, ◌≡◌, refl, List, [], ◌∷◌, ◌++◌, map}
use Rattle.std.specs.Prelude.{◌⊎◌, length, get_or, take, drop, replicate}
use Rattle.std.proofs.Common.{add-one, arith, sym, ap, ◌∙◌, append_assoc, append-nil, inl, inr, drop-cons}
use Rattle.std.proofs.lemmas.Simd.{map-map}
use Rattle.std.proofs.lemmas.List.{take-append-le}
use Rattle.word.specs.Lists.{row}
use Rattle.word.specs.ListLaws.{below_or_not, each_append}
use Rattle.word.specs.Ceilings.{PREFIX}
use Rattle.forms.specs.MemoryLaws.{length_padded}
use Rattle.forms.specs.SchemeMemory.{padded, pattern_in, patterns_in, gap_at, six_of, positions_in, entry_in, scheme_in}
use Rattle.forms.specs.SchemeMemory.{no_pattern, no_entry}
use Rattle.forms.specs.SchemeList.{EntryList, deletes}
use Rattle.forms.specs.declared.memory.Patterns.{Patterns}
use Rattle.forms.specs.declared.memory.Positions.{Positions}
use Rattle.forms.specs.declared.memory.Entry.{Entry}
use Rattle.forms.specs.declared.memory.Scheme.{Scheme}
use Rattle.scheme.specs.TestLaws.{row_next, row_end}
use Rattle.text_grammar.specs.Spelling.{Token, bytes_of, byte, digits, epsilon, empty, left, right, comma}
use Rattle.text_grammar.specs.Spelling.{separated, braced, perm_piece, numeral, vector_pieces, rule_pieces}
use Rattle.text_grammar.specs.Spelling.{entry_pieces}
use Rattle.text_grammar.specs.Spelling.{written_patterns, written_scheme}
use Rattle.text_grammar.specs.GrammarLaws.{numeral_one, numeral_two, numeral_three}
use Rattle.text_page.specs.Page.{Writes, Room}
use Rattle.text_page.specs.PageLaws.{ToCome, step, again, finish, room_next, writes_join}
use Rattle.text_page.specs.Decimal.{decimal}
use Rattle.text_page.proofs.DecimalLaws.{decimal_one, decimal_more}
use Rattle.text_writer.specs.Writable.{PositionsFit, text, next, further, number, pattern_at, vector_at, gap_pieces, entry_at}

-- the first items, by their places

pub take_row : (l : List ℕ) (i n : ℕ) → i + n ≤ length l → take n (drop i l) ≡ map (λ k. get_or l k 0) (row i n)
take_row l i zero h = refl
take_row l i (suc n) h =
    let k : i < length l = omega arith in
    rw (drop-cons l i 0 k) (ap (λ (r : List ℕ). get_or l i 0 ∷ r) (take_row l (suc i) n (omega arith)))

pub padded_row : (n : ℕ) (l : List ℕ) → n ≤ length l → padded n l ≡ map (λ k. get_or l k 0) (row 0 n)
padded_row n l h = take-append-le n l (replicate n 0) h ∙ take_row l 0 n (omega arith)

-- the bytes of the digits at these places
abbrev pub shown : List ℕ → List ℕ → List ℕ
shown l is = map (λ k. 48 + get_or l k 0) is

pub shown_start : (n : ℕ) (l : List ℕ) → n ≤ length l → bytes_of (digits (padded n l)) ≡ shown l (row 0 (n - 0))
shown_start n l h =
    let e : n - 0 ≡ n = omega arith in
    rw (e, padded_row n l h) (map-map (λ (d : ℕ). 48 + d) (λ (k : ℕ). get_or l k 0) (row 0 n))

pub shown_step : (l : List ℕ) (i n : ℕ) → i < n →
    shown l (row i (n - i)) ≡ ((48 + get_or l i 0) ∷ []) ++ shown l (row (i + 1) (n - (i + 1)))
shown_step l i n h = rw (add-one i) (ap (shown l) (row_next n i h))

pub shown_end : (l : List ℕ) (i n : ℕ) → n ≤ i → shown l (row i (n - i)) ≡ []
shown_end l i n h = ap (shown l) (row_end n i h)

-- a permutation: ε, or its digits

pub perm_none : (n : ℕ) (l : List ℕ) → n ≡ 0 → bytes_of (perm_piece (padded n l)) ≡ bytes_of epsilon
perm_none n l e = rw e refl

pub perm_some : (n : ℕ) (l : List ℕ) → n ≤ length l → (n ≡ 0 → ⊥) → bytes_of (perm_piece (padded n l)) ≡ bytes_of (digits (padded n l))
perm_some zero l h k = absurd (k refl)
perm_some (suc n) l h k = rw (padded_row (suc n) l h) refl

-- the bytes of one piece
pub text_one : (t : Token) → text (t ∷ []) ≡ bytes_of t
text_one t = append-nil (bytes_of t)

-- items with a comma before each

further_step : (f : ℕ → List Token) (i n : ℕ) → i < n → further f i (n - i) ≡ next f i ++ further f (i + 1) (n - (i + 1))
unfolding further
further_step f i n h = go (n - i) (n - (i + 1)) (omega arith)
  where
    go : (a b : ℕ) → a ≡ suc b → further f i a ≡ next f i ++ further f (i + 1) b
    go a b e = rw (e, add-one i) refl

further_end : (f : ℕ → List Token) (i n : ℕ) → n ≤ i → further f i (n - i) ≡ []
unfolding further
further_end f i n h = go (n - i) (omega arith)
  where
    go : (a : ℕ) → a ≡ 0 → further f i a ≡ []
    go a e = rw e refl

-- a page on which these items are still to come: room for the next one, its comma and its text
-- written, none left
module _ (f : ℕ → List Token) {total : List ℕ} {at : ℕ} {before : List ℕ} (i n : ℕ) {place : ℕ} {t : List ℕ}
    (c : ToCome total at before (further f i (n - i)) place t) where
  pub further_room : i < n → Room total at → Room (next f i) place
  further_room h r = room_next (next f i) (further f (i + 1) (n - (i + 1))) r c (further_step f i n h)

  pub further_on : i < n → {from after : ℕ} {u v : List ℕ} → Writes (0x2C ∷ []) place t u from → Writes (text (f i)) from u v after →
      ToCome total at before (further f (i + 1) (n - (i + 1))) after v
  further_on h a b = step (again c (further_step f i n h)) (writes_join a b)

  pub further_done : n ≤ i → Writes total at before t place
  further_done h = finish (again c (further_end f i n h))

-- the items from 1 up to a last place
pub further_up_to : (f : ℕ → List Token) (n : ℕ) → further f 1 n ≡ further f 1 (n + 1 - 1)
further_up_to f n =
    let e : n ≡ n + 1 - 1 = omega arith in
    ap (further f 1) e

-- the first item, then a comma and an item for each further one
pub text_separated : (f : ℕ → List Token) (i n : ℕ) → text (separated (map f (row i (suc n)))) ≡ text (f i) ++ further f (suc i) n
unfolding further
text_separated f i zero = sym (append-nil (text (f i)))
text_separated f i (suc n) =
    each_append bytes_of (f i) (comma ∷ separated (map f (row (suc i) (suc n)))) ∙
    ap (λ (r : List ℕ). text (f i) ++ (0x2C ∷ r)) (text_separated f (suc i) n)

-- the same, between an opening and a closing part
pub text_between : (f : ℕ → List Token) (before after : Token) (n : ℕ) → 0 < n →
    text (before ∷ (separated (map f (row 0 n)) ++ (after ∷ []))) ≡
    bytes_of before ++ (text (f 0) ++ (further f 1 (n - 1) ++ bytes_of after))
text_between f before after zero h = absurd (omega arith)
text_between f before after (suc n) h =
    let e : suc n - 1 ≡ n = omega arith in
    ap (λ (r : List ℕ). bytes_of before ++ r)
    (each_append bytes_of (separated (map f (row 0 (suc n)))) (after ∷ []) ∙
    rw (e, text_separated f 0 n, append-nil (bytes_of after), append_assoc (text (f 0)) (further f 1 n) (bytes_of after)) refl)

pub text_braced : (f : ℕ → List Token) (n : ℕ) → 0 < n →
    text (braced (map f (row 0 n))) ≡ (0x7B ∷ []) ++ (text (f 0) ++ (further f 1 (n - 1) ++ (0x7D ∷ [])))
text_braced f zero h = absurd (omega arith)
text_braced f (suc n) h = text_between f (byte 0x7B) (byte 0x7D) (suc n) h

-- numbers between two marks, by the numbers in memory
text_numbers : (before after : Token) (n : ℕ) (l : List ℕ) → 0 < n → n ≤ length l →
    text (before ∷ (separated (map (λ (m : ℕ). digits (numeral m) ∷ []) (padded n l)) ++ (after ∷ []))) ≡
    bytes_of before ++ (text (number l 0) ++ (further (number l) 1 (n - 1) ++ bytes_of after))
text_numbers before after n l h k =
    rw (padded_row n l k, map-map (λ (m : ℕ). digits (numeral m) ∷ []) (λ (j : ℕ). get_or l j 0) (row 0 n))
    (text_between (number l) before after n h)

pub text_vector : (n : ℕ) (l : List ℕ) → 0 < n → n ≤ length l →
    text (vector_pieces (padded n l)) ≡ bytes_of left ++ (text (number l 0) ++ (further (number l) 1 (n - 1) ++ bytes_of right))
text_vector n l h k = text_numbers left right n l h k

pub text_deletes : (d : Positions) (l : List ℕ) (n : ℕ) → l ≡ six_of d → n ≡ d.count → PositionsFit d →
    text (rule_pieces (deletes (positions_in d))) ≡
    (0x7B ∷ []) ++ (text (number l 0) ++ (further (number l) 1 (n - 1) ++ (0x7D ∷ [])))
text_deletes d l n e f h =
    let some = h.some in
    let few = h.few in
    rw (e, f) (text_numbers (byte 0x7B) (byte 0x7D) d.count (six_of d) (omega arith)
    (omega (arith, length_padded PREFIX d.positions)))

-- a number of up to three digits: its bytes are those of the number in base ten
pub numeral_decimal : (n : ℕ) → n ≤ 999 → bytes_of (digits (numeral n)) ≡ decimal n
numeral_decimal n h = go (below_or_not n 10) (below_or_not n 100)
  where
    more : {l : List ℕ} (m : ℕ) → 10 ≤ m → decimal (m / 10) ≡ l → decimal m ≡ l ++ ((48 + m % 10) ∷ [])
    more m k e = decimal_more m k ∙ ap (λ (l : List ℕ). l ++ ((48 + m % 10) ∷ [])) e

    bytes : {u : List ℕ} → numeral n ≡ u → bytes_of (digits (numeral n)) ≡ map (λ d. 48 + d) u
    bytes e = ap (λ (u : List ℕ). bytes_of (digits u)) e

    go : (n < 10) ⊎ (10 ≤ n) → (n < 100) ⊎ (100 ≤ n) → bytes_of (digits (numeral n)) ≡ decimal n
    go (inl p) q = bytes (numeral_one n p) ∙ sym (decimal_one n p)
    go (inr p) (inl q) = bytes (numeral_two n p q) ∙ sym (more n p (decimal_one (n / 10) (omega arith)))
    go (inr p) (inr q) =
        let hundred : n / 10 / 10 ≡ n / 100 = omega arith in
        let first = decimal_one (n / 10 / 10) (omega arith) ∙ ap (λ (m : ℕ). (48 + m) ∷ []) hundred in
        bytes (numeral_three n q) ∙ sym (more n p (more (n / 10) (omega arith) first))

-- a set of patterns, by the patterns in memory

pub patterns_map : (s : Patterns) → written_patterns (patterns_in s) ≡ text (braced (map (pattern_at s.items) (row 0 s.count)))
patterns_map s =
    ap (λ (l : List (List Token)). text (braced l))
    (map-map (λ (p : List ℕ). perm_piece p ∷ []) (λ (i : ℕ). pattern_in (get_or s.items i no_pattern)) (row 0 s.count))

pub text_patterns : (s : Patterns) → (s.count ≡ 0 → ⊥) →
    written_patterns (patterns_in s) ≡ (0x7B ∷ []) ++ (text
    (pattern_at s.items 0) ++ (further (pattern_at s.items) 1 (s.count - 1) ++ (0x7D ∷ [])))
text_patterns s h = patterns_map s ∙ text_braced (pattern_at s.items) s.count (omega arith)

pub text_no_patterns : (s : Patterns) → s.count ≡ 0 → written_patterns (patterns_in s) ≡ bytes_of empty
text_no_patterns s e = patterns_map s ∙ rw e refl

-- the gap vectors of an entry

pub gaps_map : (e : Entry) → text (gap_pieces e) ≡ text (braced (map (vector_at e) (row 0 e.gap_count)))
gaps_map e =
    ap (λ (l : List (List Token)). text (braced l))
    (map-map vector_pieces (gap_at e) (row 0 e.gap_count))

pub text_gaps : (e : Entry) → (e.gap_count ≡ 0 → ⊥) →
    text (gap_pieces e) ≡ (0x7B ∷ []) ++ (text (vector_at e 0) ++ (further (vector_at e) 1 (e.gap_count - 1) ++ (0x7D ∷ [])))
text_gaps e h = gaps_map e ∙ text_braced (vector_at e) e.gap_count (omega arith)

pub text_no_gaps : (e : Entry) → e.gap_count ≡ 0 → text (gap_pieces e) ≡ bytes_of empty
text_no_gaps e z = gaps_map e ∙ rw z refl

-- an entry

pub text_entry : (e : EntryList) →
    text (entry_pieces e) ≡
    (0x28 ∷ []) ++ (bytes_of (perm_piece e.prefix) ++ ((0x2C ∷ []) ++ (text (braced (map vector_pieces e.gaps)) ++
    ((0x2C ∷ []) ++ (text (rule_pieces e.rule) ++ (0x29 ∷ []))))))
text_entry e =
    ap (λ (r : List ℕ). 0x28 ∷ (bytes_of (perm_piece e.prefix) ++ (0x2C ∷ r)))
    (each_append bytes_of (braced (map vector_pieces e.gaps)) (comma ∷ (rule_pieces e.rule ++ (byte 0x29 ∷ []))) ∙
    ap (λ (r : List ℕ). text (braced (map vector_pieces e.gaps)) ++ (0x2C ∷ r))
    (each_append bytes_of (rule_pieces e.rule) (byte 0x29 ∷ [])))

-- a scheme, by the entries in memory

pub scheme_map : (s : Scheme) → written_scheme (scheme_in s) ≡ text (braced (map (entry_at s.entries) (row 0 s.count)))
scheme_map s =
    ap (λ (l : List (List Token)). text (braced l))
    (map-map entry_pieces (λ (i : ℕ). entry_in (get_or s.entries i no_entry)) (row 0 s.count))

pub text_scheme : (s : Scheme) → (s.count ≡ 0 → ⊥) →
    written_scheme (scheme_in s) ≡ (0x7B ∷ []) ++ (text
    (entry_at s.entries 0) ++ (further (entry_at s.entries) 1 (s.count - 1) ++ (0x7D ∷ [])))
text_scheme s h = scheme_map s ∙ text_braced (entry_at s.entries) s.count (omega arith)

pub text_no_entries : (s : Scheme) → s.count ≡ 0 → written_scheme (scheme_in s) ≡ bytes_of empty
text_no_entries s e = scheme_map s ∙ rw e refl
