-- Crude bounds on the lengths of texts: that the writer's places are numbers that fit.
use Rattle.std.specs.Prelude.{ℕ, ◌+◌, ◌*◌, ◌/◌, ◌%◌, ◌≤◌, ◌<◌, ◌≡◌, refl, Bool, true, false, cond, length, get_or, replicate, ltb}
use Rattle.std.proofs.Common.{suc-mul, arith, sym, ap, subst, ◌∙◌, length-append, length-take}
use Rattle.std.proofs.Math.Nat.{min-le_left}
use mathlib.Core.List.{List, [], ◌∷◌, ◌++◌, map, Memᴰ}
use Rattle.std.proofs.lemmas.List.{length-map}
use Rattle.word.specs.Ceilings.{PREFIX, COMPONENTS, GAPS}
use Rattle.word.specs.Lists.{row}
use Rattle.word.specs.ListLaws.{each_append, length_row, row_out}
use Rattle.forms.specs.SchemeMemory.{padded, pattern_in, patterns_in, gap_in, six_of, positions_in, does_of, entry_in, scheme_in}
use Rattle.forms.specs.SchemeMemory.{no_pattern, no_entry}
use Rattle.forms.specs.GapForm.{entry_gap}
use Rattle.forms.specs.declared.memory.Patterns.{Patterns}
use Rattle.forms.specs.declared.memory.Rule.{Rule}
use Rattle.forms.specs.declared.memory.Rule.TheVariants.{Expand, Delete}
use Rattle.forms.specs.declared.memory.Entry.{Entry}
use Rattle.forms.specs.declared.memory.Scheme.{Scheme}
use Rattle.text_grammar.specs.Spelling.{Token, bytes_of, byte, digits, right, comma, separated, braced, perm_piece}
use Rattle.text_grammar.specs.Spelling.{numeral, vector_pieces, rule_pieces}
use Rattle.text_grammar.specs.Spelling.{entry_pieces, written_patterns, written_scheme}
use Rattle.text_page.specs.Page.{Room}
use Rattle.text_writer.specs.Writable.{PatternsFit, RuleFits, EntryFits, SchemeFits, text, pattern_at, vector_at, gap_pieces, entry_at}
use Rattle.text_writer.specs.WrittenLaws.{text_one, text_entry, patterns_map, gaps_map, scheme_map}

pub text_append : (a b : List Token) → length (text (a ++ b)) ≡ length (text a) + length (text b)
text_append a b = ap length (each_append bytes_of a b) ∙ length-append (text a) (text b)

module _ {A : Type 0} (f : A → List Token) (most : ℕ) where
  pub bound_separated : (l : List A) → ((x : A) → Memᴰ x l → length (text (f x)) < most) →
      length (text (separated (map f l))) ≤ length l * most
  bound_separated [] h = omega arith
  bound_separated (x ∷ []) h = let here = h x (Memᴰ.head refl) in omega (arith, suc-mul 0 most)
  bound_separated (x ∷ (y ∷ l)) h =
      let here = h x (Memᴰ.head refl) in
      let later = bound_separated (y ∷ l) (λ (z : A) (m : Memᴰ z (y ∷ l)). h z (Memᴰ.tail m)) in
      omega (arith, text_append (f x) (comma ∷ separated (map f (y ∷ l))), suc-mul (length (y ∷ l)) most)

  pub bound_braced : (l : List A) → ((x : A) → Memᴰ x l → length (text (f x)) < most) →
      length (text (braced (map f l))) ≤ 3 + length l * most
  bound_braced [] h = omega arith
  bound_braced (x ∷ l) h =
      let whole = bound_separated (x ∷ l) h in
      omega (arith, text_append (separated (map f (x ∷ l))) (byte 0x7D ∷ []))

-- items by their places
bound_places : (f : ℕ → List Token) (most n : ℕ) → ((i : ℕ) → i < n → length (text (f i)) < most) →
    length (text (braced (map f (row 0 n)))) ≤ 3 + n * most
bound_places f most n h =
    rw (length_row 0 n) at (bound_braced f most (row 0 n)
    (λ (i : ℕ) (m : Memᴰ i (row 0 n)). h i (let r = row_out 0 n m in omega arith)))

pub bound_perm : (u : List ℕ) → length (bytes_of (perm_piece u)) ≤ length u + 2
bound_perm [] = omega arith
bound_perm (d ∷ u) = omega (arith, length-map u (λ (x : ℕ). 48 + x))

bound_padded : (n : ℕ) (l : List ℕ) → length (padded n l) ≤ n
bound_padded n l = rw (length-take n (l ++ replicate n 0)) (min-le_left n (length (l ++ replicate n 0)))

pub room_patterns : (s : Patterns) (at : ℕ) → PatternsFit s → at ≤ 1000000 → Room (written_patterns (patterns_in s)) at
room_patterns s at h k =
    let few = h.few in
    let whole = bound_places (pattern_at s.items) 11 s.count items in
    record { fits = rw (patterns_map s) (omega arith) }
  where
    items : (i : ℕ) → i < s.count → length (text (pattern_at s.items i)) < 11
    items i p =
        let q = get_or s.items i no_pattern in
        let short = (h.fit i p).short in
        rw (text_one (perm_piece (pattern_in q))) (omega (arith, bound_perm (pattern_in q), bound_padded q.length q.digits))

bound_number : (n : ℕ) → length (bytes_of (digits (numeral n))) ≤ 3
bound_number n = rw (length-map (numeral n) (λ (d : ℕ). 48 + d)) (go (ltb n 10) (ltb n 100))
  where
    go : (a b : Bool) → length (cond a (n ∷ []) (cond b (n / 10 ∷ (n % 10 ∷ [])) (n / 100 ∷ (n / 10 % 10 ∷ (n % 10 ∷ []))))) ≤ 3
    go true b = omega arith
    go false true = omega arith
    go false false = omega arith

-- a component of a vector, as a piece
abbrev pub component : ℕ → List Token
component n = digits (numeral n) ∷ []

-- bytes of a set of positions: four for each, and two braces
abbrev rule_bytes : ℕ
rule_bytes = 4 * PREFIX + 2

bound_numbers : (b : List ℕ) → length (text (separated (map component b))) ≤ length b * 4
bound_numbers b =
    bound_separated component 4 b (λ (n : ℕ) (m : Memᴰ n b). rw (text_one (digits (numeral n)))
    (omega (arith, bound_number n)))

bound_vector : (b : List ℕ) → length (text (vector_pieces b)) ≤ 6 + length b * 4
bound_vector b = omega (arith, bound_numbers b, text_append (separated (map component b)) (right ∷ []))

bound_rule : (r : Rule) → RuleFits r → length (text (rule_pieces (does_of r))) ≤ rule_bytes
bound_rule Expand h = omega arith
bound_rule (Delete d) h =
    let R = positions_in d in
    let few : d.count ≤ PREFIX = (h.fit d refl).few in
    omega (arith, bound_numbers R, bound_padded d.count (six_of d), text_append (separated (map component R)) (byte 0x7D ∷ []))

-- bytes of a vector, of all vectors and of an entry, where a component may have three digits
abbrev vector_bytes : ℕ
vector_bytes = 4 * COMPONENTS + 12

abbrev gaps_bytes : ℕ
gaps_bytes = vector_bytes * GAPS + 3

abbrev entry_bytes : ℕ
entry_bytes = gaps_bytes + rule_bytes + 22

bound_gaps : (e : Entry) → EntryFits e → length (text (gap_pieces e)) ≤ gaps_bytes
bound_gaps e h =
    let few = h.few in
    let whole = bound_places (vector_at e) vector_bytes e.gap_count items in
    rw (gaps_map e) (omega arith)
  where
    items : (i : ℕ) → i < e.gap_count → length (text (vector_at e i)) < vector_bytes
    items i p =
        let g = entry_gap e i in
        let narrow = (h.fit i p).narrow in
        omega (arith, bound_vector (gap_in g), bound_padded g.width g.parts)

bound_entry : (e : Entry) → EntryFits e → length (text (entry_pieces (entry_in e))) < entry_bytes
bound_entry e h =
    let l = entry_in e in
    let short = h.short in
    subst
    (λ (t : List ℕ). length t < entry_bytes)
    (sym (text_entry l))
    (simp length-append
    (omega (arith, bound_perm l.prefix, bound_padded e.length e.prefix, bound_gaps e h, bound_rule e.rule h.rule)))

pub room_scheme : (s : Scheme) (at : ℕ) → SchemeFits s → at ≤ 1000000 → Room (written_scheme (scheme_in s)) at
room_scheme s at h k =
    let few = h.few in
    let whole = bound_places (entry_at s.entries) entry_bytes s.count
    (λ (i : ℕ) (p : i < s.count). bound_entry (get_or s.entries i no_entry) (h.fit i p)) in
    record { fits = rw (scheme_map s) (omega arith) }
