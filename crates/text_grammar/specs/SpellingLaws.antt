-- Reading a text is sound and complete for spelling, and writing and reading undo each other.
use Rattle.std.specs.Prelude.{ℕ, zero, suc, ◌+◌, ◌/◌, ◌%◌, ◌≤◌, ◌<◌, ◌≡◌, refl, ◌⊎◌, Bool, true, false, not, cond, ◌&&◌, List, []}
use Rattle.std.specs.Prelude.{◌∷◌, ◌++◌, map, length, replicate, leb, eqb}
use Rattle.std.proofs.Common.{arith, sym, ap, ◌∙◌, ap₂, subst, inl, inr, leb-true, le-leb, ne_eqb}
use Rattle.std.proofs.Math.Option.{some}
use Rattle.word.specs.Lists.{all, each}
use Rattle.word.specs.ListLaws.{and_left, and_right, and_in, below_or_not}
use Rattle.forms.specs.SchemeList.{Does, expands, deletes, EntryList}
use Rattle.text_grammar.specs.Spelling.{Token, digits, epsilon, empty, left, right, byte, bytes_of, Holds, done, next}
use Rattle.text_grammar.specs.Spelling.{comma, separated, braced, perm_piece, pattern_pieces, numeral}
use Rattle.text_grammar.specs.Spelling.{vector_pieces, rule_pieces, entry_pieces, scheme_pieces}
use Rattle.text_grammar.specs.Spelling.{digit_run, writable_vector, writable_rule, writable_entry, SpellsPatterns, SpellsScheme}
use Rattle.text_grammar.specs.Spelling.{written_patterns, written_scheme, spaceless}
use Rattle.text_grammar.specs.Tokens.{tokens, proper, is_run, apart}
use Rattle.text_grammar.specs.TokenLaws.{holds_tokens, tokens_unique}
use Rattle.text_grammar.specs.Grammar.{read_patterns, read_entries}
use Rattle.text_grammar.specs.GrammarLaws.{numeral_one, numeral_two, numeral_three, patterns_read, entries_read}

-- tokens that are found again in a text
pub record Clear (ts : List Token) : Type 0 where
  pub fit : all proper ts ≡ true
  pub kept : apart ts ≡ true

clear_nil : Clear []
clear_nil = record { fit = refl; kept = refl }

not_with : (a b : Bool) → b ≡ false → not (a && b) ≡ true
not_with true b h = ap not h
not_with false b h = refl

clear_one : (t : Token) → proper t ≡ true → Clear (t ∷ [])
clear_one t h = record {
  fit = and_in (proper t) true h refl;
  kept = and_in (not (is_run t && false)) true
      (not_with (is_run t) false refl) refl;
}

-- a mark in front
clear_mark : (t : Token) (ts : List Token) → is_run t ≡ false → proper t ≡ true → Clear ts → Clear (t ∷ ts)
clear_mark t ts n h c = record { fit = and_in (proper t) (all proper ts) h c.fit; kept = rw n c.kept }

-- a mark between
clear_join : (l : List Token) (t : Token) (ts : List Token) → is_run t ≡ false → proper t ≡ true → Clear l → Clear ts →
    Clear (l ++ (t ∷ ts))
clear_join [] t ts n h c d = clear_mark t ts n h d
clear_join (u ∷ []) t ts n h c d =
    let k : Clear (t ∷ ts) = clear_mark t ts n h d in
    record {
      fit = and_in (proper u) (all proper (t ∷ ts)) (and_left (proper u) true c.fit) k.fit;
      kept = and_in (not (is_run u && is_run t)) (apart (t ∷ ts)) (not_with (is_run u) (is_run t) n) k.kept;
    }
clear_join (u ∷ (v ∷ l)) t ts n h c d =
    let k : Clear (v ∷ (l ++ (t ∷ ts))) = clear_join (v ∷ l) t ts n h (record {
      fit = and_right (proper u) (all proper (v ∷ l)) c.fit;
      kept = and_right (not (is_run u && is_run v)) (apart (v ∷ l)) c.kept;
    }) d in
    record {
      fit = and_in (proper u) (all proper (v ∷ (l ++ (t ∷ ts)))) (and_left (proper u) (all proper (v ∷ l)) c.fit) k.fit;
      kept = and_in (not (is_run u && is_run v)) (apart (v ∷ (l ++ (t ∷ ts))))
          (and_left (not (is_run u && is_run v)) (apart (v ∷ l)) c.kept) k.kept;
    }

module _ {A : Type 0} (pieces : A → List Token) (fine : A → Bool) (h : (x : A) → fine x ≡ true → Clear (pieces x)) where
  clear_separated : (l : List A) → all fine l ≡ true → Clear (separated (map pieces l))
  clear_separated [] p = clear_nil
  clear_separated (x ∷ []) p = h x (and_left (fine x) true p)
  clear_separated (x ∷ (y ∷ l)) p =
      clear_join (pieces x) comma _ refl refl (h x (and_left (fine x) (all fine (y ∷ l)) p))
      (clear_separated (y ∷ l) (and_right (fine x) (all fine (y ∷ l)) p))

  clear_braced : (l : List A) → all fine l ≡ true → Clear (braced (map pieces l))
  clear_braced [] p = clear_one empty refl
  clear_braced (x ∷ l) p =
      clear_mark (byte 0x7B) _ refl refl (clear_join (separated (map pieces (x ∷ l))) (byte 0x7D) [] refl refl
      (clear_separated (x ∷ l) p) clear_nil)

clear_perm : (p : List ℕ) → digit_run p ≡ true → Clear (perm_piece p ∷ [])
clear_perm [] h = clear_one epsilon refl
clear_perm (d ∷ u) h = clear_one (digits (d ∷ u)) h

clear_number : (n : ℕ) → leb n 999 ≡ true → Clear (digits (numeral n) ∷ [])
clear_number n h = clear_one (digits (numeral n)) (go (leb-true n 999 h) (below_or_not n 10) (below_or_not n 100))
  where
    go : n ≤ 999 → (n < 10) ⊎ (10 ≤ n) → (n < 100) ⊎ (100 ≤ n) → proper (digits (numeral n)) ≡ true
    go m (inl p) q = let i : n ≤ 9 = omega arith in rw (numeral_one n p, le-leb n 9 i) refl
    go m (inr p) (inl q) =
        let i : n / 10 ≤ 9 = omega arith in
        let j : n % 10 ≤ 9 = omega arith in
        rw (numeral_two n p q, le-leb (n / 10) 9 i, le-leb (n % 10) 9 j) refl
    go m (inr p) (inr q) =
        let i : n / 100 ≤ 9 = omega arith in
        let j : n / 10 % 10 ≤ 9 = omega arith in
        let k : n % 10 ≤ 9 = omega arith in
        rw (numeral_three n q, le-leb (n / 100) 9 i, le-leb (n / 10 % 10) 9 j, le-leb (n % 10) 9 k) refl

-- numbers with commas between them and a mark after them
clear_numbers : (close : Token) (b : List ℕ) → is_run close ≡ false → proper close ≡ true → writable_vector b ≡ true
    → Clear (separated (map (λ n. digits (numeral n) ∷ []) b) ++ (close ∷ []))
clear_numbers close b mark fit h =
    clear_join (separated (map (λ n. digits (numeral n) ∷ []) b)) close [] mark fit
    (clear_separated (λ n. digits (numeral n) ∷ []) (λ n. leb n 999) clear_number b
    (and_right (not (eqb (length b) 0)) (all (λ n. leb n 999) b) h)) clear_nil

clear_vector : (b : List ℕ) → writable_vector b ≡ true → Clear (vector_pieces b)
clear_vector b h = clear_mark left _ refl refl (clear_numbers right b refl refl h)

clear_rule : (m : Does) → writable_rule m ≡ true → Clear (rule_pieces m)
clear_rule expands h = clear_one empty refl
clear_rule (deletes R) h = clear_mark (byte 0x7B) _ refl refl (clear_numbers (byte 0x7D) R refl refl h)

clear_entry : (e : EntryList) → writable_entry e ≡ true → Clear (entry_pieces e)
clear_entry e h =
    let k = and_right (digit_run e.prefix) (all writable_vector e.gaps && writable_rule e.rule) h in
    clear_mark (byte 0x28) _ refl refl
    (clear_join (perm_piece e.prefix ∷ []) comma _ refl refl
    (clear_perm e.prefix (and_left (digit_run e.prefix) (all writable_vector e.gaps && writable_rule e.rule) h))
    (clear_join (braced (map vector_pieces e.gaps)) comma _ refl refl
    (clear_braced vector_pieces writable_vector clear_vector e.gaps (and_left (all writable_vector e.gaps) (writable_rule e.rule) k))
    (clear_join (rule_pieces e.rule) (byte 0x29) [] refl refl
    (clear_rule e.rule (and_right (all writable_vector e.gaps) (writable_rule e.rule) k)) clear_nil)))

pub clear_patterns : (P : List (List ℕ)) → all digit_run P ≡ true → Clear (pattern_pieces P)
clear_patterns P h = clear_braced (λ p. perm_piece p ∷ []) digit_run clear_perm P h

pub clear_scheme : (E : List EntryList) → all writable_entry E ≡ true → Clear (scheme_pieces E)
clear_scheme E h = clear_braced entry_pieces writable_entry clear_entry E h

-- texts and what they spell

pub patterns_sound : (s : List ℕ) (P : List (List ℕ)) → read_patterns (tokens s) ≡ some P → SpellsPatterns s P
patterns_sound s P e =
    let h = (patterns_read (tokens s) P).0 e in
    (subst (λ (ts : List Token). Holds ts s) h.0 (holds_tokens s), h.1)

pub patterns_complete : (s : List ℕ) (P : List (List ℕ)) → SpellsPatterns s P → read_patterns (tokens s) ≡ some P
patterns_complete s P h =
    let c : Clear (pattern_pieces P) = clear_patterns P h.1 in
    (patterns_read (tokens s) P).1 (tokens_unique h.0 c.fit c.kept, h.1)

pub scheme_sound : (s : List ℕ) (E : List EntryList) → read_entries (tokens s) ≡ some E → SpellsScheme s E
scheme_sound s E e =
    let h = (entries_read (tokens s) E).0 e in
    (subst (λ (ts : List Token). Holds ts s) h.0 (holds_tokens s), h.1)

pub scheme_complete : (s : List ℕ) (E : List EntryList) → SpellsScheme s E → read_entries (tokens s) ≡ some E
scheme_complete s E h =
    let c : Clear (scheme_pieces E) = clear_scheme E h.1 in
    (entries_read (tokens s) E).1 (tokens_unique h.0 c.fit c.kept, h.1)

-- a text spells at most one list
pub patterns_unique : (s : List ℕ) (P Q : List (List ℕ)) → SpellsPatterns s P → SpellsPatterns s Q → P ≡ Q
patterns_unique s P Q h k = cc (patterns_complete s P h, patterns_complete s Q k)

pub scheme_unique : (s : List ℕ) (E F : List EntryList) → SpellsScheme s E → SpellsScheme s F → E ≡ F
scheme_unique s E F h k = cc (scheme_complete s E h, scheme_complete s F k)

-- what is written spells the list

holds_written : (ts : List Token) → Holds ts (each bytes_of ts)
holds_written [] = done zero
holds_written (t ∷ ts) = next zero t (holds_written ts)

pub patterns_written_spells : (P : List (List ℕ)) → all digit_run P ≡ true → SpellsPatterns (written_patterns P) P
patterns_written_spells P h = (holds_written (pattern_pieces P), h)

pub scheme_written_spells : (E : List EntryList) → all writable_entry E ≡ true → SpellsScheme (written_scheme E) E
scheme_written_spells E h = (holds_written (scheme_pieces E), h)

-- reading what was written gives the list
pub patterns_read_written : (P : List (List ℕ)) → all digit_run P ≡ true → read_patterns (tokens (written_patterns P)) ≡ some P
patterns_read_written P h = patterns_complete (written_patterns P) P (patterns_written_spells P h)

pub scheme_read_written : (E : List EntryList) → all writable_entry E ≡ true → read_entries (tokens (written_scheme E)) ≡ some E
scheme_read_written E h = scheme_complete (written_scheme E) E (scheme_written_spells E h)

-- writing what was read gives the text without its spaces

spaceless_append : (a b : List ℕ) → spaceless (a ++ b) ≡ spaceless a ++ spaceless b
spaceless_append [] b = refl
spaceless_append (x ∷ a) b = step (not (eqb x 0x20)) (spaceless_append a b)
  where
    step : (k : Bool) → spaceless (a ++ b) ≡ spaceless a ++ spaceless b
        → cond k (x ∷ spaceless (a ++ b)) (spaceless (a ++ b)) ≡ cond k (x ∷ spaceless a) (spaceless a) ++ spaceless b
    step true e = ap (λ (l : List ℕ). x ∷ l) e
    step false e = e

spaceless_spaces : (n : ℕ) (s : List ℕ) → spaceless (replicate n 0x20 ++ s) ≡ spaceless s
spaceless_spaces zero s = refl
spaceless_spaces (suc n) s = spaceless_spaces n s

spaceless_blank : (n : ℕ) → spaceless (replicate n 0x20) ≡ []
spaceless_blank zero = refl
spaceless_blank (suc n) = spaceless_blank n

spaceless_digits : (u : List ℕ) → spaceless (map (λ (d : ℕ). 0x30 + d) u) ≡ map (λ (d : ℕ). 0x30 + d) u
spaceless_digits [] = refl
spaceless_digits (d ∷ u) =
    rw (ne_eqb (0x30 + d) 0x20 (λ (e : 0x30 + d ≡ 0x20). omega arith)) (ap (λ (l : List ℕ). (0x30 + d) ∷ l) (spaceless_digits u))

spaceless_token : (t : Token) → proper t ≡ true → spaceless (bytes_of t) ≡ bytes_of t
spaceless_token (digits u) h = spaceless_digits u
spaceless_token epsilon h = refl
spaceless_token empty h = refl
spaceless_token left h = refl
spaceless_token right h = refl
spaceless_token (byte b) h = rw (and_left (not (eqb b 0x20)) _ h) refl

pub spaceless_holds : {ts : List Token} {s : List ℕ} → Holds ts s → all proper ts ≡ true → each bytes_of ts ≡ spaceless s
spaceless_holds (done n) h = sym (spaceless_blank n)
spaceless_holds (next n t {ts} {s} r) h =
    ap₂ ◌++◌ (sym (spaceless_token t (and_left (proper t) (all proper ts) h))) (spaceless_holds r (and_right (proper t) (all proper ts) h))
    ∙ sym (spaceless_append (bytes_of t) s) ∙ sym (spaceless_spaces n (bytes_of t ++ s))

pub patterns_written_read : (s : List ℕ) (P : List (List ℕ)) → SpellsPatterns s P → written_patterns P ≡ spaceless s
patterns_written_read s P h = spaceless_holds h.0 (clear_patterns P h.1).fit

pub scheme_written_read : (s : List ℕ) (E : List EntryList) → SpellsScheme s E → written_scheme E ≡ spaceless s
scheme_written_read s E h = spaceless_holds h.0 (clear_scheme E h.1).fit

-- "Schemes with single positions keep their texts" (02, order 4): a set of one position is written
-- as document 01 writes the position, `{1}`
pub single_text : (r : ℕ) → rule_pieces (deletes (r ∷ [])) ≡ byte 0x7B ∷ (digits (numeral r) ∷ (byte 0x7D ∷ []))
single_text r = refl
