-- Laws on the reader of schemes: entries one after the other, each kept in memory, and nothing
-- after the last mark.
-- Assumes nothing.
use Prim.Native.Nat.{ℕ, ◌+◌, ◌-◌, ◌≤◌, ◌<◌}
use native.Mathlib.Omega.{arith}
use mathlib.Core.Path.{◌≡◌, refl, sym, ap, ap₂, ◌∙◌, subst}
use mathlib.Core.Bool.{Bool, true, false, not, false≢true}
use mathlib.Core.List.{List, [], ◌∷◌, ◌++◌}
use mathlib.Core.Option.{Option as Maybe, none, some}
use lib.ListN.{length, drop, take, set, length-drop, length-set}
use lib.Seq.{drop-drop}
use Rattle.std.specs.Prelude.{Some, None}
use Rattle.forms.specs.SchemeList.{EntryList}
use Rattle.forms.specs.declared.memory.Entry.{Entry}
use Rattle.forms.specs.declared.memory.Scheme.{Scheme}
use Rattle.text_grammar.specs.declared.cursor.Cursor.{Cursor}
use Rattle.text_grammar.specs.declared.cursor.Kind.{Kind}
use Rattle.text_grammar.specs.declared.cursor.Kind.TheVariants.{End, Digits, Epsilon, Empty, Left, Right, Byte}
use Rattle.text_grammar.specs.declared.cursor.Step.{Step}
use Rattle.text_schemes.specs.declared.parts.ItemRead.{ItemRead}
use Rattle.text_grammar.specs.Spelling.{Token, empty, byte, comma, entry_pieces, writable_entry}
use Rattle.text_grammar.specs.Tokens.{tokens}
use Rattle.text_grammar.specs.Cursor.{Stepped, tokens_by}
use Rattle.text_grammar.specs.Grammar.{Read, misspelt, got, after, pick, follow, items, in_braces, read_entry, whole, read_entries}
use Rattle.text_grammar.specs.GrammarLaws.{items_step, entry_read}
use Rattle.text_schemes.specs.SchemeLoaded.{entry_of, plain_entry, loaded_scheme}
use Rattle.text_grammar.specs.ItemReading.{kept}
use Rattle.text_schemes.specs.SchemeReading.{EntryAt, loaded_text}
use Rattle.text_schemes.specs.EntryReading.{ChoiceAt, stored_entry, onto, going_on, ItemAt, no_tokens, scheme_of}
use Rattle.text_patterns.proofs.FilledLaws.{length_filled, length_more, filled_more}
use Rattle.text_grammar.proofs.TextItemLaws.{added_whole}
use Rattle.text_grammar.proofs.CursorLaws.{tail_is}
use Rattle.text_schemes.proofs.EntryTextLaws.{made, entry_kept, entry_counted, Got, got_by, see, see_none, chosen}
use Rattle.text_schemes.proofs.EntryTextLaws.{choice_missed, choice_passed}

-- entries kept one after the other are those of the list

stored_loaded : (E : List EntryList) (e : EntryList) → stored_entry (loaded_scheme E) (entry_of e) ≡ loaded_scheme (E ++ (e ∷ []))
unfolding loaded_scheme
stored_loaded E e = ap₂ made (filled_more 128 (entry_of plain_entry) entry_of E e) (length_more E e)

onto_none : (m : Read (List EntryList)) → onto (loaded_scheme []) m ≡ kept loaded_scheme m
onto_none misspelt = refl
onto_none (got E r) = ap (λ (m : Scheme). got m r) (added_whole entry_of stored_entry loaded_scheme stored_loaded [] E)

-- one entry more

abbrev entries : List Token → Read (List EntryList)
entries ts = items read_entry (byte 0x7D) ts

entries_step : (ts : List Token) → entries ts ≡ after (read_entry ts) (follow read_entry (byte 0x7D) entries)
entries_step ts = items_step read_entry entry_pieces writable_entry entry_read (byte 0x7D) refl refl ts

onto_more : (m : Scheme) (a : EntryList) (r : Read (List EntryList)) → onto m (after r (λ l w. got (a ∷ l) w)) ≡
    onto (stored_entry m (entry_of a)) r
onto_more m a misspelt = refl
onto_more m a (got l w) = refl

-- what comes after the entry a
abbrev others : EntryList → List Token → Read (List EntryList)
others a q = after (entries q) (λ l w. got (a ∷ l) w)

module _ (m : Scheme) (ts : List Token) where
  entry_missed : kept entry_of (read_entry ts) ≡ misspelt → onto m (entries ts) ≡ misspelt
  entry_missed h =
      ap (onto m) (entries_step ts)
      ∙ ap (λ (r : Read EntryList). onto m (after r (follow read_entry (byte 0x7D) entries))) (see_none entry_of (read_entry ts) h)

  module _ (e : Entry) (ts1 : List Token) (h : kept entry_of (read_entry ts) ≡ got e ts1) where
    entry_unmarked : chosen (byte 0x7D) comma ts1 ≡ misspelt → onto m (entries ts) ≡ misspelt
    entry_unmarked k = ap (onto m) (entries_step ts) ∙ by (see entry_of (read_entry ts) e ts1 h)
      where
        by : Got entry_of (read_entry ts) e ts1 → onto m (after (read_entry ts) (follow read_entry (byte 0x7D) entries)) ≡ misspelt
        by (got_by a p q) =
            ap (λ (r : Read EntryList). onto m (after r (follow read_entry (byte 0x7D) entries))) p
            ∙ ap (onto m) (choice_missed (byte 0x7D) comma (got (a ∷ [])) (others a) ts1 k)

    entry_more : (f : Bool) (ts2 : List Token) → chosen (byte 0x7D) comma ts1 ≡ got f ts2
        → onto m (entries ts) ≡ going_on (not f) (stored_entry m e) ts2
    entry_more f ts2 k = ap (onto m) (entries_step ts) ∙ by (see entry_of (read_entry ts) e ts1 h)
      where
        behind : (a : EntryList) (f : Bool) → onto m (pick f (got (a ∷ [])) (others a) ts2) ≡ going_on (not f)
            (stored_entry m (entry_of a)) ts2
        behind a true = refl
        behind a false = onto_more m a (entries ts2)

        by : Got entry_of (read_entry ts) e ts1
            → onto m (after (read_entry ts) (follow read_entry (byte 0x7D) entries)) ≡ going_on (not f) (stored_entry m e) ts2
        by (got_by a p q) =
            ap (λ (r : Read EntryList). onto m (after r (follow read_entry (byte 0x7D) entries))) p
            ∙ ap (onto m) (choice_passed (byte 0x7D) comma (got (a ∷ [])) (others a) ts1 f ts2 k)
            ∙ behind a f ∙ ap (λ (x : Entry). going_on (not f) (stored_entry m x) ts2) q

-- an entry and the mark behind it

module _ (s : List ℕ) where
  pub item_none : EntryAt s 0 None → ItemAt s None
  item_none w = record { gives = λ m. entry_missed m (tokens s) w.gives; moved = tt }

  module _ (e : Entry) (c : Cursor) (w : EntryAt s 0 (Some (e, c))) where
    pub item_unmarked : ChoiceAt (byte 0x7D) comma s c.at None → ItemAt s None
    item_unmarked k = record { gives = λ m. entry_unmarked m (tokens s) e (tokens (drop c.at s)) w.gives k.gives; moved = tt }

    pub item_read : (f : Bool) (n : Cursor) → ChoiceAt (byte 0x7D) comma s c.at (Some (f, n))
        → ItemAt s (Some (record { more = not f; entry = e; bytes = n.at }))
    item_read f n k =
        let i : 0 < c.at = w.moved.onward in
        let j : c.at < n.at = k.moved.onward in
        record {
          gives = λ m. entry_more m (tokens s) e (tokens (drop c.at s)) w.gives f (tokens (drop n.at s)) k.gives;
          moved = record { onward = omega arith; inside = λ h. k.moved.inside (w.moved.inside h) };
        }

-- the entries m are read up to the place `at`; `more` says whether a further one is due, and there
-- are fewer of them than bytes before it
pub record ReadTo (s : List ℕ) (m : Scheme) (at : ℕ) (more : Bool) : Type 0 where
  pub same : going_on more m (tokens (drop at s)) ≡ kept loaded_scheme (in_braces read_entry (tokens s))
  pub inside : at ≤ length s
  pub counted : m.count < at
  pub sized : length m.entries ≡ 128

-- a further entry, read from the tail of the text
module _ (s : List ℕ) (m : Scheme) (at : ℕ) (more : Bool) (due : more ≡ true) (before : ReadTo s m at more) where
  pub countable : m.count < length s
  countable = let i = before.inside in let j = before.counted in omega arith

  from_here : onto m (entries (tokens (drop at s))) ≡ kept loaded_scheme (in_braces read_entry (tokens s))
  from_here = ap (λ (b : Bool). going_on b m (tokens (drop at s))) (sym due) ∙ before.same

  pub item_missed : ItemAt (take (length s - at) (drop at s)) None → misspelt ≡ kept loaded_scheme (in_braces read_entry (tokens s))
  item_missed tail =
      let item : ItemAt (drop at s) None = subst (λ (t : List ℕ). ItemAt t None) (tail_is at s) tail in
      sym (item.gives m) ∙ from_here

  module _ (r : ItemRead) (tail : ItemAt (take (length s - at) (drop at s)) (Some r)) where
    item : ItemAt (drop at s) (Some r)
    item = subst (λ (t : List ℕ). ItemAt t (Some r)) (tail_is at s) tail

    pub next_inside : at + r.bytes ≤ length s
    next_inside = let i = before.inside in let j = item.moved.inside (omega arith) in let l = length-drop at s in omega arith

    pub left_less : length s - (at + r.bytes) < length s - at
    left_less = let k = item.moved.onward in omega (arith, next_inside)

    read_on : ReadTo s (stored_entry m r.entry) (at + r.bytes) r.more
    read_on =
        record {
          same = ap (λ (t : List ℕ). going_on r.more (stored_entry m r.entry) (tokens t)) (sym (drop-drop r.bytes at s))
              ∙ sym (item.gives m) ∙ from_here;
          inside = next_inside;
          counted = let k = item.moved.onward in let j = before.counted in omega arith;
          sized = length-set m.entries m.count r.entry ∙ before.sized;
        }

    -- within the array it is stored, behind it only counted
    pub read_kept : ReadTo s (made (set m.entries m.count r.entry) (m.count + 1)) (at + r.bytes) r.more
    read_kept = subst (λ (x : Scheme). ReadTo s x (at + r.bytes) r.more) (sym (entry_kept m r.entry)) read_on

    pub read_counted : 128 ≤ m.count → ReadTo s (made m.entries (m.count + 1)) (at + r.bytes) r.more
    read_counted h =
        subst (λ (x : Scheme). ReadTo s x (at + r.bytes) r.more)
        (sym (entry_counted m r.entry (let l = before.sized in omega arith))) read_on

-- no further entry is due
pub at_last : (s : List ℕ) (m : Scheme) (at : ℕ) (more : Bool) → more ≡ false → ReadTo s m at more
    → got m (tokens (drop at s)) ≡ kept loaded_scheme (in_braces read_entry (tokens s))
at_last s m at more h w = sym (ap (λ (b : Bool). going_on b m (tokens (drop at s))) h) ∙ w.same

-- nothing comes after what was read

-- the end of the text is seen by the kind of the next token
end_seen : (k : Kind) (t : List ℕ) (ts : List Token) → k ≡ End → true ≡ no_tokens (tokens_by k t ts)
end_seen k t ts e = rw e refl

more_seen : (k : Kind) (t : List ℕ) (ts : List Token) → (k ≡ End → ⊥) → false ≡ no_tokens (tokens_by k t ts)
more_seen End t ts h = absurd (h refl)
more_seen Digits t ts h = refl
more_seen Epsilon t ts h = refl
more_seen Empty t ts h = refl
more_seen Left t ts h = refl
more_seen Right t ts h = refl
more_seen (Byte b) t ts h = refl

module _ (s : List ℕ) (at : ℕ) (t : Step) (stepped : Stepped s at t) where
  pub ended : t.kind ≡ End → true ≡ no_tokens (tokens (drop at s))
  ended h = end_seen t.kind (drop t.from s) (tokens (drop t.next.at s)) h ∙ ap no_tokens (sym stepped.gives)

  pub not_ended : (t.kind ≡ End → ⊥) → false ≡ no_tokens (tokens (drop at s))
  not_ended h = more_seen t.kind (drop t.from s) (tokens (drop t.next.at s)) h ∙ ap no_tokens (sym stepped.gives)

module _ (m : Scheme) where
  pub text_spelt : (ts : List Token) → no_tokens ts ≡ true → some m ≡ scheme_of (got m ts)
  text_spelt [] h = refl
  text_spelt (t ∷ ts) h = absurd (false≢true h)

  pub text_misspelt : (ts : List Token) → no_tokens ts ≡ false → none ≡ scheme_of (got m ts)
  text_misspelt [] h = absurd (false≢true (sym h))
  text_misspelt (t ∷ ts) h = refl

-- from the start

text_whole : (m : Read (List EntryList)) → scheme_of (kept loaded_scheme m) ≡ loaded_text (whole m)
text_whole misspelt = refl
text_whole (got E []) = refl
text_whole (got E (t ∷ r)) = refl

start_going : (c : Bool) (ts : List Token) → going_on (not c) (loaded_scheme []) ts ≡ kept loaded_scheme (pick c (got []) entries ts)
start_going true ts = refl
start_going false ts = onto_none (entries ts)

module _ (s : List ℕ) where
  pub start_missed : ChoiceAt empty (byte 0x7B) s 0 None → misspelt ≡ kept loaded_scheme (in_braces read_entry (tokens s))
  start_missed w = sym (ap (kept loaded_scheme) (choice_missed empty (byte 0x7B) (got []) entries (tokens s) w.gives))

  pub start_read : (f : Bool) (c : Cursor) → ChoiceAt empty (byte 0x7B) s 0 (Some (f, c)) → (x : Scheme) (b : Bool) → x ≡
      loaded_scheme [] → b ≡ not f → ReadTo s x c.at b
  unfolding loaded_scheme
  start_read f c w x b e g = rw (e, g)
      (record {
        same = start_going f (tokens (drop c.at s))
            ∙ ap (kept loaded_scheme) (sym (choice_passed empty (byte 0x7B) (got []) entries (tokens s) f (tokens (drop c.at s)) w.gives));
        inside = w.moved.inside (omega arith);
        counted = w.moved.onward;
        sized = length_filled 128 (entry_of plain_entry) [];
      })

pub whole_text : (s : List ℕ) (m : Read Scheme) (o : Maybe Scheme) → o ≡ scheme_of m →
    m ≡ kept loaded_scheme (in_braces read_entry (tokens s)) → o ≡ loaded_text (read_entries (tokens s))
unfolding read_entries
whole_text s m o g h = g ∙ ap scheme_of h ∙ text_whole (in_braces read_entry (tokens s))
