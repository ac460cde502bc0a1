-- Laws on the reader of entries: marks, a prefix, and parts of an entry that are read one after the
-- other.
-- Assumes nothing.
use Prim.Native.Nat.{ℕ, suc, ◌+◌, ◌-◌, ◌≤◌, ◌<◌}
use native.Mathlib.Numerals.{add-one}
use native.Mathlib.Omega.{arith}
use mathlib.Core.Path.{◌≡◌, refl, sym, ap, ap₂, ◌∙◌, subst}
use mathlib.Core.Bool.{Bool, true, false}
use mathlib.Core.List.{List, [], ◌∷◌}
use lib.ListN.{length, drop, set, take, length-drop}
use lib.Seq.{set_out, drop-drop}
use lib.Dec.{eqb}
use borrow.Author.Tests.{eq-eqb, ne_eqb}
use Rattle.std.specs.Prelude.{Some, None}
use Rattle.word.specs.Ceilings.{PREFIX}
use Rattle.forms.specs.SchemeList.{Does, expands, deletes, EntryList}
use Rattle.forms.specs.declared.memory.Gap.{Gap}
use Rattle.forms.specs.declared.memory.Positions.{Positions}
use Rattle.forms.specs.declared.memory.Rule.{Rule}
use Rattle.forms.specs.declared.memory.Rule.TheVariants.{Expand, Delete}
use Rattle.forms.specs.declared.memory.Entry.{Entry}
use Rattle.forms.specs.declared.memory.Scheme.{Scheme}
use Rattle.text_grammar.specs.declared.cursor.Cursor.{Cursor}
use Rattle.text_grammar.specs.declared.cursor.Kind.{Kind}
use Rattle.text_grammar.specs.declared.cursor.Kind.TheVariants.{End, Digits, Epsilon, Empty, Left, Right, Byte}
use Rattle.text_grammar.specs.declared.cursor.Step.{Step}
use Rattle.text_gaps.specs.declared.parts.Gaps.{Gaps}
use Rattle.text_schemes.specs.declared.scheme_reader.Prefix.{Prefix}
use Rattle.text_grammar.specs.Spelling.{Token, empty, byte, comma}
use Rattle.text_grammar.specs.Tokens.{run, tokens}
use Rattle.text_grammar.specs.Cursor.{Stepped, tokens_by}
use Rattle.text_grammar.specs.Grammar.{Read, misspelt, got, after, same, fail, pick, expect, either, items, in_braces}
use Rattle.text_grammar.specs.Grammar.{read_perm, read_number, read_vector, read_rule, after_gaps, read_entry}
use Rattle.text_patterns.specs.PatternMemory.{filled}
use Rattle.text_gaps.specs.GapMemory.{gap_of, positions_from}
use Rattle.text_schemes.specs.SchemeLoaded.{rule_of, entry_of}
use Rattle.text_grammar.specs.ItemReading.{kept, Moved}
use Rattle.text_gaps.specs.PartReading.{loaded_gaps, GapsAt}
use Rattle.text_gaps.specs.GapReading.{PartsAt}
use Rattle.text_schemes.specs.SchemeReading.{RuleAt, EntryAt}
use Rattle.text_schemes.specs.EntryReading.{MarkAt, ChoiceAt, prefix_of, read_head, read_middle, read_tail}
use Rattle.text_schemes.specs.EntryReading.{PrefixAt, HeadAt, MiddleAt, TailAt, stored_entry}
use Rattle.text_grammar.proofs.CursorLaws.{tail_is}
use Rattle.text_grammar.specs.Kinds.{is_end}
use Rattle.text_grammar.proofs.TextItemLaws.{same_byte, no_empty, gives_by}
use Rattle.text_grammar.proofs.TextRunLaws.{moved_by, run_length, perm_run, perm_empty, perm_none}

-- a mark against a token

no_byte : (n j : ℕ) → j < 5 → eqb (suc (suc (suc (suc (suc n))))) j ≡ false
no_byte n j h = ne_eqb (suc (suc (suc (suc (suc n))))) j (λ (e : suc (suc (suc (suc (suc n)))) ≡ j). omega arith)

mark_same : (n : ℕ) (t : List ℕ) (ts : List Token) → expect {A = ℕ} (byte n) (got 0) (tokens_by (Byte n) t ts) ≡ got 0 ts
mark_same n t ts = ap (λ (c : Bool). pick {A = ℕ} c (got 0) fail ts) (same_byte n n ∙ eq-eqb n n refl)

mark_other : (n : ℕ) (k : Kind) (t : List ℕ) (ts : List Token) → (k ≡ Byte n → ⊥)
    → expect {A = ℕ} (byte n) (got 0) (tokens_by k t ts) ≡ misspelt
mark_other n End t ts h = refl
mark_other n Digits t ts h = ap (λ (c : Bool). pick {A = ℕ} c (got 0) fail ts) (no_byte n 0 (omega arith))
mark_other n Epsilon t ts h = ap (λ (c : Bool). pick {A = ℕ} c (got 0) fail ts) (no_byte n 1 (omega arith))
mark_other n Empty t ts h = ap (λ (c : Bool). pick {A = ℕ} c (got 0) fail ts) (no_byte n 2 (omega arith))
mark_other n Left t ts h = ap (λ (c : Bool). pick {A = ℕ} c (got 0) fail ts) (no_byte n 3 (omega arith))
mark_other n Right t ts h = ap (λ (c : Bool). pick {A = ℕ} c (got 0) fail ts) (no_byte n 4 (omega arith))
mark_other n (Byte b) t ts h =
    ap (λ (c : Bool). pick {A = ℕ} c (got 0) fail ts) (same_byte n b ∙ ne_eqb b n (λ (e : b ≡ n). h (ap Byte e)))

abbrev pub chosen : Token → Token → List Token → Read Bool
chosen t u ts = either t (got true) u (got false) ts

open_none : (k : Kind) (t : List ℕ) (ts : List Token) → (k ≡ Empty → ⊥) → (k ≡ Byte 0x7B → ⊥) →
    chosen empty (byte 0x7B) (tokens_by k t ts) ≡ misspelt
open_none End t ts h g = refl
open_none Digits t ts h g = refl
open_none Epsilon t ts h g = refl
open_none Empty t ts h g = absurd (h refl)
open_none Left t ts h g = refl
open_none Right t ts h g = refl
open_none (Byte b) t ts h g = rw (no_empty b, same_byte 0x7B b, ne_eqb b 0x7B (λ (e : b ≡ 0x7B). g (ap Byte e))) refl

close_none : (k : Kind) (t : List ℕ) (ts : List Token) → (k ≡ Byte 0x7D → ⊥) → (k ≡ Byte 0x2C → ⊥) →
    chosen (byte 0x7D) comma (tokens_by k t ts) ≡ misspelt
close_none End t ts h g = refl
close_none Digits t ts h g = refl
close_none Epsilon t ts h g = refl
close_none Empty t ts h g = refl
close_none Left t ts h g = refl
close_none Right t ts h g = refl
close_none (Byte b) t ts h g =
    rw (
      same_byte 0x7D b,
      same_byte 0x2C b,
      ne_eqb b 0x7D (λ (e : b ≡ 0x7D). h (ap Byte e)),
      ne_eqb b 0x2C (λ (e : b ≡ 0x2C). g (ap Byte e)),
    ) refl

module _ (s : List ℕ) (at : ℕ) (t : Step) (w : Stepped s at t) where
  abbrev rest : List Token
  rest = tokens (drop t.next.at s)

  pub marked : (n : ℕ) → t.kind ≡ Byte n → MarkAt n s at (Some t.next)
  marked n h =
      record {
        gives = ap (expect {A = ℕ} (byte n) (got 0)) (gives_by s at t w (Byte n) h) ∙ mark_same n (drop t.from s) rest;
        moved = moved_by s at t w (ap is_end h);
      }

  pub unmarked : (n : ℕ) → (t.kind ≡ Byte n → ⊥) → MarkAt n s at None
  unmarked n h =
      record {
        gives = ap (expect {A = ℕ} (byte n) (got 0)) w.gives ∙ mark_other n t.kind (drop t.from s) rest h;
        moved = tt;
      }

  pub opened : t.kind ≡ Empty → ChoiceAt empty (byte 0x7B) s at (Some (true, t.next))
  opened h = record { gives = ap (chosen empty (byte 0x7B)) (gives_by s at t w Empty h); moved = moved_by s at t w (ap is_end h) }

  pub opened_other : t.kind ≡ Byte 0x7B → ChoiceAt empty (byte 0x7B) s at (Some (false, t.next))
  opened_other h =
      record { gives = ap (chosen empty (byte 0x7B)) (gives_by s at t w (Byte 0x7B) h); moved = moved_by s at t w (ap is_end h) }

  pub opened_none : (t.kind ≡ Empty → ⊥) → (t.kind ≡ Byte 0x7B → ⊥) → ChoiceAt empty (byte 0x7B) s at None
  opened_none h g =
      record { gives = ap (chosen empty (byte 0x7B)) w.gives ∙ open_none t.kind (drop t.from s) rest h g; moved = tt }

  pub closed : t.kind ≡ Byte 0x7D → ChoiceAt (byte 0x7D) comma s at (Some (true, t.next))
  closed h =
      record { gives = ap (chosen (byte 0x7D) comma) (gives_by s at t w (Byte 0x7D) h); moved = moved_by s at t w (ap is_end h) }

  pub closed_other : t.kind ≡ Byte 0x2C → ChoiceAt (byte 0x7D) comma s at (Some (false, t.next))
  closed_other h =
      record { gives = ap (chosen (byte 0x7D) comma) (gives_by s at t w (Byte 0x2C) h); moved = moved_by s at t w (ap is_end h) }

  pub closed_none : (t.kind ≡ Byte 0x7D → ⊥) → (t.kind ≡ Byte 0x2C → ⊥) → ChoiceAt (byte 0x7D) comma s at None
  closed_none h g =
      record { gives = ap (chosen (byte 0x7D) comma) w.gives ∙ close_none t.kind (drop t.from s) rest h g; moved = tt }

-- prefixes

abbrev prefix_got : List ℕ → ℕ → List Token → Read Prefix
prefix_got l n ts = got (record { digits = l; length = n }) ts

module _ (s : List ℕ) (at : ℕ) (t : Step) (w : Stepped s at t) where
  pub prefixed : t.kind ≡ Digits → (d : List ℕ) → d ≡ filled PREFIX 0 (run (drop t.from s))
      → PrefixAt s at (Some (record { digits = d; length = t.next.at - t.from }, t.next))
  prefixed h d e =
      record {
        gives = perm_run s at t w prefix_of h
            ∙ ap₂ (λ (l : List ℕ) (n : ℕ). prefix_got l n (tokens (drop t.next.at s))) (sym e) (sym (run_length s at t w h));
        moved = moved_by s at t w (ap is_end h);
      }

  pub prefixed_empty : t.kind ≡ Epsilon → PrefixAt s at (Some (prefix_of [], t.next))
  prefixed_empty h = record { gives = perm_empty s at t w prefix_of h; moved = moved_by s at t w (ap is_end h) }

  pub prefixed_none : (t.kind ≡ Digits → ⊥) → (t.kind ≡ Epsilon → ⊥) → PrefixAt s at None
  prefixed_none h g = record { gives = perm_none s at t w prefix_of h g; moved = tt }

-- the scheme with one entry more

abbrev pub made : List Entry → ℕ → Scheme
made l n = record { entries = l; count = n }

pub entry_kept : (m : Scheme) (e : Entry) → made (set m.entries m.count e) (m.count + 1) ≡ stored_entry m e
entry_kept m e = ap (λ (n : ℕ). made (set m.entries m.count e) n) (add-one m.count)

pub entry_counted : (m : Scheme) (e : Entry) → length m.entries ≤ m.count → made m.entries (m.count + 1) ≡ stored_entry m e
entry_counted m e h = ap₂ made (sym (set_out m.entries m.count e h)) (add-one m.count)

-- one part after the other

module _ {A B : Type 0} (load : A → B) where
  -- what the memory keeps of a part tells what was read
  pub data Got (m : Read A) (x : B) (ts : List Token) : Type 0 where
    got_by : (a : A) → m ≡ got a ts → load a ≡ x → Got m x ts

  pub see : (m : Read A) (x : B) (ts : List Token) → kept load m ≡ got x ts → Got m x ts
  see misspelt x ts e = let z : ◌≡◌ {A = ℕ} 0 1 = cc in absurd (omega arith)
  see (got a r) x ts e = let p : r ≡ ts = cc in let q : load a ≡ x = cc in got_by a (ap (λ (l : List Token). got a l) p) q

  pub see_none : (m : Read A) → kept load m ≡ misspelt → m ≡ misspelt
  see_none misspelt e = refl
  see_none (got a r) e = let z : ◌≡◌ {A = ℕ} 0 1 = cc in absurd (omega arith)

module _ {A B : Type 0} where
  after_cong : (m : Read A) (f g : A → List Token → Read B) → ((x : A) (r : List Token) → f x r ≡ g x r) → after m f ≡ after m g
  after_cong misspelt f g h = refl
  after_cong (got x r) f g h = h x r

  -- a mark, and then what is read after it
  pick_post : (b : Bool) (f : List Token → Read A) (k : A → List Token → Read B) (r : List Token)
      → pick b (λ q. after (f q) k) fail r ≡ after (pick b f fail r) k
  pick_post true f k r = refl
  pick_post false f k r = refl

  expect_post : (t : Token) (f : List Token → Read A) (k : A → List Token → Read B) (ts : List Token)
      → expect t (λ q. after (f q) k) ts ≡ after (expect t f ts) k
  expect_post t f k [] = refl
  expect_post t f k (u ∷ r) = pick_post (same t u) f k r

module _ {A : Type 0} where
  expect_cong : (t : Token) (f g : List Token → Read A) → ((r : List Token) → f r ≡ g r) → (ts : List Token) → expect t f ts ≡ expect t g ts
  expect_cong t f g h [] = refl
  expect_cong t f g h (u ∷ r) = split (same t u)
    where
      split : (b : Bool) → pick b f fail r ≡ pick b g fail r
      split true = h r
      split false = refl

  pick_choice : (b c : Bool) (f g : List Token → Read A) (r : List Token)
      → pick b f (pick c g fail) r ≡ after (pick b (got true) (pick c (got false) fail) r) (λ d q. pick d f g q)
  pick_choice true c f g r = refl
  pick_choice false true f g r = refl
  pick_choice false false f g r = refl

  pub either_after : (t u : Token) (f g : List Token → Read A) (ts : List Token) → either t f u g ts ≡
      after (chosen t u ts) (λ d q. pick d f g q)
  either_after t u f g [] = refl
  either_after t u f g (v ∷ r) = pick_choice (same t v) (same u v) f g r

after_assoc : {A B C : Type 0} (m : Read A) (f : A → List Token → Read B) (g : B → List Token → Read C)
    → after (after m f) g ≡ after m (λ x r. after (f x r) g)
after_assoc misspelt f g = refl
after_assoc (got x r) f g = refl

-- a mark that is due, and then what f reads
module _ {A : Type 0} (t : Token) (f : List Token → Read A) (ts : List Token) where
  mark_missed : expect {A = ℕ} t (got 0) ts ≡ misspelt → expect t f ts ≡ misspelt
  mark_missed e = expect_post t (got 0) (λ (_ : ℕ) (q : List Token). f q) ts ∙
      ap (λ (m : Read ℕ). after m (λ (_ : ℕ) (q : List Token). f q)) e

  mark_passed : (r : List Token) → expect {A = ℕ} t (got 0) ts ≡ got 0 r → expect t f ts ≡ f r
  mark_passed r e = expect_post t (got 0) (λ (_ : ℕ) (q : List Token). f q) ts ∙
      ap (λ (m : Read ℕ). after m (λ (_ : ℕ) (q : List Token). f q)) e

-- a part, and then the mark t
module _ {A B : Type 0} (load : A → B) (t : Token) (m : Read A) where
  abbrev with_mark : Read A → Read A
  with_mark n = after n (λ a r. expect t (got a) r)

  part_missed : kept load m ≡ misspelt → kept load (with_mark m) ≡ misspelt
  part_missed e = ap (λ (n : Read A). kept load (with_mark n)) (see_none load m e)

  module _ (x : B) (ts : List Token) (e : kept load m ≡ got x ts) where
    last_missed : expect {A = ℕ} t (got 0) ts ≡ misspelt → kept load (with_mark m) ≡ misspelt
    last_missed g = by (see load m x ts e)
      where
        by : Got load m x ts → kept load (with_mark m) ≡ misspelt
        by (got_by a p q) = ap (λ (n : Read A). kept load (with_mark n)) p ∙ ap (kept load) (mark_missed t (got a) ts g)

    last_passed : (r : List Token) → expect {A = ℕ} t (got 0) ts ≡ got 0 r → kept load (with_mark m) ≡ got x r
    last_passed r g = by (see load m x ts e)
      where
        by : Got load m x ts → kept load (with_mark m) ≡ got x r
        by (got_by a p q) =
            ap (λ (n : Read A). kept load (with_mark n)) p ∙ ap (kept load) (mark_passed t (got a) ts r g) ∙ ap (λ (y : B). got y r) q

-- one of two marks, and then what f or g reads
module _ {A : Type 0} (t u : Token) (f g : List Token → Read A) (ts : List Token) where
  pub choice_missed : chosen t u ts ≡ misspelt → either t f u g ts ≡ misspelt
  choice_missed e = either_after t u f g ts ∙ ap (λ (m : Read Bool). after m (λ d q. pick d f g q)) e

  pub choice_passed : (b : Bool) (r : List Token) → chosen t u ts ≡ got b r → either t f u g ts ≡ pick b f g r
  choice_passed b r e = either_after t u f g ts ∙ ap (λ (m : Read Bool). after m (λ d q. pick d f g q)) e

-- a cursor that moved on twice
moved_twice : (s : List ℕ) (a b c : ℕ) → Moved s a b → Moved s b c → Moved s a c
moved_twice s a b c m n =
    let k : a < b = m.onward in
    let l : b < c = n.onward in
    record { onward = omega arith; inside = λ h. n.inside (m.inside h) }

-- the first part of an entry

module _ (s : List ℕ) (at : ℕ) where
  abbrev head_rest : List Token → Read (List ℕ)
  head_rest a = after (read_perm a) (λ p b. expect comma (got p) b)

  pub head_unopened : MarkAt 0x28 s at None → HeadAt s at None
  head_unopened o = record { gives = ap (kept prefix_of) (mark_missed (byte 0x28) head_rest (tokens (drop at s)) o.gives); moved = tt }

  module _ (o : Cursor) (mo : MarkAt 0x28 s at (Some o)) where
    head_opened : kept prefix_of (read_head (tokens (drop at s))) ≡ kept prefix_of (head_rest (tokens (drop o.at s)))
    head_opened = ap (kept prefix_of) (mark_passed (byte 0x28) head_rest (tokens (drop at s)) (tokens (drop o.at s)) mo.gives)

    pub head_none : PrefixAt s o.at None → HeadAt s at None
    head_none p = record { gives = head_opened ∙ part_missed prefix_of comma (read_perm (tokens (drop o.at s))) p.gives; moved = tt }

    module _ (p : Prefix) (c : Cursor) (mp : PrefixAt s o.at (Some (p, c))) where
      pub head_unclosed : MarkAt 0x2C s c.at None → HeadAt s at None
      head_unclosed mc =
          record {
            gives = head_opened
                ∙ last_missed prefix_of comma (read_perm (tokens (drop o.at s))) p (tokens (drop c.at s)) mp.gives mc.gives;
            moved = tt;
          }

      pub headed : (n : Cursor) → MarkAt 0x2C s c.at (Some n) → HeadAt s at (Some (p, n))
      headed n mc =
          record {
            gives = head_opened
                ∙ last_passed prefix_of comma (read_perm (tokens (drop o.at s))) p (tokens (drop c.at s)) mp.gives (tokens (drop n.at s))
                mc.gives;
            moved = moved_twice s at o.at n.at mo.moved (moved_twice s o.at c.at n.at mp.moved mc.moved);
          }

-- the second part

module _ (s : List ℕ) (at : ℕ) where
  pub middle_none : GapsAt s at None → MiddleAt s at None
  middle_none g = record { gives = part_missed loaded_gaps comma (in_braces read_vector (tokens (drop at s))) g.gives; moved = tt }

  module _ (g : Gaps) (c : Cursor) (mg : GapsAt s at (Some (g, c))) where
    pub middle_unclosed : MarkAt 0x2C s c.at None → MiddleAt s at None
    middle_unclosed mc =
        record {
          gives = last_missed loaded_gaps comma (in_braces read_vector (tokens (drop at s))) g (tokens (drop c.at s)) mg.gives mc.gives;
          moved = tt;
        }

    pub middled : (n : Cursor) → MarkAt 0x2C s c.at (Some n) → MiddleAt s at (Some (g, n))
    middled n mc =
        record {
          gives = last_passed loaded_gaps comma (in_braces read_vector (tokens (drop at s))) g (tokens (drop c.at s)) mg.gives
              (tokens (drop n.at s)) mc.gives;
          moved = moved_twice s at c.at n.at mg.moved mc.moved;
        }

-- the third part

module _ (s : List ℕ) (at : ℕ) where
  pub tail_none : RuleAt s at None → TailAt s at None
  tail_none m = record { gives = part_missed rule_of (byte 0x29) (read_rule (tokens (drop at s))) m.gives; moved = tt }

  module _ (m : Rule) (c : Cursor) (mm : RuleAt s at (Some (m, c))) where
    pub tail_unclosed : MarkAt 0x29 s c.at None → TailAt s at None
    tail_unclosed mc =
        record {
          gives = last_missed rule_of (byte 0x29) (read_rule (tokens (drop at s))) m (tokens (drop c.at s)) mm.gives mc.gives;
          moved = tt;
        }

    pub tailed : (n : Cursor) → MarkAt 0x29 s c.at (Some n) → TailAt s at (Some (m, n))
    tailed n mc =
        record {
          gives = last_passed rule_of (byte 0x29) (read_rule (tokens (drop at s))) m (tokens (drop c.at s)) mm.gives
              (tokens (drop n.at s)) mc.gives;
          moved = moved_twice s at c.at n.at mm.moved mc.moved;
        }

-- rules

abbrev deleted : List Token → Read Does
deleted a = after (items read_number (byte 0x7D) a) (λ R b. got (deletes R) b)

-- the positions are kept as the numbers are
abbrev rule_from : Gap → Rule
rule_from h = Delete (positions_from h)

positions_kept : (r : Read (List ℕ)) → kept rule_of (after r (λ R q. got (deletes R) q)) ≡ kept rule_from (kept gap_of r)
positions_kept misspelt = refl
positions_kept (got R q) = refl

module _ (s : List ℕ) (at : ℕ) where
  pub rule_none : ChoiceAt empty (byte 0x7B) s at None → RuleAt s at None
  rule_none w =
      record { gives = ap (kept rule_of) (choice_missed empty (byte 0x7B) (got expands) deleted (tokens (drop at s)) w.gives); moved = tt }

  module _ (b : Bool) (o : Cursor) (w : ChoiceAt empty (byte 0x7B) s at (Some (b, o))) where
    rule_by : (c : Bool) → b ≡ c
        → kept rule_of (read_rule (tokens (drop at s))) ≡ kept rule_of (pick c (got expands) deleted (tokens (drop o.at s)))
    rule_by c e =
        ap (kept rule_of) (choice_passed empty (byte 0x7B) (got expands) deleted (tokens (drop at s)) b (tokens (drop o.at s)) w.gives
        ∙ ap (λ (d : Bool). pick d (got expands) deleted (tokens (drop o.at s))) e)

    pub rule_first : b ≡ true → RuleAt s at (Some (Expand, o))
    rule_first e = record { gives = rule_by true e; moved = w.moved }

    module _ (e : b ≡ false) where
      pub rule_unread : PartsAt true s o.at None → RuleAt s at None
      rule_unread n =
          record {
            gives = rule_by false e ∙ positions_kept (items read_number (byte 0x7D) (tokens (drop o.at s))) ∙ ap (kept rule_from) n.gives;
            moved = tt;
          }

      pub rule_other : (g : Gap) (n : Cursor) (d : Positions) → PartsAt true s o.at (Some (g, n)) → d ≡ positions_from g
          → RuleAt s at (Some (Delete d, n))
      rule_other g n d mn f =
          let k : at < o.at = w.moved.onward in
          let l : o.at ≤ n.at = mn.moved.onward in
          record {
            gives = rule_by false e ∙ positions_kept (items read_number (byte 0x7D) (tokens (drop o.at s))) ∙ ap (kept rule_from) mn.gives
                ∙ ap (λ (p : Positions). got (Delete p) (tokens (drop n.at s))) (sym f);
            moved = record { onward = omega arith; inside = λ _. mn.moved.inside };
          }

-- entries

abbrev entry_with : List ℕ → List (List ℕ) → Does → EntryList
entry_with p g m = record { prefix = p; gaps = g; rule = m }

abbrev then_tail : List ℕ → List (List ℕ) → List Token → Read EntryList
then_tail p g b = after (read_tail b) (λ m r. got (entry_with p g m) r)

abbrev then_middle : List ℕ → List Token → Read EntryList
then_middle p a = after (read_middle a) (then_tail p)

tail_parts : (p : List ℕ) (g : List (List ℕ)) (b : List Token)
    → after (read_rule b) (λ m q. expect (byte 0x29) (got (entry_with p g m)) q) ≡ then_tail p g b
tail_parts p g b =
    after_cong (read_rule b) _ _ (λ m q. expect_post (byte 0x29) (got m) (λ (m : Does) (r : List Token). got (entry_with p g m) r) q)
    ∙ sym (after_assoc (read_rule b) (λ m q. expect (byte 0x29) (got m) q) (λ (m : Does) (r : List Token). got (entry_with p g m) r))

middle_parts : (p : List ℕ) (a : List Token) → after (in_braces read_vector a) (after_gaps p) ≡ then_middle p a
middle_parts p a =
    after_cong (in_braces read_vector a) _ _
    (λ g b. expect_cong comma _ _ (tail_parts p g) b ∙ expect_post comma (got g) (then_tail p) b)
    ∙ sym (after_assoc (in_braces read_vector a) (λ g q. expect comma (got g) q) (then_tail p))

entry_parts : (ts : List Token) → read_entry ts ≡ after (read_head ts) then_middle
entry_parts ts =
    expect_cong (byte 0x28) _ _
    (λ a. after_cong (read_perm a) _ _ (λ p b. expect_cong comma _ _ (middle_parts p) b ∙ expect_post comma (got p) then_middle b)
    ∙ sym (after_assoc (read_perm a) (λ p b. expect comma (got p) b) then_middle)) ts
    ∙ expect_post (byte 0x28) (λ a. after (read_perm a) (λ p b. expect comma (got p) b)) then_middle ts

abbrev entry_made : Prefix → Gaps → Rule → Entry
entry_made p g m = record { prefix = p.digits; length = p.length; gaps = g.parts; widths = g.widths; gap_count = g.count; rule = m }

entry_loaded : (p : List ℕ) (g : List (List ℕ)) (m : Does) (x : Prefix) (y : Gaps) (z : Rule) → prefix_of p ≡ x →
    loaded_gaps g ≡ y → rule_of m ≡ z
    → entry_of (entry_with p g m) ≡ entry_made x y z
unfolding loaded_gaps
entry_loaded p g m x y z e f h =
    ap (λ (q : Prefix). entry_made q (loaded_gaps g) (rule_of m)) e ∙ ap (λ (q : Gaps). entry_made x q (rule_of m)) f ∙
    ap (entry_made x y) h

-- one part missed, or all three read
module _ (ts : List Token) where
  entry_unheaded : kept prefix_of (read_head ts) ≡ misspelt → kept entry_of (read_entry ts) ≡ misspelt
  entry_unheaded e = ap (kept entry_of) (entry_parts ts ∙
      ap (λ (m : Read (List ℕ)). after m then_middle) (see_none prefix_of (read_head ts) e))

  module _ (x : Prefix) (ts1 : List Token) (e : kept prefix_of (read_head ts) ≡ got x ts1) where
    entry_unmiddled : kept loaded_gaps (read_middle ts1) ≡ misspelt → kept entry_of (read_entry ts) ≡ misspelt
    entry_unmiddled f = ap (kept entry_of) (entry_parts ts) ∙ by (see prefix_of (read_head ts) x ts1 e)
      where
        by : Got prefix_of (read_head ts) x ts1 → kept entry_of (after (read_head ts) then_middle) ≡ misspelt
        by (got_by u p q) = rw (p, see_none loaded_gaps (read_middle ts1) f) refl

    module _ (y : Gaps) (ts2 : List Token) (f : kept loaded_gaps (read_middle ts1) ≡ got y ts2) where
      entry_untailed : kept rule_of (read_tail ts2) ≡ misspelt → kept entry_of (read_entry ts) ≡ misspelt
      entry_untailed g =
          ap (kept entry_of) (entry_parts ts) ∙ by (see prefix_of (read_head ts) x ts1 e) (see loaded_gaps (read_middle ts1) y ts2 f)
        where
          by : Got prefix_of (read_head ts) x ts1 → Got loaded_gaps (read_middle ts1) y ts2
              → kept entry_of (after (read_head ts) then_middle) ≡ misspelt
          by (got_by u p q) (got_by u2 p2 q2) = rw (p, p2, see_none rule_of (read_tail ts2) g) refl

      entry_gives : (z : Rule) (ts3 : List Token) → kept rule_of (read_tail ts2) ≡ got z ts3
          → kept entry_of (read_entry ts) ≡ got (entry_made x y z) ts3
      entry_gives z ts3 g =
          ap (kept entry_of) (entry_parts ts) ∙ by (see prefix_of (read_head ts) x ts1 e) (see loaded_gaps (read_middle ts1) y ts2 f)
          (see rule_of (read_tail ts2) z ts3 g)
        where
          by : Got prefix_of (read_head ts) x ts1 → Got loaded_gaps (read_middle ts1) y ts2 → Got rule_of (read_tail ts2) z ts3
              → kept entry_of (after (read_head ts) then_middle) ≡ got (entry_made x y z) ts3
          by (got_by u p q) (got_by u2 p2 q2) (got_by u3 p3 q3) =
              rw (p, p2, p3) (ap (λ (d : Entry). got d ts3) (entry_loaded u u2 u3 x y z q q2 q3))

-- a part that is read from the tail of the text

moved_on : (s : List ℕ) (a n : ℕ) → Moved (drop a s) 0 n → Moved s a (a + n)
moved_on s a n w =
    record {
      onward = let k : 0 < n = w.onward in omega arith;
      inside = λ h. let k : n ≤ length (drop a s) = w.inside (omega arith) in let l = length-drop a s in omega arith;
    }

module _ (s : List ℕ) (a : ℕ) where
  middle_none_on : MiddleAt (take (length s - a) (drop a s)) 0 None → MiddleAt s a None
  middle_none_on w = on (subst (λ (t : List ℕ). MiddleAt t 0 None) (tail_is a s) w)
    where
      on : MiddleAt (drop a s) 0 None → MiddleAt s a None
      on v = record { gives = v.gives; moved = tt }

  tail_none_on : TailAt (take (length s - a) (drop a s)) 0 None → TailAt s a None
  tail_none_on w = on (subst (λ (t : List ℕ). TailAt t 0 None) (tail_is a s) w)
    where
      on : TailAt (drop a s) 0 None → TailAt s a None
      on v = record { gives = v.gives; moved = tt }

  module _ (n : Cursor) where
    abbrev shifted : Cursor
    shifted = record { at = a + n.at }

    middle_on : (g : Gaps) → MiddleAt (take (length s - a) (drop a s)) 0 (Some (g, n)) → MiddleAt s a (Some (g, shifted))
    middle_on g w = on (subst (λ (t : List ℕ). MiddleAt t 0 (Some (g, n))) (tail_is a s) w)
      where
        on : MiddleAt (drop a s) 0 (Some (g, n)) → MiddleAt s a (Some (g, shifted))
        on v =
            record {
              gives = v.gives ∙ ap (λ (t : List ℕ). got g (tokens t)) (drop-drop n.at a s);
              moved = moved_on s a n.at v.moved;
            }

    tail_on : (m : Rule) → TailAt (take (length s - a) (drop a s)) 0 (Some (m, n)) → TailAt s a (Some (m, shifted))
    tail_on m w = on (subst (λ (t : List ℕ). TailAt t 0 (Some (m, n))) (tail_is a s) w)
      where
        on : TailAt (drop a s) 0 (Some (m, n)) → TailAt s a (Some (m, shifted))
        on v =
            record {
              gives = v.gives ∙ ap (λ (t : List ℕ). got m (tokens t)) (drop-drop n.at a s);
              moved = moved_on s a n.at v.moved;
            }

-- the three parts of an entry, each read from the tail behind the one before it

module _ (s : List ℕ) where
  pub entry_no_head : HeadAt s 0 None → EntryAt s 0 None
  entry_no_head h = record { gives = entry_unheaded (tokens s) h.gives; moved = tt }

  module _ (h : Prefix) (a : Cursor) (mh : HeadAt s 0 (Some (h, a))) where
    pub head_inside : a.at ≤ length s
    head_inside = mh.moved.inside (omega arith)

    pub entry_no_middle : MiddleAt (take (length s - a.at) (drop a.at s)) 0 None → EntryAt s 0 None
    entry_no_middle g =
        record {
          gives = entry_unmiddled (tokens s) h (tokens (drop a.at s)) mh.gives (middle_none_on s a.at g).gives;
          moved = tt;
        }

    module _ (g : Gaps) (b : Cursor) (mg : MiddleAt (take (length s - a.at) (drop a.at s)) 0 (Some (g, b))) where
      pub middle_inside : a.at + b.at ≤ length s
      middle_inside = (middle_on s a.at b g mg).moved.inside head_inside

      pub entry_no_tail : TailAt (take (length s - (a.at + b.at)) (drop (a.at + b.at) s)) 0 None → EntryAt s 0 None
      entry_no_tail m =
          record {
            gives = entry_untailed (tokens s) h (tokens (drop a.at s)) mh.gives g (tokens (drop (a.at + b.at) s))
                (middle_on s a.at b g mg).gives (tail_none_on s (a.at + b.at) m).gives;
            moved = tt;
          }

      module _ (m : Rule) (c : Cursor)
          (mm : TailAt (take (length s - (a.at + b.at)) (drop (a.at + b.at) s)) 0 (Some (m, c))) where
        pub tail_inside : a.at + b.at + c.at ≤ length s
        tail_inside = (tail_on s (a.at + b.at) c m mm).moved.inside middle_inside

        pub entered_on : EntryAt s 0 (Some (entry_made h g m, record { at = a.at + b.at + c.at }))
        entered_on =
            record {
              gives = entry_gives (tokens s) h (tokens (drop a.at s)) mh.gives g (tokens (drop (a.at + b.at) s))
                  (middle_on s a.at b g mg).gives m (tokens (drop (a.at + b.at + c.at) s)) (tail_on s (a.at + b.at) c m mm).gives;
              moved = moved_twice s 0 a.at (a.at + b.at + c.at) mh.moved
                  (moved_twice s a.at (a.at + b.at) (a.at + b.at + c.at) (middle_on s a.at b g mg).moved
                  (tail_on s (a.at + b.at) c m mm).moved);
            }
