-- Laws on the reader of pattern sets: a pattern, one more of them in memory, a set, and nothing
-- after it.
-- Assumes nothing.
use Prim.Native.Nat.{ℕ, ◌+◌, ◌-◌, ◌≤◌, ◌<◌}
use native.Mathlib.Numerals.{add-one}
use native.Mathlib.Omega.{arith}
use mathlib.Core.Path.{◌≡◌, refl, sym, ap, ap₂, ◌∙◌, subst}
use mathlib.Core.List.{List, [], ◌∷◌, ◌++◌}
use lib.ListN.{length, drop, set, length-set}
use lib.Seq.{set_out}
use Rattle.std.specs.declared.option.Option.{Option}
use Rattle.std.specs.declared.option.Option.TheVariants.{Some, None}
use Rattle.word.specs.Ceilings.{DIGITS}
use Rattle.forms.specs.declared.memory.Pattern.{Pattern}
use Rattle.forms.specs.declared.memory.Patterns.{Patterns}
use Rattle.text_grammar.specs.declared.cursor.Cursor.{Cursor}
use Rattle.text_grammar.specs.declared.cursor.Kind.{Kind}
use Rattle.text_grammar.specs.declared.cursor.Kind.TheVariants.{End, Digits, Epsilon, Empty, Left, Right, Byte}
use Rattle.text_grammar.specs.declared.cursor.Step.{Step}
use Rattle.text_grammar.specs.Spelling.{Token, byte, perm_piece, digit_run}
use Rattle.text_grammar.specs.Tokens.{run, tokens}
use Rattle.text_grammar.specs.Grammar.{Read, misspelt, got, after, follow, items, in_braces, read_perm, whole, read_patterns}
use Rattle.text_grammar.specs.GrammarLaws.{items_step, perm_read}
use Rattle.text_grammar.specs.Kinds.{is_end}
use Rattle.text_grammar.specs.Cursor.{Stepped, tokens_by}
use Rattle.text_grammar.specs.ItemReading.{answered, kept, turn_in_braces, ReadTo}
use Rattle.text_grammar.proofs.TextItemLaws.{braces_turn, items_none, items_more, items_fall, items_done, items_wrong, from_first}
use Rattle.text_grammar.proofs.TextItemLaws.{turn_other, braces_empty, braces_none, braces_items}
use Rattle.text_grammar.proofs.TextRunLaws.{moved_by, run_length, perm_run, perm_empty, perm_none}
use Rattle.text_patterns.specs.PatternMemory.{filled, pattern_of, loaded_patterns, pattern_text}
use Rattle.text_patterns.specs.PatternReading.{PatternAt, stored_in, ItemsAt, SetAt, text_of}
use Rattle.text_patterns.proofs.FilledLaws.{length_filled, length_more, filled_more}

-- a pattern

abbrev pattern_got : List ℕ → ℕ → List Token → Read Pattern
pattern_got d n ts = got (record { digits = d; length = n }) ts

module _ (s : List ℕ) (at : ℕ) (t : Step) (stepped : Stepped s at t) where
  pub pattern_run : t.kind ≡ Digits → (d : List ℕ) → d ≡ filled DIGITS 0 (run (drop t.from s))
      → PatternAt s at (Some (record { digits = d; length = t.next.at - t.from }, t.next))
  pattern_run h d e =
      record {
        gives = perm_run s at t stepped pattern_of h
            ∙ ap₂ (λ (l : List ℕ) (n : ℕ). pattern_got l n (tokens (drop t.next.at s))) (sym e) (sym (run_length s at t stepped h));
        moved = moved_by s at t stepped (ap is_end h);
      }

  pub pattern_empty : t.kind ≡ Epsilon → PatternAt s at (Some (pattern_of [], t.next))
  pattern_empty h =
      record {
        gives = perm_empty s at t stepped pattern_of h;
        moved = moved_by s at t stepped (ap is_end h);
      }

  pub pattern_none : (t.kind ≡ Digits → ⊥) → (t.kind ≡ Epsilon → ⊥) → PatternAt s at None
  pattern_none h g = record { gives = perm_none s at t stepped pattern_of h g; moved = tt }

-- patterns in memory, one after the other

abbrev patterns : List Token → Read (List (List ℕ))
patterns ts = items read_perm (byte 0x7D) ts

patterns_step : (ts : List Token) → patterns ts ≡ after (read_perm ts) (follow read_perm (byte 0x7D) patterns)
patterns_step ts = items_step read_perm (λ p. perm_piece p ∷ []) digit_run perm_read (byte 0x7D) refl refl ts

abbrev pub made : List Pattern → ℕ → Patterns
made l n = record { items = l; count = n }

stored_kept : (m : Patterns) (p : Pattern) → made (set m.items m.count p) (m.count + 1) ≡ stored_in m p
stored_kept m p = ap (λ (n : ℕ). made (set m.items m.count p) n) (add-one m.count)

stored_counted : (m : Patterns) (p : Pattern) → length m.items ≤ m.count → made m.items (m.count + 1) ≡ stored_in m p
stored_counted m p h = ap₂ made (sym (set_out m.items m.count p h)) (add-one m.count)

stored_loaded : (P : List (List ℕ)) (q : List ℕ) → stored_in (loaded_patterns P) (pattern_of q) ≡ loaded_patterns (P ++ (q ∷ []))
unfolding loaded_patterns
stored_loaded P q = ap₂ made (filled_more 24 (pattern_of []) pattern_of P q) (length_more P q)

-- the patterns m are read from the place `from` up to the place `at`
pub record PatternsTo (s : List ℕ) (from : ℕ) (m : Patterns) (at : ℕ) : Type 0 where
  pub read : ReadTo read_perm (byte 0x7D) pattern_of stored_in (kept loaded_patterns (patterns (tokens (drop from s)))) s m m.count at
  pub sized : length m.items ≡ 24

pub start_read : (s : List ℕ) (from : ℕ) → from ≤ length s → (x : Patterns) → x ≡ loaded_patterns []
    → PatternsTo s from (made x.items 0) from
unfolding loaded_patterns
start_read s from h x e =
    let none_made : made x.items 0 ≡ loaded_patterns [] = ap (λ (y : Patterns). made y.items 0) e in
    record {
      read = record {
        same = from_first pattern_of stored_in loaded_patterns stored_loaded read_perm (byte 0x7D)
            (made x.items 0) (tokens (drop from s)) none_made;
        inside = h;
        counted = omega arith;
      };
      sized = ap (λ (y : Patterns). length y.items) e ∙ length_filled 24 (pattern_of []) [];
    }

module _ (s : List ℕ) (from : ℕ) (m : Patterns) (at : ℕ) (before : PatternsTo s from m at) where
  pub countable : m.count ≤ length s
  countable = let i = before.read.inside in let j = before.read.counted in omega arith

  pub no_pattern_at : PatternAt s at None → ItemsAt s from None
  no_pattern_at p =
      items_none read_perm (byte 0x7D) pattern_of stored_in turn_in_braces braces_turn patterns_step
      s _ m m.count at before.read p.gives

  module _ (p : Pattern) (n : Cursor) (w : PatternAt s at (Some (p, n))) (σ : Step) (stepped : Stepped s n.at σ) where
    pub left_less : length s - σ.next.at < length s - at
    left_less =
        items_fall read_perm (byte 0x7D) pattern_of stored_in turn_in_braces braces_turn patterns_step
        s _ m m.count at before.read p n.at w.gives w.moved σ stepped

    -- what is kept with the pattern: within the array it is stored, behind it only counted
    pub pattern_kept : (l : List Pattern) → l ≡ set m.items m.count p → made l (m.count + 1) ≡ stored_in m p
    pattern_kept l e = ap (λ (k : List Pattern). made k (m.count + 1)) e ∙ stored_kept m p

    pub pattern_counted : (l : List Pattern) → l ≡ m.items → 24 ≤ m.count → made l (m.count + 1) ≡ stored_in m p
    pattern_counted l e h =
        ap (λ (k : List Pattern). made k (m.count + 1)) e ∙ stored_counted m p (let z = before.sized in omega arith)

    module _ (x : Patterns) (e : x ≡ stored_in m p) where
      pub patterns_more : σ.kind ≡ Byte 0x2C → PatternsTo s from x σ.next.at
      patterns_more h =
          subst (λ (y : Patterns). PatternsTo s from y σ.next.at) (sym e)
          (record {
            read = items_more read_perm (byte 0x7D) pattern_of stored_in turn_in_braces braces_turn patterns_step
                s _ m m.count at before.read p n.at w.gives w.moved σ stepped (ap turn_in_braces h);
            sized = length-set m.items m.count p ∙ before.sized;
          })

      pub patterns_done : σ.kind ≡ Byte 0x7D → ItemsAt s from (Some (x, σ.next))
      patterns_done h =
          items_done read_perm (byte 0x7D) pattern_of stored_in turn_in_braces braces_turn patterns_step
          s _ m m.count at before.read p n.at w.gives w.moved σ stepped (ap turn_in_braces h)
          ∙ ap (λ (y : Patterns). got y (tokens (drop σ.next.at s))) (sym e)

    pub patterns_wrong : (σ.kind ≡ Byte 0x7D → ⊥) → (σ.kind ≡ Byte 0x2C → ⊥) → ItemsAt s from None
    patterns_wrong h g =
        items_wrong read_perm (byte 0x7D) pattern_of stored_in turn_in_braces braces_turn patterns_step
        s _ m m.count at before.read p n.at w.gives w.moved σ stepped (turn_other σ.kind h g)

-- the marks around them

module _ (s : List ℕ) (at : ℕ) (t : Step) (stepped : Stepped s at t) where
  pub set_empty : t.kind ≡ Empty → (m : Patterns) → m ≡ loaded_patterns [] → SetAt s at (Some (m, t.next))
  set_empty h m e =
      braces_empty s at t stepped read_perm loaded_patterns h ∙ ap (λ (x : Patterns). got x (tokens (drop t.next.at s))) (sym e)

  pub set_none : (t.kind ≡ Empty → ⊥) → (t.kind ≡ Byte 0x7B → ⊥) → SetAt s at None
  set_none h k = braces_none s at t stepped read_perm loaded_patterns h k

  pub set_items : t.kind ≡ Byte 0x7B → (r : Option (Patterns × Cursor)) → ItemsAt s t.next.at r → SetAt s at r
  set_items h r i = braces_items s at t stepped read_perm loaded_patterns h ∙ i

-- nothing comes after the set

text_whole : (m : Read (List (List ℕ))) → text_of (kept loaded_patterns m) ≡ pattern_text (whole m)
text_whole misspelt = refl
text_whole (got P []) = refl
text_whole (got P (t ∷ r)) = refl

text_other : (m : Patterns) (k : Kind) (t : List ℕ) (ts : List Token) → (k ≡ End → ⊥) → None ≡ text_of (got m (tokens_by k t ts))
text_other m End t ts h = absurd (h refl)
text_other m Digits t ts h = refl
text_other m Epsilon t ts h = refl
text_other m Empty t ts h = refl
text_other m Left t ts h = refl
text_other m Right t ts h = refl
text_other m (Byte b) t ts h = refl

module _ (s : List ℕ) where
  text_is : (r : Option (Patterns × Cursor)) → SetAt s 0 r → text_of (answered s r) ≡ pattern_text (read_patterns (tokens s))
  unfolding read_patterns
  text_is r w = ap text_of (sym w) ∙ text_whole (in_braces read_perm (tokens s))

  pub text_none : SetAt s 0 None → None ≡ pattern_text (read_patterns (tokens s))
  text_none w = text_is None w

  module _ (m : Patterns) (n : Cursor) (w : SetAt s 0 (Some (m, n))) (t : Step) (stepped : Stepped s n.at t) where
    text_by : text_of (got m (tokens_by t.kind (drop t.from s) (tokens (drop t.next.at s)))) ≡ pattern_text (read_patterns (tokens s))
    text_by = ap (λ (ts : List Token). text_of (got m ts)) (sym stepped.gives) ∙ text_is (Some (m, n)) w

    pub text_more : (t.kind ≡ End → ⊥) → None ≡ pattern_text (read_patterns (tokens s))
    text_more h = text_other m t.kind (drop t.from s) (tokens (drop t.next.at s)) h ∙ text_by

    pub text_end : t.kind ≡ End → Some m ≡ pattern_text (read_patterns (tokens s))
    text_end h =
        sym (ap (λ (k : Kind). text_of (got m (tokens_by k (drop t.from s) (tokens (drop t.next.at s))))) h) ∙ text_by
