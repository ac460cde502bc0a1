-- Laws on the readers of gap vectors: components and vectors in memory, one more of them, and the
-- marks around them.
-- Assumes nothing.
use Prim.Native.Nat.{ℕ, ◌+◌, ◌*◌, ◌-◌, ◌≤◌, ◌<◌}
use native.Mathlib.Numerals.{add-one}
use native.Mathlib.Omega.{arith}
use mathlib.Core.Path.{◌≡◌, refl, sym, ap, ap₂, ◌∙◌, subst}
use mathlib.Core.Bool.{Bool, true, false}
use mathlib.Core.List.{List, [], ◌∷◌, ◌++◌, map, append-nil}
use lib.ListN.{length, drop, set, length-set}
use lib.Seq.{set_out, sets}
use lib.Dec.{leb}
use borrow.Author.Tests.{ne_eqb}
use Rattle.std.specs.Prelude.{Option, Some, None, IfSome}
use Rattle.word.specs.Ceilings.{COMPONENTS, GAPS, PARTS}
use Rattle.word.specs.Lists.{each}
use Rattle.word.specs.ListLaws.{each_append, length_each}
use Rattle.forms.specs.StoredLaws.{sets_out}
use Rattle.forms.specs.declared.memory.Gap.{Gap}
use Rattle.text_grammar.specs.declared.cursor.Cursor.{Cursor}
use Rattle.text_grammar.specs.declared.cursor.Kind.{Kind}
use Rattle.text_grammar.specs.declared.cursor.Kind.TheVariants.{End, Digits, Epsilon, Empty, Left, Right, Byte}
use Rattle.text_grammar.specs.declared.cursor.Step.{Step}
use Rattle.text_gaps.specs.declared.parts.Gaps.{Gaps}
use Rattle.text_grammar.specs.Spelling.{Token, digits, left, right, byte, comma, numeral, vector_pieces, writable_vector}
use Rattle.text_grammar.specs.Tokens.{tokens}
use Rattle.text_grammar.specs.Grammar.{Read, misspelt, got, after, code, same, fail, pick, either, follow, items, read_number, read_vector}
use Rattle.text_grammar.specs.GrammarLaws.{items_step, number_read, vector_read}
use Rattle.text_grammar.specs.Cursor.{Stepped, tokens_by}
use Rattle.text_grammar.specs.Kinds.{is_end}
use Rattle.text_grammar.specs.ItemReading.{kept, Moved, More, Done, Wrong, turn_in_braces, ReadTo}
use Rattle.text_grammar.proofs.CursorLaws.{beyond_le}
use Rattle.text_grammar.proofs.TextItemLaws.{by_turn, vector_turn, braces_turn, turn_other, from_first}
use Rattle.text_grammar.proofs.TextItemLaws.{items_none, items_more, items_fall, items_done, items_wrong}
use Rattle.text_grammar.proofs.TextItemLaws.{gives_by, within_text, braces_empty, braces_none, braces_items}
use Rattle.text_grammar.proofs.TextRunLaws.{moved_by}
use Rattle.text_patterns.specs.PatternMemory.{filled}
use Rattle.text_patterns.proofs.FilledLaws.{length_filled, sets_filled, length_more, filled_more}
use Rattle.text_gaps.specs.GapMemory.{part_of, parts_of, gap_of, parts_of_all, widths_of}
use Rattle.text_gaps.specs.PartReading.{loaded_gaps, NumberAt, GapAt, GapsAt}
use Rattle.text_gaps.specs.GapReading.{closing, turn_after, stored_part, stored_gap, itself, Behind, PartsAt, VectorsAt}

-- one item more in memory

abbrev pub gap_made : List ℕ → ℕ → Gap
gap_made l n = record { parts = l; width = n }

-- within the array a number is stored, behind it only counted
pub part_kept : (m : Gap) (n x : ℕ) → x ≡ part_of n → gap_made (set m.parts m.width x) (m.width + 1) ≡ stored_part m n
part_kept m n x e = rw (e, add-one m.width) refl

pub part_counted : (m : Gap) (n : ℕ) → length m.parts ≤ m.width → gap_made m.parts (m.width + 1) ≡ stored_part m n
part_counted m n h = rw (add-one m.width, set_out m.parts m.width (part_of n) h) refl

abbrev gaps_made : List ℕ → List ℕ → ℕ → Gaps
gaps_made l w n = record { parts = l; widths = w; count = n }

pub gap_kept : (m : Gaps) (g : Gap) (l : List ℕ) (b : ℕ) → l ≡ sets m.parts (COMPONENTS * m.count) g.parts → b ≡ part_of g.width
    → gaps_made l (set m.widths m.count b) (m.count + 1) ≡ stored_gap m g
gap_kept m g l b e f = rw (e, f, add-one m.count) refl

pub gap_counted : (m : Gaps) (g : Gap) → length m.parts ≤ COMPONENTS * m.count → length m.widths ≤ m.count
    → gaps_made m.parts m.widths (m.count + 1) ≡ stored_gap m g
gap_counted m g h k =
    rw (
      sets_out m.parts (COMPONENTS * m.count) g.parts h,
      set_out m.widths m.count (part_of g.width) k,
      add-one m.count,
    ) refl

-- components and vectors

kept_itself : (r : Read ℕ) → kept itself r ≡ r
kept_itself misspelt = refl
kept_itself (got n ts) = refl

-- numbers with either mark behind them

number_steps : (b : Bool) (ts : List Token) → items read_number (closing b) ts ≡
    after (read_number ts) (follow read_number (closing b) (items read_number (closing b)))
number_steps true ts = items_step read_number (λ n. digits (numeral n) ∷ []) (λ n. leb n 999) number_read (byte 0x7D) refl refl ts
number_steps false ts = items_step read_number (λ n. digits (numeral n) ∷ []) (λ n. leb n 999) number_read right refl refl ts

number_turn : (b : Bool) (f g : List Token → Read (List ℕ)) (k : Kind) (t : List ℕ) (ts : List Token)
    → either (closing b) f comma g (tokens_by k t ts) ≡ by_turn (turn_after b k) (f ts) (g ts)
number_turn true f g k t ts = braces_turn f g k t ts
number_turn false f g k t ts = vector_turn f g k t ts

vector_steps : (ts : List Token) → items read_vector (byte 0x7D) ts ≡
    after (read_vector ts) (follow read_vector (byte 0x7D) (items read_vector (byte 0x7D)))
vector_steps ts = items_step read_vector vector_pieces writable_vector vector_read (byte 0x7D) refl refl ts

part_next : (l : List ℕ) (n : ℕ) → stored_part (gap_of l) (itself n) ≡ gap_of (l ++ (n ∷ []))
part_next l n = ap₂ gap_made (filled_more 7 0 part_of l n) (length_more l n)

-- the places of one vector more stand behind those before it
parts_more : (l : List (List ℕ)) (b : List ℕ) →
    sets (filled PARTS 0 (each parts_of l)) (COMPONENTS * length l) (parts_of b) ≡
    filled PARTS 0 (each parts_of (l ++ (b ∷ [])))
parts_more l b =
    let places : COMPONENTS * length l ≡ length (each parts_of l) =
    omega (
      arith,
      length_each parts_of COMPONENTS l
          (λ (d : List ℕ). length_filled COMPONENTS 0 (map part_of d)),
    ) in
    rw (places, sets_filled PARTS 0 (each parts_of l) (parts_of b), each_append parts_of l (b ∷ []), append-nil (parts_of b)) refl

gap_next : (l : List (List ℕ)) (b : List ℕ) → stored_gap (loaded_gaps l) (gap_of b) ≡ loaded_gaps (l ++ (b ∷ []))
unfolding loaded_gaps parts_of_all widths_of
gap_next l b =
    rw (parts_more l b, filled_more GAPS 0 (λ (d : List ℕ). part_of (length d)) l b, length_more l b) refl

-- the numbers g are read from the place `first` up to the place `at`
pub record PartsTo (b : Bool) (s : List ℕ) (first : ℕ) (g : Gap) (at : ℕ) : Type 0 where
  pub read : ReadTo read_number (closing b) itself stored_part (kept gap_of (items read_number (closing b) (tokens (drop first s)))) s g
      g.width at
  pub onward : first ≤ at
  pub sized : length g.parts ≡ COMPONENTS

pub parts_start : (b : Bool) (s : List ℕ) (at : ℕ) → at ≤ length s → (g : Gap) → g ≡ gap_of [] → PartsTo b s at g at
parts_start b s at h g e =
    record {
      read = record {
        same = from_first itself stored_part gap_of part_next read_number (closing b) g (tokens (drop at s)) e;
        inside = h;
        counted = rw e (omega arith);
      };
      onward = omega arith;
      sized = rw e refl;
    }

module _ (b : Bool) (s : List ℕ) (first : ℕ) (g : Gap) (at : ℕ) (before : PartsTo b s first g at) where
  pub numbers_countable : g.width ≤ length s
  numbers_countable = let i = before.read.inside in let j = before.read.counted in omega arith

  pub numbers_none : NumberAt s at None → PartsAt b s first None
  numbers_none n =
      record {
        gives = items_none read_number (closing b) itself stored_part (turn_after b) (number_turn b) (number_steps b)
            s _ g g.width at before.read (kept_itself (read_number (tokens (drop at s))) ∙ n.gives);
        moved = tt;
      }

  module _ (n : ℕ) (c : Cursor) (number : NumberAt s at (Some (n, c))) (σ : Step) (stepped : Stepped s c.at σ) where
    number_kept : kept itself (read_number (tokens (drop at s))) ≡ got n (tokens (drop c.at s))
    number_kept = kept_itself (read_number (tokens (drop at s))) ∙ number.gives

    behind_part : Behind s first σ.next.at
    behind_part =
        let i : c.at ≤ σ.next.at = beyond_le σ.kind c.at σ.next.at stepped.beyond in
        let j = number.moved.onward in
        let k = before.onward in
        record { onward = omega arith; inside = stepped.inside (number.moved.inside before.read.inside) }

    pub numbers_fall : length s - σ.next.at < length s - at
    numbers_fall =
        items_fall read_number (closing b) itself stored_part (turn_after b) (number_turn b) (number_steps b)
        s _ g g.width at before.read n c.at number_kept number.moved σ stepped

    module _ (h : Gap) (e : h ≡ stored_part g n) where
      pub numbers_more : turn_after b σ.kind ≡ More → PartsTo b s first h σ.next.at
      numbers_more f =
          subst (λ (x : Gap). PartsTo b s first x σ.next.at) (sym e)
          (record {
            read = items_more read_number (closing b) itself stored_part (turn_after b) (number_turn b) (number_steps b)
                s _ g g.width at before.read n c.at number_kept number.moved σ stepped f;
            onward = behind_part.onward;
            sized = length-set g.parts g.width (part_of n) ∙ before.sized;
          })

      pub numbers_done : turn_after b σ.kind ≡ Done → PartsAt b s first (Some (h, σ.next))
      numbers_done f =
          record {
            gives = items_done read_number (closing b) itself stored_part (turn_after b) (number_turn b) (number_steps b)
                s _ g g.width at before.read n c.at number_kept number.moved σ stepped f
                ∙ ap (λ (x : Gap). got x (tokens (drop σ.next.at s))) (sym e);
            moved = behind_part;
          }

    pub numbers_wrong : turn_after b σ.kind ≡ Wrong → PartsAt b s first None
    numbers_wrong f =
        record {
          gives = items_wrong read_number (closing b) itself stored_part (turn_after b) (number_turn b) (number_steps b)
              s _ g g.width at before.read n c.at number_kept number.moved σ stepped f;
          moved = tt;
        }

-- the vectors m are read from the place `first` up to the place `at`
pub record VectorsTo (s : List ℕ) (first : ℕ) (m : Gaps) (at : ℕ) : Type 0 where
  pub read : ReadTo read_vector (byte 0x7D) gap_of stored_gap (kept loaded_gaps (items read_vector (byte 0x7D) (tokens (drop first s)))) s m
      m.count at
  pub onward : first ≤ at

pub vectors_start : (s : List ℕ) (at : ℕ) → at ≤ length s → (m : Gaps) → m ≡ loaded_gaps [] → VectorsTo s at m at
unfolding loaded_gaps
vectors_start s at h m e =
    record {
      read = record {
        same = from_first gap_of stored_gap loaded_gaps gap_next read_vector (byte 0x7D) m (tokens (drop at s)) e;
        inside = h;
        counted = rw e (omega arith);
      };
      onward = omega arith;
    }

module _ (s : List ℕ) (first : ℕ) (m : Gaps) (at : ℕ) (before : VectorsTo s first m at) where
  pub vectors_countable : m.count ≤ length s
  vectors_countable = let i = before.read.inside in let j = before.read.counted in omega arith

  pub vectors_none : GapAt s at None → VectorsAt s first None
  vectors_none n =
      record {
        gives = items_none read_vector (byte 0x7D) gap_of stored_gap turn_in_braces braces_turn vector_steps
            s _ m m.count at before.read n.gives;
        moved = tt;
      }

  module _ (g : Gap) (c : Cursor) (vector : GapAt s at (Some (g, c))) (σ : Step) (stepped : Stepped s c.at σ) where
    behind_vector : Behind s first σ.next.at
    behind_vector =
        let i : c.at ≤ σ.next.at = beyond_le σ.kind c.at σ.next.at stepped.beyond in
        let j = vector.moved.onward in
        let k = before.onward in
        record { onward = omega arith; inside = stepped.inside (vector.moved.inside before.read.inside) }

    pub vectors_fall : length s - σ.next.at < length s - at
    vectors_fall =
        items_fall read_vector (byte 0x7D) gap_of stored_gap turn_in_braces braces_turn vector_steps
        s _ m m.count at before.read g c.at vector.gives vector.moved σ stepped

    module _ (x : Gaps) (e : x ≡ stored_gap m g) where
      pub vectors_more : σ.kind ≡ Byte 0x2C → VectorsTo s first x σ.next.at
      vectors_more f =
          subst (λ (y : Gaps). VectorsTo s first y σ.next.at) (sym e)
          (record {
            read = items_more read_vector (byte 0x7D) gap_of stored_gap turn_in_braces braces_turn vector_steps
                s _ m m.count at before.read g c.at vector.gives vector.moved σ stepped (ap turn_in_braces f);
            onward = behind_vector.onward;
          })

      pub vectors_done : σ.kind ≡ Byte 0x7D → VectorsAt s first (Some (x, σ.next))
      vectors_done f =
          record {
            gives = items_done read_vector (byte 0x7D) gap_of stored_gap turn_in_braces braces_turn vector_steps
                s _ m m.count at before.read g c.at vector.gives vector.moved σ stepped (ap turn_in_braces f)
                ∙ ap (λ (y : Gaps). got y (tokens (drop σ.next.at s))) (sym e);
            moved = behind_vector;
          }

    pub vectors_wrong : (σ.kind ≡ Byte 0x7D → ⊥) → (σ.kind ≡ Byte 0x2C → ⊥) → VectorsAt s first None
    vectors_wrong h f =
        record {
          gives = items_wrong read_vector (byte 0x7D) gap_of stored_gap turn_in_braces braces_turn vector_steps
              s _ m m.count at before.read g c.at vector.gives vector.moved σ stepped (turn_other σ.kind h f);
          moved = tt;
        }

-- the mark before the items

other_mark : (b : ℕ) → same left (byte b) ≡ false
other_mark b = ne_eqb (code left) (code (byte b)) (λ (h : code left ≡ code (byte b)). omega arith)

no_vector : (k : Kind) (t : List ℕ) (ts : List Token) → (k ≡ Left → ⊥) → read_vector (tokens_by k t ts) ≡ misspelt
no_vector End t ts h = refl
no_vector Digits t ts h = refl
no_vector Epsilon t ts h = refl
no_vector Empty t ts h = refl
no_vector Left t ts h = absurd (h refl)
no_vector Right t ts h = refl
no_vector (Byte b) t ts h = ap (λ (c : Bool). pick c (items read_number right) fail ts) (other_mark b)

module _ (s : List ℕ) (at : ℕ) (t : Step) (stepped : Stepped s at t) where
  pub left_within : t.kind ≡ Left → t.next.at ≤ length s
  left_within h = within_text s at t stepped left (tokens (drop t.next.at s)) (gives_by s at t stepped Left h)

  pub vector_none : (t.kind ≡ Left → ⊥) → GapAt s at None
  vector_none h =
      record {
        gives = ap (λ (ts : List Token). kept gap_of (read_vector ts)) stepped.gives
            ∙ ap (kept gap_of) (no_vector t.kind (drop t.from s) (tokens (drop t.next.at s)) h);
        moved = tt;
      }

  -- past the mark, and then past the items
  past_mark : is_end t.kind ≡ false → (next : ℕ) → Behind s t.next.at next → Moved s at next
  past_mark h next b =
      let i = (moved_by s at t stepped h).onward in
      let j = b.onward in
      record { onward = omega arith; inside = λ _. b.inside }

  past_items : {B : Type 0} → is_end t.kind ≡ false → (r : Option (B × Cursor)) → IfSome r (λ p. Behind s t.next.at p.1.at) →
      IfSome r (λ p. Moved s at p.1.at)
  past_items h None k = tt
  past_items h (Some p) k = past_mark h p.1.at k

  pub vector_parts : t.kind ≡ Left → (r : Option (Gap × Cursor)) → PartsAt false s t.next.at r → GapAt s at r
  vector_parts h r parts =
      record {
        gives = ap (λ (ts : List Token). kept gap_of (read_vector ts)) (gives_by s at t stepped Left h) ∙ parts.gives;
        moved = past_items (ap is_end h) r parts.moved;
      }

  pub list_empty : t.kind ≡ Empty → (g : Gaps) → g ≡ loaded_gaps [] → GapsAt s at (Some (g, t.next))
  list_empty h g e =
      record {
        gives = braces_empty s at t stepped read_vector loaded_gaps h ∙ ap (λ (m : Gaps). got m (tokens (drop t.next.at s))) (sym e);
        moved = moved_by s at t stepped (ap is_end h);
      }

  pub list_none : (t.kind ≡ Empty → ⊥) → (t.kind ≡ Byte 0x7B → ⊥) → GapsAt s at None
  list_none h k = record { gives = braces_none s at t stepped read_vector loaded_gaps h k; moved = tt }

  pub list_vectors : t.kind ≡ Byte 0x7B → (r : Option (Gaps × Cursor)) → VectorsAt s t.next.at r → GapsAt s at r
  list_vectors h r vectors =
      record {
        gives = braces_items s at t stepped read_vector loaded_gaps h ∙ vectors.gives;
        moved = past_items (ap is_end h) r vectors.moved;
      }
