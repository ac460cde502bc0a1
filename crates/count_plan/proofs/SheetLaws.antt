-- Writing the sheet, part by part.
-- Assumes nothing.
use Prim.Native.Nat.{ℕ, ◌+◌, ◌*◌, ◌≤◌, ◌<◌}
use native.Mathlib.Omega.{arith}
use mathlib.Core.Path.{◌≡◌, refl, sym, ap, ◌∙◌, subst}
use mathlib.Core.Logic.{◌⊎◌, inl, inr}
use mathlib.Core.List.{List}
use lib.ListN.{length, get_or}
use Rattle.word.specs.Ceilings.{PARTS}
use Rattle.word.specs.ListLaws.{below_or_not}
use Rattle.forms.specs.SchemeMemory.{no_entry}
use Rattle.forms.specs.declared.memory.Entry.{Entry}
use Rattle.forms.specs.declared.memory.Scheme.{Scheme}
use Rattle.scheme.specs.Links.{prefixes_in}
use Rattle.count_plan.specs.Layout.{entry_at}
use Rattle.count_plan.specs.Cards.{EntryCard}
use Rattle.count_plan.specs.SheetSizes.{HEAD, CARD}
use Rattle.count_plan.specs.SheetForm.{Put, head_of, GapsIn, CardIn, CardFor, SheetTo}
use Rattle.count_plan.specs.declared.cards.Card.{Card}

-- an entry: its first bytes, and then its gap vectors
pub card_made : (e : Entry) (t : Card) (at : ℕ) (before now after head : List ℕ) → head ≡
    head_of t e.gap_count → Put at head before now →
    GapsIn e (at + HEAD) now after → CardIn e t at before after
card_made e t at before now after head q p g =
    let l : length head ≡ HEAD = ap length q in
    record {
      size = g.put.size ∙ p.size;
      head = λ (f : ℕ) (h : f < HEAD).
          g.put.other (at + f) (inl (omega arith)) ∙ p.here f (omega arith) ∙ ap (λ (u : List ℕ). get_or u f 0) q;
      long = g.long;
      gaps = λ (f : ℕ) (h : f < PARTS). g.put.here f (omega (arith, g.long));
      other = λ (x : ℕ) (o : (x < at) ⊎ (at + CARD ≤ x)). far (ap length q) x o;
    }
  where
    far : length head ≡ HEAD → (x : ℕ) → (x < at) ⊎ (at + CARD ≤ x) → get_or after x 0 ≡ get_or before x 0
    far l x (inl a) = g.put.other x (inl (omega arith)) ∙ p.other x (inl a)
    far l x (inr a) = g.put.other x (inr (omega (arith, g.long))) ∙ p.other x (inr (omega arith))

-- The sheet

-- the cards of other entries stay
pub sheet_more : (P : List (List ℕ)) (s : Scheme) (m : ℕ) (sheet after : List ℕ) (card : Card) → SheetTo P s m sheet →
    EntryCard P (prefixes_in s) (entry_at s m) card →
    CardIn (get_or s.entries m no_entry) card (CARD * m) sheet after → SheetTo P s (m + 1) after
sheet_more P s m sheet after card st is c =
    record {
      long = c.size ∙ st.long;
      cards = λ (i : ℕ) (h : i < m + 1). go i h (below_or_not i m);
    }
  where
    fresh : CardFor P s m after
    fresh = record { card = card; is = is; before = sheet; written = c }

    kept : (i : ℕ) → i < m → CardFor P s i sheet → CardFor P s i after
    kept i h k =
        record {
          card = k.card;
          is = k.is;
          before = after;
          written = record {
            size = refl;
            head = λ (f : ℕ) (l : f < HEAD). c.other (CARD * i + f) (inl (omega arith)) ∙ k.written.head f l;
            long = k.written.long;
            gaps = λ (f : ℕ) (l : f < PARTS). c.other (CARD * i + HEAD + f) (inl (omega arith)) ∙ k.written.gaps f l;
            other = λ (x : ℕ) (o : (x < CARD * i) ⊎ (CARD * i + CARD ≤ x)). refl;
          };
        }

    go : (i : ℕ) → i < m + 1 → (i < m) ⊎ (m ≤ i) → CardFor P s i after
    go i h (inl a) = kept i a (st.cards i a)
    go i h (inr a) = let q : i ≡ m = omega arith in subst (λ (n : ℕ). CardFor P s n after) (sym q) fresh
