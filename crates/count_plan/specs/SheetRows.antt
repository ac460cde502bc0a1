-- What is read from the sheet, and what it says of a scheme. Definitions only.
use Rattle.std.specs.Prelude.{ℕ, suc, ◌+◌, ◌*◌, ◌≤◌, ◌<◌, ◌≡◌, cond, List, map, length, get_or, take, drop}
use Rattle.word.specs.Ceilings.{PREFIX, COMPONENTS, GAPS, PARTS, LINKS}
use Rattle.word.specs.Lists.{row}
use Rattle.word.specs.Word.{avoids, entry}
use Rattle.cell.specs.Cell.{deleted}
use Rattle.cell.specs.Child.{child_at}
use Rattle.spacing.specs.Flagged.{flagged}
use Rattle.forms.specs.GapRows.{gaps_of}
use Rattle.forms.specs.SchemeList.{Does, expands, deletes}
use Rattle.forms.specs.declared.memory.Scheme.{Scheme}
use Rattle.count_plan.specs.Layout.{entry_at, prefix_at, length_at}
use Rattle.count_plan.specs.Cards.{index_of}
use Rattle.count_plan.specs.Plan.{SameValues, Item}
use Rattle.forms.specs.SchemeMemory.{scheme_in}
use Rattle.scheme.specs.Proper.{Proper}
use Rattle.count_plan.specs.SheetSizes.{FLAGS, FIELDS, HEAD, CARD, SHEET}

-- byte f of the entry with index e
abbrev pub field_of : List ℕ → ℕ → ℕ → ℕ
field_of sheet e f = get_or sheet (CARD * e + f) 0

-- the components of the gap vectors of an entry
abbrev pub parts_at : List ℕ → ℕ → List ℕ
parts_at sheet e = take PARTS (drop (CARD * e + HEAD) sheet)

-- the flags of the values that an entry deletes
abbrev pub flags_at : List ℕ → ℕ → List ℕ
flags_at sheet e = take COMPONENTS (drop (CARD * e + FLAGS) sheet)

-- its gap vectors, with k + 1 components each
abbrev pub gaps_at : List ℕ → ℕ → ℕ → List (List ℕ)
gaps_at sheet e k = gaps_of (parts_at sheet e) (k + 1) (field_of sheet e 3)

-- d is the index of the entry with the prefix q
pub record Names (s : Scheme) (q : List ℕ) (d : ℕ) : Type 0 where
  pub inside : d < s.count
  pub named : prefix_at s d ≡ q
  pub is : d ≡ index_of s q

-- what the sheet says of a rule
abbrev pub RuleRow : List (List ℕ) → Scheme → List ℕ → Does → List ℕ → ℕ → Type 0
RuleRow P s p expands sheet e =
    (field_of sheet e 1 ≡ 0) × (field_of sheet e 2 ≡ cond (avoids P p) 1 0) × (length p < PREFIX) ×
    ((a : ℕ) → a ≤ length p → Names s (child_at p (suc a)) (field_of sheet e (FIELDS + a)))
RuleRow P s p (deletes R) sheet e =
    (field_of sheet e 1 ≡ length R) × (1 ≤ length R) × (length R ≤ length p) ×
    SameValues (length p) (flagged (flags_at sheet e) (length p)) (map (entry p) R) × Names s (deleted R p) (field_of sheet e FIELDS)

-- what it says of the entry with index e
pub record Row (P : List (List ℕ)) (s : Scheme) (sheet : List ℕ) (e : ℕ) : Type 0 where
  pub size : field_of sheet e 0 ≡ length_at s e
  pub few : field_of sheet e 3 ≤ GAPS
  pub gaps : gaps_at sheet e (length_at s e) ≡ (entry_at s e).gaps
  pub rule : RuleRow P s (prefix_at s e) (entry_at s e).rule sheet e

-- the sheet of a scheme for the patterns P
pub record Sheet (sheet : List ℕ) : Type 0 where
  pub P : List (List ℕ)
  pub s : Scheme
  pub proper : Proper (scheme_in s)
  pub long : length sheet ≡ SHEET
  pub rows : (e : ℕ) → e < s.count → Row P s sheet e

-- With the places of the entries in a row: where the cells of the entry begin that link a names
abbrev pub link_at : List ℕ → List ℕ → ℕ → ℕ → ℕ
link_at sheet places e a = get_or places (field_of sheet e (FIELDS + a)) 0

abbrev pub links_at : List ℕ → List ℕ → ℕ → List ℕ
links_at sheet places e = map (link_at sheet places e) (row 0 LINKS)

-- what a row has to know of the entry with index e
abbrev pub item_of : List ℕ → List ℕ → ℕ → Item
item_of sheet places e =
    record {
      length = field_of sheet e 0;
      place = get_or places e 0;
      deleted = field_of sheet e 1;
      values = flagged (flags_at sheet e) (field_of sheet e 0);
      alone = field_of sheet e 2;
      links = links_at sheet places e;
      gaps = gaps_at sheet e (field_of sheet e 0);
    }
