-- The sheet as it is written: the bytes of each entry in a row. Definitions only.
use Rattle.std.specs.Prelude.{ℕ, ◌+◌, ◌*◌, ◌%◌, ◌≤◌, ◌<◌, ◌≡◌, ◌⊎◌, List, [], ◌∷◌, length, get_or}
use Rattle.word.specs.Ceilings.{PARTS}
use Rattle.forms.specs.SchemeMemory.{no_entry}
use Rattle.forms.specs.declared.memory.Entry.{Entry}
use Rattle.forms.specs.declared.memory.Scheme.{Scheme}
use Rattle.scheme.specs.Links.{prefixes_in}
use Rattle.count_plan.specs.Layout.{entry_at}
use Rattle.count_plan.specs.Cards.{EntryCard}
use Rattle.count_plan.specs.SheetSizes.{HEAD, CARD, SHEET}
use Rattle.count_plan.specs.declared.cards.Card.{Card}

-- a part stands from `at` on, and nothing else is changed
pub record Put (at : ℕ) (part before after : List ℕ) : Type 0 where
  pub size : length after ≡ length before
  pub here : (f : ℕ) → f < length part → get_or after (at + f) 0 ≡ get_or part f 0
  pub other : (x : ℕ) → (x < at) ⊎ (at + length part ≤ x) → get_or after x 0 ≡ get_or before x 0

-- the bytes before the gap vectors: the entry's length, how many positions it deletes, what it has
-- at total 0, the number of its gap vectors, the flags of the deleted values, five zeros, and the
-- indices of the entries of its children or of its target
abbrev pub head_of : Card → ℕ → List ℕ
head_of t n =
    t.length % 256 ∷ t.deleted % 256 ∷ t.alone % 256 ∷ n % 256 ∷ get_or t.gone 0 0 ∷ get_or t.gone 1 0 ∷ get_or t.gone 2 0 ∷
    get_or t.gone 3 0 ∷ get_or t.gone 4 0 ∷ get_or t.gone 5 0 ∷ get_or t.gone 6 0 ∷ 0 ∷ 0 ∷ 0 ∷ 0 ∷ 0 ∷
    get_or t.links 0 0 % 256 ∷ get_or t.links 1 0 % 256 ∷ get_or t.links 2 0 % 256 ∷ get_or t.links 3 0 % 256 ∷
    get_or t.links 4 0 % 256 ∷ get_or t.links 5 0 % 256 ∷ get_or t.links 6 0 % 256 ∷ get_or t.links 7 0 % 256 ∷ []

-- the components of the gap vectors, one byte each, stand from `at` on, and nothing else is changed
pub record GapsIn (e : Entry) (at : ℕ) (before after : List ℕ) : Type 0 where
  pub long : length e.gaps ≡ PARTS
  pub put : Put at e.gaps before after

-- the bytes of an entry stand from `at` on, and nothing else is changed
pub record CardIn (e : Entry) (t : Card) (at : ℕ) (before after : List ℕ) : Type 0 where
  pub size : length after ≡ length before
  pub head : (f : ℕ) → f < HEAD → get_or after (at + f) 0 ≡ get_or (head_of t e.gap_count) f 0
  pub long : length e.gaps ≡ PARTS
  pub gaps : (f : ℕ) → f < PARTS → get_or after (at + HEAD + f) 0 ≡ get_or e.gaps f 0
  pub other : (x : ℕ) → (x < at) ⊎ (at + CARD ≤ x) → get_or after x 0 ≡ get_or before x 0

-- the entry with index i stands in the sheet: its card was written there
pub record CardFor (P : List (List ℕ)) (s : Scheme) (i : ℕ) (sheet : List ℕ) : Type 0 where
  pub card : Card
  pub is : EntryCard P (prefixes_in s) (entry_at s i) card
  pub before : List ℕ
  pub written : CardIn (get_or s.entries i no_entry) card (CARD * i) before sheet

-- the entries before m
pub record SheetTo (P : List (List ℕ)) (s : Scheme) (m : ℕ) (sheet : List ℕ) : Type 0 where
  pub long : length sheet ≡ SHEET
  pub cards : (i : ℕ) → i < m → CardFor P s i sheet
