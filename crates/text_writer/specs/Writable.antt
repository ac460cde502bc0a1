-- What the writer requires of patterns and schemes in memory, and the texts that its parts write.
-- Definitions only.
use Rattle.std.specs.Prelude.{ℕ, zero, suc, ◌≤◌, ◌<◌, ◌≡◌, List, [], ◌∷◌, ◌++◌, map, length, get_or}
use Rattle.word.specs.Ceilings.{DIGITS, PATTERNS, ENTRIES, PREFIX, COMPONENTS, GAPS}
use Rattle.word.specs.Lists.{each}
use Rattle.forms.specs.SchemeMemory.{pattern_in, gap_at, entry_in, no_pattern, no_entry}
use Rattle.forms.specs.GapForm.{entry_gap}
use Rattle.forms.specs.declared.memory.Pattern.{Pattern}
use Rattle.forms.specs.declared.memory.Patterns.{Patterns}
use Rattle.forms.specs.declared.memory.Gap.{Gap}
use Rattle.forms.specs.declared.memory.Positions.{Positions}
use Rattle.forms.specs.declared.memory.Rule.{Rule}
use Rattle.forms.specs.declared.memory.Rule.TheVariants.{Delete}
use Rattle.forms.specs.declared.memory.Entry.{Entry}
use Rattle.forms.specs.declared.memory.Scheme.{Scheme}
use Rattle.text_grammar.specs.Spelling.{Token, bytes_of, digits, perm_piece, numeral, vector_pieces, braced, entry_pieces}

-- the first n places of an array are in it, and hold digits 0 to 9
pub record DigitsFit (n : ℕ) (ds : List ℕ) : Type 0 where
  pub inside : n ≤ length ds
  pub small : (k : ℕ) → k < n → get_or ds k 0 ≤ 9

pub record PatternFits (p : Pattern) : Type 0 where
  pub short : p.length ≤ DIGITS
  pub small : (k : ℕ) → k < p.length → get_or p.digits k 0 ≤ 9

pub record PatternsFit (s : Patterns) : Type 0 where
  pub few : s.count ≤ PATTERNS
  pub fit : (i : ℕ) → i < s.count → PatternFits (get_or s.items i no_pattern)

-- a vector has a component: "`⟨⟩` .. misspelt" (01)
pub record GapFits (g : Gap) : Type 0 where
  pub some : 1 ≤ g.width
  pub narrow : g.width ≤ COMPONENTS

-- a set has a position, and each has a name
pub record PositionsFit (d : Positions) : Type 0 where
  pub some : 1 ≤ d.count
  pub few : d.count ≤ PREFIX

pub record RuleFits (r : Rule) : Type 0 where
  pub fit : (d : Positions) → r ≡ Delete d → PositionsFit d

pub record EntryFits (e : Entry) : Type 0 where
  pub short : e.length ≤ PREFIX
  pub small : (k : ℕ) → k < e.length → get_or e.prefix k 0 ≤ 9
  pub few : e.gap_count ≤ GAPS
  pub fit : (i : ℕ) → i < e.gap_count → GapFits (entry_gap e i)
  pub rule : RuleFits e.rule

pub record SchemeFits (s : Scheme) : Type 0 where
  pub few : s.count ≤ ENTRIES
  pub fit : (i : ℕ) → i < s.count → EntryFits (get_or s.entries i no_entry)

-- the bytes of pieces, one after the other
abbrev pub text : List Token → List ℕ
text ts = each bytes_of ts

-- a comma and the i-th item
abbrev pub next : (ℕ → List Token) → ℕ → List ℕ
next f i = 0x2C ∷ text (f i)

-- n items from the i-th on, a comma before each
unfoldable pub further : (ℕ → List Token) → ℕ → ℕ → List ℕ
further f i zero = []
further f i (suc n) = next f i ++ further f (suc i) n

-- the k-th number of an array, as a piece
abbrev pub number : List ℕ → ℕ → List Token
number l k = digits (numeral (get_or l k 0)) ∷ []

-- the i-th pattern of a set, as a piece
abbrev pub pattern_at : List Pattern → ℕ → List Token
pattern_at ps i = perm_piece (pattern_in (get_or ps i no_pattern)) ∷ []

-- the i-th gap vector of an entry, and all of them
abbrev pub vector_at : Entry → ℕ → List Token
vector_at e i = vector_pieces (gap_at e i)

abbrev pub gap_pieces : Entry → List Token
gap_pieces e = braced (map vector_pieces (entry_in e).gaps)

-- the i-th entry of a scheme
abbrev pub entry_at : List Entry → ℕ → List Token
entry_at es i = entry_pieces (entry_in (get_or es i no_entry))
