-- Looking entries up by their prefix, and what the tests 8 and 9 ask of a scheme in memory.
-- Definitions only.
use Rattle.std.specs.Prelude.{ℕ, suc, ◌≤◌, ◌<◌, ◌≡◌, Bool, true, false, not, cond, List, [], ◌∷◌, map, get_or, eqb}
use Rattle.std.proofs.Math.Option.{Option, none, some}
use Rattle.std.specs.Prelude.{Option as Found, None, Some}
use Rattle.word.specs.Ceilings.{ENTRIES, PREFIX}
use Rattle.word.specs.Lists.{any}
use Rattle.word.specs.Word.{is_perm}
use Rattle.cell.specs.Basis.{same}
use Rattle.cell.specs.Cell.{children}
use Rattle.forms.specs.SchemeList.{EntryList}
use Rattle.forms.specs.Codes.{Codes}
use Rattle.forms.specs.SchemeMemory.{padded, no_entry, does_of, scheme_in}
use Rattle.scheme.specs.WellFormed.{outside, listed, lacks_child, lacks_target}
use Rattle.forms.specs.declared.memory.Entry.{Entry}
use Rattle.forms.specs.declared.memory.Scheme.{Scheme}

-- the place of the first list that is the same as q, with places counted from i
unfoldable pub find_from : ℕ → List (List ℕ) → List ℕ → Option ℕ
unfolding same
find_from i [] q = none
find_from i (p ∷ ps) q = cond (same q p) (some i) (find_from (suc i) ps q)

abbrev pub find_in : List (List ℕ) → List ℕ → Option ℕ
find_in ps q = find_from 0 ps q

-- the place of the first code that is c, with places counted from i
unfoldable pub find_code_from : ℕ → List ℕ → ℕ → Option ℕ
find_code_from i [] c = none
find_code_from i (x ∷ l) c = cond (eqb c x) (some i) (find_code_from (suc i) l c)

abbrev pub find_code : List ℕ → ℕ → Option ℕ
find_code l c = find_code_from 0 l c

-- a place in memory
abbrev pub found_of : Option ℕ → Found ℕ
found_of none = None
found_of (some i) = Some i

-- whether there is a place
abbrev pub present : Option ℕ → Bool
present none = false
present (some i) = true

-- the prefixes of a scheme in memory
abbrev pub prefixes_in : Scheme → List (List ℕ)
prefixes_in s = map (λ e. e.prefix) (scheme_in s)

-- what the codes tell of the prefixes that they stand for: the place of one, whether it is listed,
-- and the tests 8 and 9 of an entry
abbrev pub FindsIn : List ℕ → List ℕ → Found ℕ → Type 0
FindsIn codes q r = (ps : List (List ℕ)) → Codes ps codes → r ≡ found_of (find_in ps q)

abbrev pub ListedIn : List ℕ → List ℕ → Bool → Type 0
ListedIn codes q r = (ps : List (List ℕ)) → Codes ps codes → r ≡ listed ps q

abbrev pub ChildlessIn : List ℕ → List ℕ → Bool → Type 0
ChildlessIn codes p r = (ps : List (List ℕ)) → Codes ps codes → r ≡ any (λ q. not (listed ps q)) (children p)

abbrev pub LacksChildIn : List ℕ → EntryList → Bool → Type 0
LacksChildIn codes e r = (ps : List (List ℕ)) → Codes ps codes → r ≡ lacks_child ps e.prefix e.rule

abbrev pub LacksTargetIn : List ℕ → EntryList → Bool → Type 0
LacksTargetIn codes e r = (ps : List (List ℕ)) → Codes ps codes → r ≡ lacks_target ps e.prefix e.rule

-- a scheme whose prefixes lie within their arrays
pub record Short (s : Scheme) : Type 0 where
  pub few : s.count ≤ ENTRIES
  pub each : (i : ℕ) → i < s.count → (get_or s.entries i no_entry).length ≤ PREFIX

-- an entry in which the tests 2, 3 and 7 find nothing, as far as the tests 8 and 9 ask it
pub record LinkedEntry (e : Entry) : Type 0 where
  pub short : e.length ≤ PREFIX
  pub perm : is_perm (padded e.length e.prefix) ≡ true
  pub inside : outside e.length (does_of e.rule) ≡ false

-- a scheme of such entries
pub record Linked (s : Scheme) : Type 0 where
  pub counted : s.count ≤ ENTRIES
  pub linked : (i : ℕ) → i < s.count → LinkedEntry (get_or s.entries i no_entry)
