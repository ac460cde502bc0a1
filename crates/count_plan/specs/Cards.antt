-- What is looked up for an entry: the indices of the entries of its children, or of its target.
-- Definitions only.
use Rattle.std.specs.Prelude.{ℕ, suc, ◌<◌, ◌≡◌, cond, List, map, length, get_or, Option, Some, None}
use Rattle.word.specs.Ceilings.{PREFIX, LINKS}
use Rattle.word.specs.Word.{avoids, has, entry}
use Rattle.cell.specs.Cell.{deleted}
use Rattle.cell.specs.Child.{child_at}
use Rattle.placing.specs.Lookup.{VALUES, Flags}
use Rattle.forms.specs.SchemeList.{Does, expands, deletes, EntryList}
use Rattle.forms.specs.SchemeMemory.{does_of}
use Rattle.forms.specs.declared.memory.Entry.{Entry}
use Rattle.forms.specs.Codes.{Codes}
use Rattle.forms.specs.declared.memory.Scheme.{Scheme}
use Rattle.scheme.specs.Links.{find_in, found_of, prefixes_in}
use Rattle.count_plan.specs.declared.cards.Card.{Card}

-- a claim on the prefixes whose codes are given
abbrev pub Coded : List ℕ → (List (List ℕ) → Type 0) → Type 0
Coded codes claim = (ps : List (List ℕ)) → Codes ps codes → claim ps

-- the index of an entry that was found
abbrev pub index_found : Option ℕ → ℕ
index_found (Some i) = i
index_found None = 0

-- the index of the prefix q among the prefixes ps
abbrev pub index_in : List (List ℕ) → List ℕ → ℕ
index_in ps q = index_found (found_of (find_in ps q))

-- the index of the entry with the prefix q
abbrev pub index_of : Scheme → List ℕ → ℕ
index_of s q = index_in (prefixes_in s) q

-- the indices of the children of p with the last entries 1 to m
pub record ChildLinks (ps : List (List ℕ)) (p : List ℕ) (m : ℕ) (links : List ℕ) : Type 0 where
  pub size : length links ≡ LINKS
  pub at : (a : ℕ) → a < m → get_or links a 0 ≡ index_in ps (child_at p (suc a))

-- the card of an expanding entry
pub record Expands (P ps : List (List ℕ)) (p : List ℕ) (t : Card) : Type 0 where
  pub size : t.length ≡ length p
  pub none : t.deleted ≡ 0
  pub alone : t.alone ≡ cond (avoids P p) 1 0
  pub links : ChildLinks ps p (suc (length p)) t.links

-- the card of an entry that deletes the positions R: the values there are flagged
pub record Deletes (ps : List (List ℕ)) (p R : List ℕ) (t : Card) : Type 0 where
  pub size : t.length ≡ length p
  pub number : t.deleted ≡ length R
  pub gone : Flags t.gone VALUES (λ v. has v (map (entry p) R))
  pub link : get_or t.links 0 0 ≡ index_in ps (deleted R p)

-- an expanding entry that has children is shorter than PREFIX
abbrev pub Shorter : Entry → Type 0
Shorter e = does_of e.rule ≡ expands → e.length < PREFIX

-- the card of an entry, by its rule
abbrev pub RuleCard : List (List ℕ) → List (List ℕ) → List ℕ → Does → Card → Type 0
RuleCard P ps p expands t = Expands P ps p t
RuleCard P ps p (deletes R) t = Deletes ps p R t

abbrev pub EntryCard : List (List ℕ) → List (List ℕ) → EntryList → Card → Type 0
EntryCard P ps e t = RuleCard P ps e.prefix e.rule t
