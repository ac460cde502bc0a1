-- What the plan of a count says of each entry. Definitions only.
use Rattle.std.specs.Prelude.{ℕ, suc, ◌≤◌, ◌<◌, ◌≡◌, cond, List, map, length, get_or}
use Rattle.word.specs.Ceilings.{LINKS}
use Rattle.word.specs.Word.{avoids, has, entry}
use Rattle.cell.specs.Cell.{deleted}
use Rattle.cell.specs.Child.{child_at}
use Rattle.spacing.specs.Sizes.{NEAR}
use Rattle.forms.specs.SchemeList.{Does, expands, deletes}
use Rattle.forms.specs.declared.memory.Scheme.{Scheme}
use Rattle.count_plan.specs.Cards.{index_of}
use Rattle.count_plan.specs.Layout.{entry_at, prefix_at, length_at, place_at}

-- the prefix q has an entry, and its cells begin at the place x of a row
pub record LeadsTo (n : ℕ) (s : Scheme) (q : List ℕ) (x : ℕ) : Type 0 where
  pub inside : index_of s q < s.count
  pub named : prefix_at s (index_of s q) ≡ q
  pub placed : x ≡ place_at n s (index_of s q)

-- What a row has to know of an entry: its length; where in a row its cells begin; how many
-- positions it deletes, 0 where it expands, and the values there; what it has at total 0 where it
-- expands; where in a row the cells of its children, in the order of their last entries, or those
-- of its target begin; its gap vectors.
pub record Item : Type 0 where
  pub length : ℕ
  pub place : ℕ
  pub deleted : ℕ
  pub values : List ℕ
  pub alone : ℕ
  pub links : List ℕ
  pub gaps : List (List ℕ)

-- the two lists have the same values from 1 to k
abbrev pub SameValues : ℕ → List ℕ → List ℕ → Type 0
SameValues k vs ws = (v : ℕ) → 1 ≤ v → v ≤ k → has v vs ≡ has v ws

-- what the plan says of a rule
abbrev pub RulePlan : ℕ → List (List ℕ) → Scheme → List ℕ → Does → Item → Type 0
RulePlan n P s p expands t =
    (t.deleted ≡ 0) × (t.alone ≡ cond (avoids P p) 1 0) × ((a : ℕ) → a ≤ length p → LeadsTo n s (child_at p (suc a)) (get_or t.links a 0))
RulePlan n P s p (deletes R) t =
    (t.deleted ≡ length R) × (1 ≤ length R) × SameValues (length p) t.values (map (entry p) R) ×
    LeadsTo n s (deleted R p) (get_or t.links 0 0)

-- what it says of the entry with index i
pub record Planned (n : ℕ) (P : List (List ℕ)) (s : Scheme) (i : ℕ) (t : Item) : Type 0 where
  pub size : t.length ≡ length_at s i
  pub placed : t.place ≡ place_at n s i
  pub rule : RulePlan n P s (prefix_at s i) (entry_at s i).rule t
  pub near : (a : ℕ) → get_or t.links a 0 ≤ NEAR
  pub long : length t.links ≡ LINKS
  pub gaps : t.gaps ≡ (entry_at s i).gaps

-- the items of all entries, by their indices
abbrev pub Plan : ℕ → List (List ℕ) → Scheme → (ℕ → Item) → Type 0
Plan n P s items = (i : ℕ) → i < s.count → Planned n P s i (items i)

-- the places of the entries in a row, in memory, and behind them its width
pub record Places (n : ℕ) (s : Scheme) (places : List ℕ) : Type 0 where
  pub at : (i : ℕ) → i ≤ s.count → get_or places i 0 ≡ place_at n s i
  pub near : (i : ℕ) → get_or places i 0 ≤ NEAR
