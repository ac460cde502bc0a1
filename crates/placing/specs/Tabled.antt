-- The tables of the candidate search, and the word that is made from them. Definitions only.
-- A table has something to say of a prefix, a spacing and a pattern.
use Rattle.std.specs.Prelude.{ℕ, suc, ◌+◌, ◌-◌, ◌≤◌, ◌<◌, min, ◌≡◌, not, true, length, drop, get_or}
use mathlib.Core.List.{List, ◌++◌, map, Memᴰ}
use Rattle.word.specs.Ceilings.{DIGITS}
use Rattle.word.specs.Lists.{all, keep}
use Rattle.word.specs.Word.{under, reduce, has, entry, is_perm, within}
use Rattle.cell.specs.Cell.{total, without}
use Rattle.cell.specs.Built.{level, lift, built}
use Rattle.placing.specs.Lookup.{VALUES, entry_of, flagged, Says, Flags}

-- the largest level that is looked at: lifted by one for each prefix value it fits a byte
abbrev pub LEVEL : ℕ
LEVEL = 100

-- the prefix values that are not flagged, each with its level added, and 255 where that is larger
unfoldable pub kept_values : List ℕ → List ℕ → List ℕ → List ℕ
kept_values levels gone p = map (λ a. min (a + entry_of levels a) 255) (keep (λ a. not (flagged gone a)) p)

-- the table `levels` says the levels of g, and the pattern entries of the rest need levels that g
-- reaches
pub record Reached (rest need levels : List ℕ) (k : ℕ) (g : List ℕ) : Type 0 where
  pub size : length g ≡ k + 1
  pub says : Says levels (k + 1) (level g)
  pub small : total g ≤ LEVEL
  pub reach : (j : ℕ) → j < length rest → entry_of need (get_or rest j 0) ≤ total g

-- the actual values of these pattern entries stand behind v
abbrev pub Rest : List ℕ → List ℕ → List ℕ → ℕ → List ℕ → List ℕ → Type 0
Rest rest need levels k v w = (g : List ℕ) → Reached rest need levels k g → w ≡ v ++ map (λ y. lift g (entry_of need y)) rest

-- the tables are those of the prefix p, the deleted positions R, the spacing g and the pattern β
pub record Tabled (levels gone : List ℕ) (t : ℕ) (need p R g β : List ℕ) : Type 0 where
  pub perm : is_perm p ≡ true
  pub inside : all (within (length p)) R ≡ true
  pub size : length g ≡ suc (length p)
  pub whole : total g ≡ t
  pub says_levels : Says levels (length p + 1) (level g)
  pub flags_gone : Flags gone VALUES (λ v. has v (map (entry p) R))
  pub says_need : Says need VALUES (under (drop (length β - t) β))
  pub small : (y : ℕ) → Memᴰ y β → y ≤ DIGITS

-- the word is the candidate of the prefix and the pattern, for every deleted positions and spacing
-- that the tables are made from
abbrev pub IsCandidate : List ℕ → List ℕ → List ℕ → List ℕ → ℕ → List ℕ → List ℕ → Type 0
IsCandidate p levels gone β t need w =
    (R g : List ℕ) → Tabled levels gone t need p R g β → w ≡ built (without R p) g (reduce (drop (length β - t) β))
