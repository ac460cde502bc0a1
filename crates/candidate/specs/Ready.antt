-- What the candidate search is given, what the lists that it looks up say, and what it answers.
use Rattle.std.specs.Prelude.{ℕ, suc, ◌+◌, ◌≤◌, ◌<◌, ◌≡◌, Bool, true, false, ◌&&◌, ◌↔◌, List, [], map, length, get_or, take, drop}
use Rattle.std.specs.Prelude.{Option, Some, None, is_some}
use Rattle.std.proofs.Math.Option.{Option as Maybe, none, some}
use Rattle.word.specs.Ceilings.{DIGITS, PATTERNS, PREFIX}
use Rattle.word.specs.Lists.{all, first}
use Rattle.word.specs.Word.{longest, under, has, entry, is_perm, within}
use Rattle.cell.specs.Cell.{total, free, vectors}
use Rattle.cell.specs.Claim.{DeletionClaim}
use Rattle.cell.specs.Built.{level}
use Rattle.cell.specs.Candidate.{head_length, violates, violated, irreversible, violated_first}
use Rattle.placing.specs.Lookup.{VALUES, NEEDS, need_at, Says, Flags}
use Rattle.candidate.specs.declared.search.Lost.{Lost}

-- of one prefix, its deleted positions, one spacing and one pattern
pub record Ready (p R g β levels gone need : List ℕ) : Type 0 where
  pub perm : is_perm p ≡ true
  pub short : length p ≤ PREFIX
  pub inside : all (within (length p)) R ≡ true
  pub size : length g ≡ suc (length p)
  pub pattern : is_perm β ≡ true
  pub digits : length β ≤ DIGITS
  pub said_levels : Says levels (suc (length p)) (level g)
  pub said_gone : Flags gone VALUES (λ v. has v (map (entry p) R))
  pub said_need : total g ≤ length β → Says need VALUES (under (drop (head_length β (total g)) β))

-- for each pattern that is at least t long the levels that its head entries need, where its last t
-- entries are the rest
abbrev pub Needs : List (List ℕ) → ℕ → List ℕ → Type 0
Needs P t needs =
    (i : ℕ) → i < length P → t ≤ length (get_or P i []) →
    Says (need_at needs t i) VALUES (under (drop (head_length (get_or P i []) t) (get_or P i [])))

-- the same for every total below DIGITS
pub record AllNeeds (P : List (List ℕ)) (needs : List ℕ) : Type 0 where
  pub sized : length needs ≡ NEEDS
  pub said : (t : ℕ) → t < DIGITS → Needs P t needs

-- a set of patterns and an entry's prefix and positions that went through the tests 2, 3 and 7
pub record Given (P : List (List ℕ)) (p R : List ℕ) : Type 0 where
  pub few : length P ≤ PATTERNS
  pub patterns : (i : ℕ) → i < length P → is_perm (get_or P i []) ≡ true
  pub perm : is_perm p ≡ true
  pub short : length p ≤ PREFIX
  pub inside : all (within (length p)) R ≡ true

-- what is looked up at one spacing g for every pattern, with the positions R
pub record Looked (P : List (List ℕ)) (needs : List ℕ) (p gone levels : List ℕ)
    (t : ℕ) (R g : List ℕ) : Type 0 where
  pub given : Given P p R
  pub flags : Flags gone VALUES (λ v. has v (map (entry p) R))
  pub size : length g ≡ suc (length p)
  pub whole : total g ≡ t
  pub said : Says levels (suc (length p)) (level g)
  pub needed : Needs P t needs

-- whether the pattern at place i violates at the spacing that the lists are of
abbrev pub Violates : List (List ℕ) → List ℕ → List ℕ → List ℕ → List ℕ → ℕ → ℕ → Bool → Type 0
Violates P needs p gone levels t i b = (R g : List ℕ) → Looked P needs p gone levels t R g → violates P p R g (get_or P i []) ≡ b

-- The answers, for every list of positions that the flags are of.

abbrev pub FlaggedFor : List (List ℕ) → List ℕ → List ℕ → List ℕ → Type 0
FlaggedFor P p R gone = Given P p R × Flags gone VALUES (λ v. has v (map (entry p) R))

-- the answer r at one spacing: whether it is violated there
abbrev pub SpacingAnswer : List (List ℕ) → List ℕ → List ℕ → List ℕ → List ℕ → ℕ → Bool → Type 0
SpacingAnswer P needs p gone g t r =
    (R : List ℕ) → FlaggedFor P p R gone → length g ≡ suc (length p) → total g ≡ t → Needs P t needs →
    r ≡ violated P p R g

-- at one spacing that is at least no vector of B
abbrev pub FreeAnswer : List (List ℕ) → List ℕ → List ℕ → List ℕ → List (List ℕ) → List ℕ → ℕ → Bool → Type 0
FreeAnswer P needs p gone B g t r =
    (R : List ℕ) → FlaggedFor P p R gone → length g ≡ suc (length p) → total g ≡ t → Needs P t needs →
    r ≡ (free B g && violated P p R g)

-- r says where a search over the spacings of k + 1 components found something: the spacing, and its
-- total
abbrev pub FoundAt : ℕ → Maybe (List ℕ) → Option Lost → Type 0
FoundAt k none None = Unit {0}
FoundAt k none (Some l) = ⊥
FoundAt k (some g) None = ⊥
FoundAt k (some g) (Some l) = (take (k + 1) l.spacing ≡ g) × (l.total ≡ total g)

-- at the spacings of one total: the first
abbrev pub TotalAnswer : List (List ℕ) → List ℕ → List ℕ → List (List ℕ) → ℕ → ℕ → Option Lost → Type 0
TotalAnswer P p gone B k t r =
    (R : List ℕ) → FlaggedFor P p R gone → k ≡ length p →
    FoundAt k (first (λ g. free B g && violated P p R g) (vectors (suc k) t)) r

-- The answer on an entry, under m: it is the definition's, and it says where the first violation
-- is. Where m is at least the length of the longest pattern, it is no exactly if the deletion claim
-- holds at every length.
pub record EntryAnswer (m : ℕ) (P : List (List ℕ)) (p : List ℕ) (B : List (List ℕ)) (R : List ℕ) (r : Option Lost) : Type 0 where
  pub defined : is_some r ≡ irreversible m P p B R
  pub claimed : longest P ≤ m → (is_some r ≡ false) ↔ DeletionClaim P p B R
  pub located : FoundAt (length p) (violated_first m P p B R) r
