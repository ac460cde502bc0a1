-- What the code that judges an entry has in hand. Definitions only.
use Rattle.std.specs.Prelude.{ℕ, ◌≤◌, ◌≡◌, true, length, Option, is_some}
use mathlib.Core.List.{List, Memᴰ}
use Rattle.std.proofs.Math.Option.{Option as Maybe, none}
use Rattle.word.specs.Ceilings.{PATTERNS}
use Rattle.word.specs.Word.{is_perm}
use Rattle.cell.specs.Candidate.{least_candidate}
use Rattle.forms.specs.SchemeList.{Does, expands, deletes, EntryList}
use Rattle.forms.specs.declared.memory.Positions.{Positions}
use Rattle.forms.specs.declared.memory.Rule.TheVariants.{Delete}
use Rattle.forms.specs.declared.memory.Entry.{Entry}
use Rattle.lost_word.specs.Shown.{ShowsWord}
use Rattle.placing.specs.declared.tables.Word.{Word}
use Rattle.verdict.specs.Verdict.{differs_under, compared_with_under}

-- a set in memory of at most PATTERNS permutations
pub record ProperSet (P : List (List ℕ)) : Type 0 where
  pub few : length P ≤ PATTERNS
  pub perms : (β : List ℕ) → Memᴰ β P → is_perm β ≡ true

-- the entry deletes the positions d
abbrev pub DeletesAt : Entry → Positions → Type 0
DeletesAt e d = e.rule ≡ Delete d

-- what the candidate search shows of an entry: for an expanding one nothing, and for a deletion the
-- least word at the first violated spacing that is compared under m
unfoldable pub rule_candidate : ℕ → List (List ℕ) → List ℕ → List (List ℕ) → Does → Maybe (List ℕ)
unfolding least_candidate
rule_candidate m P p B expands = none
rule_candidate m P p B (deletes R) = least_candidate m P p B R

-- the answer of test 11 on an entry: whether some sizes that are compared under m differ, and the
-- word that is shown
pub record LostAnswer (m : ℕ) (P : List (List ℕ)) (e : EntryList) (r : Option Word) : Type 0 where
  pub said : is_some r ≡ differs_under m P e.prefix e.gaps e.rule
  pub shows : ShowsWord (rule_candidate m P e.prefix e.gaps e.rule) r

-- C(14, 7), the compared cells of an entry at most: DIGITS + PREFIX and PREFIX + 1
-- (ComparedLaws.binomial_small)
abbrev pub COMPARED : ℕ
COMPARED = 3432

-- the number of cells of an entry that are compared under m; it is small
pub record ComparedAnswer (m : ℕ) (e : EntryList) (r : ℕ) : Type 0 where
  pub compares : r ≡ compared_with_under m e.prefix e.gaps e.rule
  pub small : r ≤ COMPARED
