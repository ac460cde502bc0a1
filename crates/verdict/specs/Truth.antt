-- What the claims of a scheme say at every length, and what it is to be well-formed. Definitions
-- only.
use Rattle.std.specs.Prelude.{ℕ, ◌≡◌}
use mathlib.Core.List.{List, Memᴰ}
use Rattle.word.specs.Finding.{clean, first_fault}
use Rattle.cell.specs.Claim.{GapClaim, DeletionClaim}
use Rattle.forms.specs.SchemeList.{Does, expands, deletes, EntryList}
use Rattle.scheme.specs.WellFormed.{pattern_tests, scheme_tests}

-- "A scheme is well-formed if none of 1 to 9 applies to it or to its pattern set" (01); lists are
-- spelt already
pub record WellFormed (P : List (List ℕ)) (E : List EntryList) : Type 0 where
  pub patterns : first_fault (pattern_tests P) ≡ clean
  pub scheme : first_fault (scheme_tests E) ≡ clean

-- what a rule claims, with no bound on the totals of spacings: an expanding entry claims nothing
abbrev pub RuleClaim : List (List ℕ) → List ℕ → List (List ℕ) → Does → Type 0
RuleClaim P p B expands = Unit {0}
RuleClaim P p B (deletes R) = DeletionClaim P p B R

-- the claims of an entry are true at every length: "A claim is true at every length if it holds for
-- all the spacings it speaks of, with no bound on their totals" (01)
pub record EntryTrue (P : List (List ℕ)) (e : EntryList) : Type 0 where
  pub gaps : (b : List ℕ) → Memᴰ b e.gaps → GapClaim P e.prefix b
  pub rule : RuleClaim P e.prefix e.gaps e.rule

-- all claims of a scheme
abbrev pub AllTrue : List (List ℕ) → List EntryList → Type 0
AllTrue P E = (e : EntryList) → Memᴰ e E → EntryTrue P e
