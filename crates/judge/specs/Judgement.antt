-- What judging promises: the whole of the first sentence of demand 3, and the witness of order 1.
-- Definitions only.
use Rattle.std.specs.Prelude.{Ok, Err, ℕ, ◌≤◌, ◌≡◌, true, List, [], ◌∷◌, ◌↔◌, length, ltb}
use Rattle.std.proofs.Math.Option.{some}
use Rattle.word.specs.Ceilings.{PAGE}
use Rattle.word.specs.Finding.{Finding, test, first_fault}
use Rattle.word.specs.Told.{told_by}
use Rattle.word.specs.declared.refusal.Refusal.TheVariants.{Irreversible, ShortPage}
use Rattle.forms.specs.SchemeList.{deletes, EntryList}
use Rattle.forms.specs.SchemeMemory.{fault_of}
use Rattle.text_page.specs.Page.{overlay}
use Rattle.word.specs.Refusal.{refused_at}
use Rattle.verdict.specs.Verdict.{Verdict, compared_cells, judge_tests, answered, verdict_of, told_verdict, accepted}
use Rattle.verdict.specs.Truth.{WellFormed, AllTrue}
use Rattle.verdict.specs.Witness.{indexed_entry, bytes_shown, Witnesses}

-- where no page is lent: the answer r to the patterns P and the scheme E
pub record JudgesWithoutPage (P : List (List ℕ)) (E : List EntryList) (r : Verdict) : Type 0 where
  -- it is the verdict as document 01 defines it, by sizes of cells
  pub verdict : r ≡ verdict_of P E
  -- the number and the value of document 01
  pub numbers : told_verdict r ≡ told_by (first_fault (judge_tests P E)) (compared_cells P E ∷ [])
  -- "accepted exactly when well-formed within the limits and all claims true at every length"
  pub exactly : (accepted r ≡ true) ↔ (WellFormed P E × AllTrue P E)
  -- "An acceptance reports the number of compared cells" (01)
  pub cells : (n : ℕ) → r ≡ Ok n → n ≡ compared_cells P E

-- "A page under 32 bytes is refused 13, tested before all else" (02, order 1)
abbrev pub page_test : ℕ → Finding
page_test n = test ShortPage (ltb n PAGE)

-- the tests where a page of n bytes is lent
abbrev pub page_tests : ℕ → List (List ℕ) → List EntryList → List Finding
page_tests n P E = page_test n ∷ judge_tests P E

abbrev pub verdict_on : ℕ → List (List ℕ) → List EntryList → Verdict
verdict_on n P E = answered (fault_of (first_fault (page_tests n P E))) (compared_cells P E)

-- "With refusal 11 the judge's lent page .. receives a witness for the refused entry .. later
-- bytes, and without refusal 11 all bytes, are untouched" (02, order 1)
abbrev pub page_after : List (List ℕ) → List EntryList → List ℕ → List ℕ
page_after P E page = overlay 0 (bytes_shown P E (fault_of (first_fault (page_tests (length page) P E)))) page

-- the page begins with a witness for the entry with index i, which deletes these positions
pub record EntryWitness (P : List (List ℕ)) (E : List EntryList) (i : ℕ) (page : List ℕ) : Type 0 where
  pub entry : EntryList
  pub positions : List ℕ
  pub at_index : indexed_entry E i ≡ some entry
  pub deleting : entry.rule ≡ deletes positions
  pub witness : Witnesses P entry.prefix entry.gaps positions page

-- the answer r to the patterns P and the scheme E, with a page that holds `before`, and then
-- `after`
pub record Judges (P : List (List ℕ)) (E : List EntryList) (before after : List ℕ) (r : Verdict) : Type 0 where
  -- 13 where the page is short, else the verdict as document 01 defines it
  pub verdict : r ≡ verdict_on (length before) P E
  pub numbers : told_verdict r ≡ told_by (first_fault (page_tests (length before) P E)) (compared_cells P E ∷ [])
  pub page : after ≡ page_after P E before
  -- "where demand 3 says that a scheme is accepted, it means judging with a page that is long
  -- enough" (02, order 1)
  pub exactly : PAGE ≤ length before → (accepted r ≡ true) ↔ (WellFormed P E × AllTrue P E)
  pub cells : (n : ℕ) → r ≡ Ok n → n ≡ compared_cells P E
  -- the same verdict as without a page
  pub same : PAGE ≤ length before → r ≡ verdict_of P E
  -- the witness, in words of mathematics
  pub witness : (i : ℕ) → r ≡ Err (refused_at Irreversible i) → EntryWitness P E i after
