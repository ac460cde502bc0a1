-- What the code of the judge has in hand. Definitions only.
use Rattle.std.specs.Prelude.{ℕ, ◌≡◌, List, Ok, Err, Option}
use Rattle.std.proofs.Math.Option.{Option as Maybe, none, some}
use Rattle.word.specs.Finding.{first_fault}
use Rattle.word.specs.declared.refusal.Refusal.TheVariants.{Irreversible}
use Rattle.forms.specs.SchemeList.{EntryList}
use Rattle.forms.specs.SchemeMemory.{Fault, fault_of}
use Rattle.scheme.specs.WellFormed.{first_at}
use Rattle.text_page.specs.Page.{Writes}
use Rattle.lost_word.specs.Shown.{ShowsWord}
use Rattle.placing.specs.declared.tables.Word.{Word}
use Rattle.claims.specs.EntryMemory.{rule_candidate}
use Rattle.verdict.specs.Verdict.{differs_under, claim_tests, compared_cells, answered}
use Rattle.verdict.specs.Witness.{witness_bytes, indexed_entry, word_shown}
use Rattle.judge.specs.declared.deletions.Loss.{Loss}
use Rattle.judge.specs.declared.judging.Judged.{Judged}

-- what the candidate search under m shows of the entry at fault
abbrev pub entry_loss : ℕ → List (List ℕ) → Maybe EntryList → Maybe (List ℕ)
entry_loss m P none = none
entry_loss m P (some e) = rule_candidate m P e.prefix e.gaps e.rule

abbrev pub loss_shown : ℕ → List (List ℕ) → List EntryList → Fault → Maybe (List ℕ)
loss_shown m P E (Ok u) = none
loss_shown m P E (Err e) = entry_loss m P (indexed_entry E e.index)

-- test 11 on the patterns P under m: the first entry at fault, and what the search shows of it
pub record Loses (m : ℕ) (P : List (List ℕ)) (E : List EntryList) (r : Loss) : Type 0 where
  pub found : r.fault ≡ fault_of (first_at Irreversible (λ e. differs_under m P e.prefix e.gaps e.rule) 0 E)
  pub shows : ShowsWord (loss_shown m P E r.fault) r.word

-- the verdict on the claims of a well-formed scheme, and the permutation that is shown with it
pub record ClaimsJudged (P : List (List ℕ)) (E : List EntryList) (r : Judged) : Type 0 where
  pub verdict : r.verdict ≡ answered (fault_of (first_fault (claim_tests P E))) (compared_cells P E)
  pub shows : ShowsWord (word_shown P E (fault_of (first_fault (claim_tests P E)))) r.word

-- the witness for the word that is shown, if there is one, is written over the page: so many bytes
abbrev pub ShowsLost : List (List ℕ) → Option Word → List ℕ → List ℕ → ℕ → Type 0
ShowsLost P word before after r = (o : Maybe (List ℕ)) → ShowsWord o word → Writes (witness_bytes P o) 0 before after r
