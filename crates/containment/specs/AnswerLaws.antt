-- Laws of what is answered: `contains` says yes exactly if the pattern is contained, and `any_in`
-- exactly if `earliest_in` shows a copy.
use Rattle.std.specs.Prelude.{ℕ, ◌≡◌, refl, Bool, not, List, is_some, Option, Result, Ok, Err}
use Rattle.std.proofs.Common.{ap, ◌∙◌}
use Rattle.word.specs.Word.{contains, first_copy, avoids}
use Rattle.word.specs.Finding.{clean, first_fault}
use Rattle.word.specs.Earliest.{Earliest, nowhere, stands, earliest, is_nowhere}
use Rattle.word.specs.declared.refusal.Refused.{Refused}
use Rattle.word.proofs.EarliestLaws.{earliest_avoids}
use Rattle.copy_search.specs.Copy.{shown}
use Rattle.copy_search.specs.ShownLaws.{found_contains}
use Rattle.containment.specs.SetCopies.{shown_in}
use Rattle.containment.specs.Containment.{containment_tests, containment}

-- an answer without its positions: yes, no, or a refusal
abbrev pub contained : Result (Option (List ℕ)) Refused → Result Bool Refused
contained (Ok copy) = Ok (is_some copy)
contained (Err r) = Err r

-- where nothing is refused, `contains` answers yes exactly if the pattern is contained
pub yes_exactly : (β w : List ℕ) → first_fault (containment_tests β w) ≡ clean → contained (containment β w) ≡ Ok (contains β w)
yes_exactly β w e = rw e (ap Ok (found_contains β w (shown (first_copy β w)) refl))

-- what `any_in` answers is whether there is a copy that `earliest_in` shows
pub shown_any : (P : List (List ℕ)) (w : List ℕ) → is_some (shown_in (earliest P w)) ≡ not (avoids P w)
shown_any P w = go (earliest P w) ∙ ap not (earliest_avoids P w)
  where
    go : (e : Earliest) → is_some (shown_in e) ≡ not (is_nowhere e)
    go nowhere = refl
    go (stands i at) = refl
