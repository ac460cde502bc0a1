-- "The number listed must be the count that an accepted scheme gives" (02, order 2).
use Rattle.std.specs.Prelude.{ℕ, ◌≡◌, true, List, length}
use Rattle.std.proofs.Common.{sym, ◌∙◌}
use Rattle.word.specs.Listing.{first_avoider, Follows}
use Rattle.word.specs.ListingLaws.{follows_number}
use Rattle.forms.specs.SchemeList.{EntryList}
use Rattle.verdict.specs.Value.{count_of}
use Rattle.verdict.specs.Verdict.{verdict_of, accepted}
use Rattle.verdict.specs.VerdictLaws.{accepted_exactly}
use Rattle.verdict.specs.ValueLaws.{count_avoiders}

-- the words listed by following next from the first are as many as the scheme counts
pub listed_counted : (P : List (List ℕ)) (E : List EntryList) → accepted (verdict_of P E) ≡ true → (n : ℕ) (l : List (List ℕ)) →
    Follows P (first_avoider P n) l → length l ≡ count_of P E n
listed_counted P E a n l f =
    let (formed, claims) = (accepted_exactly P E).0 a in follows_number P n l f ∙ sym (count_avoiders P E formed claims n)
