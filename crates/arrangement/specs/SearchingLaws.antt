-- Laws of what a search says: a completion in hand decides, and a yes or a no is the answer.
use Rattle.std.specs.Prelude.{ℕ, ◌≡◌, refl, true, List, length, take}
use Rattle.std.proofs.Common.{sym, ap, ◌∙◌}
use Rattle.word.specs.Word.{is_perm, avoids}
use Rattle.completion.specs.Completion.{completable}
use Rattle.completion.specs.CompletionLaws.{begins_out, completable_in}
use Rattle.arrangement.specs.Searching.{Completes, Searches, Decides}
use Rattle.std.specs.Prelude.{Some, None}
use Rattle.std.proofs.lemmas.Option.{same_Some, none-some}
use Rattle.arrangement.specs.Said.{said_no}
use Rattle.arrangement.specs.declared.searched.Searched.{Searched}
use Rattle.arrangement.specs.declared.searched.Searched.TheVariants.{Completed}

-- a word with a completion in hand can be completed
pub completes_can : (P : List (List ℕ)) (n : ℕ) (u w : List ℕ) → Completes P n u w → completable P n u ≡ true
completes_can P n u w c =
    let (r, q) = begins_out u w c.front in
    completable_in P n u r (ap is_perm q ∙ c.perm) (ap length q ∙ c.size) (ap (avoids P) q ∙ c.avoids_all)

-- a search that said yes has decided, and so has one that said no
pub yes_decides : (P : List (List ℕ)) (n : ℕ) (u w : List ℕ) (r : Searched) → Searches P n u r → r ≡ Completed w → Decides P n u (Some w)
yes_decides P n u w r s e =
    let c : Completes P n u (take n w) = (rw e at s).yes refl in
    record { decided = sym (completes_can P n u (take n w) c); word = λ x q. rw (same_Some w x q) at c }

pub no_decides : (P : List (List ℕ)) (n : ℕ) (u : List ℕ) (r : Searched) → Searches P n u r → said_no r ≡ true → Decides P n u None
no_decides P n u r s e = record { decided = sym (s.no e); word = λ x q. absurd (none-some x q) }
